-- `scans::buddies_if` meets its contract: on, all are judged by B and L; off, nobody is nearer than 0. Assumes nothing.
use Rattle.scans.specs.Ready.{left_alone}
use Rattle.scans.proofs.buddies_if.Goals as goal

pub returns-else-t : goal.returns-else-t
returns-else-t c = left_alone c.args.t.now c.args.stations.now c.args.scan c.args.verdict.now c.args.d.now c.if-t.false
