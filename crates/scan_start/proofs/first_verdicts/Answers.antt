-- `scan_start::first_verdicts` meets its contract. The loop's invariant: the stations passed have their verdicts. Assumes nothing.
use Rattle.std.proofs.Common.{arith, length}
use Rattle.lists.specs.Tab.{is_tab}
use Rattle.scan_start.specs.Start.{first_at}
use Rattle.scan_start.proofs.first_verdicts.Goals as goal

pub returns : goal.returns
returns c =
    is_tab 0 (length c.args.stations.now) (first_at c.args.terms.now c.args.stations.now) c.loop-k.verdict (omega arith) (λ k h. c.loop-k.invariant k (omega arith))
