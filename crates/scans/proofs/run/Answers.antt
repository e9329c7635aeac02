-- `scans::run` meets its contract. The loop's invariant: the slices hold the state after the scans made. Assumes nothing.
use Rattle.std.proofs.Common.{arith, ◌≡◌}
use Rattle.scans.specs.Run.{scan_ready, next, whole}
use Rattle.scans.proofs.run.Goals as goal

pub scan-requires : goal.scan-requires
scan-requires c = scan_ready c.loop-m.invariant c.loop-m-test.true

pub loop-m-preserved : goal.loop-m-preserved
loop-m-preserved c = next c.loop-m.invariant c.loop-m-test.true c.scan.ensures

pub returns : goal.returns
returns c =
    let e : c.loop-m.m ≡ c.args.request.now.terms.scans = omega arith in
    whole (rw e at c.loop-m.invariant)
