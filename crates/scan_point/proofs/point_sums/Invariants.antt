use Prim.Native.Nat.{◌+◌, ◌-◌}
use Rattle.std.proofs.Common.{length}
use Rattle.scan_point.specs.Near.{Summed}
use Rattle.scan_point.specs.Entries.{near_share, Behind}
use Rattle.scan_point.proofs.point_sums.Given as goal

abbrev pub invariant-loop-rest : goal.invariant-loop-rest
invariant-loop-rest g l = Behind l.near l.rest × Summed (near_share l.near l.r2 l.i) (length l.near - length l.rest + 0) l.s.w l.s.wd

abbrev pub decreases-loop-rest : goal.decreases-loop-rest
decreases-loop-rest g l = length l.rest

abbrev pub invariant-loop-station : goal.invariant-loop-station
invariant-loop-station g l =
    Behind l.near l.station-items × Summed (near_share l.near l.r2 l.i) (length l.near - length l.station-items + l.station-index) l.s.w l.s.wd
