-- The loop's invariant of `scan_smoothing::smooth_row`: the columns passed are made from the two kept rows and the row below, and nothing else of
-- the grid has changed.
use Rattle.std.proofs.Common.{◌+◌, ◌-◌, pos}
use Rattle.lists.specs.Filled.{Filled}
use Rattle.scan_smoothing.specs.Pattern.{new_at}
use Rattle.scan_smoothing.proofs.smooth_row.Given as goal

abbrev pub invariant-loop-i : goal.invariant-loop-i
invariant-loop-i l =
    Filled (pos 0) (λ k. new_at l.above l.here l.initial.z (l.base + l.nx) (k - (l.base + 1))) (l.base + 1) (l.base + 1 + l.i) l.initial.z l.z
