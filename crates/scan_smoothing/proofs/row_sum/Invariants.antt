-- The loop's invariant of `scan_smoothing::row_sum`: the sum is that of the places passed.
use Rattle.std.proofs.Common.{◌≡◌}
use Rattle.std.specs.Prelude.{pos, ◌+ℤ◌}
use Rattle.lists.specs.Sums.{up_to}
use Rattle.scan_smoothing.specs.Pattern.{term}
use Rattle.scan_smoothing.proofs.row_sum.Given as goal

abbrev pub invariant-loop-a : goal.invariant-loop-a
invariant-loop-a l = l.sum ≡ up_to (pos 0) ◌+ℤ◌ l.a (term l.z l.p l.b)
