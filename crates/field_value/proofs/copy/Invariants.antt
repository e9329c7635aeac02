-- The loop's invariant of `field_value::copy`: the places passed are copied.
use Rattle.std.proofs.Common.{◌≡◌, ◌<◌, ℕ, get_or}
use Rattle.field_value.proofs.copy.Given as goal

abbrev pub invariant-loop-k : goal.invariant-loop-k
invariant-loop-k g l = (past : _) (i : ℕ) → i < l.k → get_or l.to i past ≡ get_or l.from i past
