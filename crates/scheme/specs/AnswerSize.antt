-- The answer to an accepted request is below 56,000 bytes: its values have at most 8 digits and a sign, support and verdicts at most 2 digits.
use Prim.Native.Nat.{◌≤◌}
use Rattle.scheme.specs.Difference.{Row}

abbrev pub Small : Row → Type 0
Small r = r.verdict ≤ 26
