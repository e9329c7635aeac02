-- The support byte: bit scan-1 is set exactly where some accepted row has a nonzero weight in that scan, and without smoothing a point
-- with no support keeps its first guess.
use Prim.Native.Nat.{ℕ, ◌/◌, ◌%◌, ◌<◌, ◌^◌}
use Rattle.std.specs.Prelude.{◌≡◌, Bool, eqb}
use Rattle.std.proofs.Math.Bool.{true}
use Rattle.scheme.specs.Verdicts.{is_accepted}
use Rattle.scheme.specs.Difference.{Row}
use Rattle.scheme.specs.Gifts.{weight_there}

-- bit k of a number
unfoldable pub bit : ℕ → ℕ → Bool
bit k n = eqb (n / 2 ^ k % 2) 1

-- the row is accepted, and has a nonzero weight at point (i, j)
abbrev pub Weighs : (mode radius i j : ℕ) → Row → Type 0
Weighs mode radius i j r = (is_accepted r.verdict ≡ true) × (0 < weight_there mode radius i j r)
