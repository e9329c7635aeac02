-- "One scan", Rounding: every quotient named 'rounded' goes to the nearest whole number, halves away from zero: 5/2 gives 3, -5/2 gives -3.
use Rattle.std.specs.Prelude.{ℕ, suc, ◌+◌, ◌*◌, ◌/◌, ℤ, pos, negsuc, neg_ℤ}

-- n / d + 1/2, its whole part
abbrev pub half_up : ℕ → ℕ → ℕ
half_up n d = (2 * n + d) / (2 * d)

-- n / d, rounded
unfoldable pub rounded : ℤ → ℕ → ℤ
rounded (pos n) d = pos (half_up n d)
rounded (negsuc n) d = neg_ℤ (pos (half_up (suc n) d))
