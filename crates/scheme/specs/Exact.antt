-- "This double is exact": a whole number below 2^53 as a double, divided by a power of 2, loses nothing. So no reading and no summary is
-- rounded, over any i32 values and any grid.
use Rattle.std.specs.Prelude.{◌≡◌, Bool, cond, ℤ, pos, negsuc, Float}
use Rattle.std.proofs.Math.Bool.{true, false}
use Rattle.std.specs.Int.Signed.{le_z}
use Rattle.std.specs.Float.Ieee.Exact.{HasValue}
use Rattle.scheme.specs.declared.Units.{Units}
use Rattle.scheme.specs.Readings.{positive_zero}

abbrev pub negative : ℤ → Bool
negative (pos n) = false
negative (negsuc n) = true

abbrev pub lesser : ℤ → ℤ → ℤ
lesser a b = cond (le_z a b) a b

abbrev pub greater : ℤ → ℤ → ℤ
greater a b = cond (le_z a b) b a

-- it is zero, of either sign
abbrev pub IsZero : Float → Type 0
IsZero x = (s : Bool) × HasValue x s 0 1

pub record ZerosPositive (u : Units) : Type 0 where
  pub lowest_zero : IsZero u.lowest → u.lowest ≡ positive_zero
  pub highest_zero : IsZero u.highest → u.highest ≡ positive_zero
  pub span_zero : IsZero u.span → u.span ≡ positive_zero
