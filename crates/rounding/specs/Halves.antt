-- Half of the divisor, added on the number's own side of zero, makes the quotient toward zero the rounded one.
use Rattle.std.specs.Prelude.{ℕ, suc, ◌+◌, ◌*◌, ◌≡◌, refl, true, false, ℤ, pos, negsuc, neg_ℤ, ◌+ℤ◌, ◌-ℤ◌, ◌*ℤ◌}
use Rattle.std.proofs.Common.{arith}
use Rattle.std.specs.Int.Signed.{lt_z, quot_z}
use Rattle.integers.specs.Parts.{eq_parts, minus_parts, mul_parts, neg_up, neg_dn}
use Rattle.integers.specs.Sizes.{quot_neg}
use Rattle.integers.specs.Order.{less_parts, not_less_parts}
use Rattle.scheme.specs.Rounding.{rounded}

-- ---- the quotient

below_zero : (n d : ℕ) → pos 2 *ℤ negsuc n -ℤ pos d ≡ neg_ℤ (pos (2 * suc n + d))
below_zero n d =
    eq_parts (pos 2 *ℤ negsuc n -ℤ pos d) (neg_ℤ (pos (2 * suc n + d)))
    (omega (
      arith,
      minus_parts (pos 2 *ℤ negsuc n) (pos d),
      mul_parts (pos 2) (negsuc n),
      neg_up (pos (2 * suc n + d)),
      neg_dn (pos (2 * suc n + d)),
    ))

pub quotient_below : (n : ℤ) (d : ℕ) → lt_z n (pos 0) ≡ true → quot_z (pos 2 *ℤ n -ℤ pos d) (pos (2 * d)) ≡ rounded n d
unfolding rounded
quotient_below (pos n) d e = absurd (omega (arith, less_parts (pos n) (pos 0) e))
quotient_below (negsuc n) d e = rw (below_zero n d) (quot_neg (2 * suc n + d) (2 * d))

pub quotient_above : (n : ℤ) (d : ℕ) → lt_z n (pos 0) ≡ false → quot_z (pos 2 *ℤ n +ℤ pos d) (pos (2 * d)) ≡ rounded n d
unfolding rounded
quotient_above (pos n) d e = refl
quotient_above (negsuc n) d e = absurd (omega (arith, not_less_parts (negsuc n) (pos 0) e))
