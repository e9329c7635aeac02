-- A sixteenth by a shift, which takes the next lower number: lifted by half of sixteen, less one below zero, it is the rounded one.
use Rattle.std.specs.Prelude.{ℕ, suc, ◌+◌, ◌-◌, ◌/◌, ◌≤◌, ◌<◌, ◌≡◌, ◌⊎◌, true, false, ℤ, pos, negsuc, neg_ℤ, ◌+ℤ◌}
use Rattle.std.proofs.Common.{arith, ap, ◌∙◌, inl, inr}
use Rattle.std.specs.Int.Signed.{lt_z, shr_z}
use Rattle.integers.specs.Parts.{eq_parts, add_parts}
use Rattle.integers.specs.Order.{less_parts, not_less_parts}
use Rattle.lists.specs.Tests.{lt_or_le}
use Rattle.scheme.specs.Rounding.{half_up, rounded}

abbrev lifted : ℤ → ℤ
lifted n = n +ℤ pos 7

-- below zero: by less than a half, or by more
less_than_half : (a : ℕ) → a < 7 → lifted (negsuc a) ≡ pos (6 - a)
less_than_half a h = eq_parts (lifted (negsuc a)) (pos (6 - a)) (omega (arith, add_parts (negsuc a) (pos 7)))

half_or_more : (a : ℕ) → 7 ≤ a → lifted (negsuc a) ≡ negsuc (a - 7)
half_or_more a h = eq_parts (lifted (negsuc a)) (negsuc (a - 7)) (omega (arith, add_parts (negsuc a) (pos 7)))

pub shifted_below : (n : ℤ) → lt_z n (pos 0) ≡ true → shr_z (n +ℤ pos 7) 16 ≡ rounded n 16
unfolding rounded
shifted_below (pos n) e = absurd (omega (arith, less_parts (pos n) (pos 0) e))
shifted_below (negsuc a) e = go (lt_or_le a 7)
  where
    go : (a < 7) ⊎ (7 ≤ a) → shr_z (lifted (negsuc a)) 16 ≡ neg_ℤ (pos (half_up (suc a) 16))
    go (inl h) =
        let l : (6 - a) / 16 ≡ 0 = omega arith in
        let r : 0 ≡ half_up (suc a) 16 = omega arith in
        ap (λ (t : ℤ). shr_z t 16) (less_than_half a h) ∙ ap pos l ∙ ap (λ (k : ℕ). neg_ℤ (pos k)) r
    go (inr h) =
        let r : suc ((a - 7) / 16) ≡ half_up (suc a) 16 = omega arith in
        ap (λ (t : ℤ). shr_z t 16) (half_or_more a h) ∙ ap (λ (k : ℕ). neg_ℤ (pos k)) r

pub shifted_above : (n : ℤ) → lt_z n (pos 0) ≡ false → shr_z (n +ℤ pos 8) 16 ≡ rounded n 16
unfolding rounded
shifted_above (pos n) e = let r : (n + 8) / 16 ≡ half_up n 16 = omega arith in ap pos r
shifted_above (negsuc n) e = absurd (omega (arith, not_less_parts (negsuc n) (pos 0) e))
