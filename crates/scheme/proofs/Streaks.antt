-- What holds of every weight, in both modes: it lies in 0..scale and is 0 from the radius on. Along the wind (document 02, 5) it is never below the
-- round weight, is equal to it across the wind, and changes neither with the wind's sign nor with its strength.
use Rattle.std.specs.Prelude.{ℕ, ◌+◌, ◌*◌, ◌≤◌, ◌<◌, ◌≡◌, ◌⊎◌, Bool, cond, ◌&&◌, eqb, ℤ, pos, negsuc, neg_ℤ, nat_abs, ◌*ℤ◌}
use native.Mathlib.Omega.{arith}
use Rattle.std.proofs.Common.{mul-pos, mul-le-mul_left, sym, ap, ◌∙◌, inl, inr, lt-ltb, le-ltb, ltb-true}
use Rattle.std.proofs.Math.Path.{refl}
use Rattle.std.proofs.Math.Bool.{true, false, not}
use Rattle.std.proofs.lemmas.Bool.{lt-leb}
use Rattle.std.proofs.Math.Dec.{ltb}
use Rattle.std.specs.Int.Signed.{le_z}
use Rattle.integers.specs.Parts.{eq_parts, mul_parts, neg_up, neg_dn}
use Rattle.integers.specs.Sizes.{size_mul}
use Rattle.integers.specs.Ring.{mul-add, mul_assoc}
use Rattle.lists.specs.Tests.{lt_or_le, true_or_false, and_true, ltb_same}
use Rattle.scheme.specs.Units.{Wind, most_wind, missing_mark, is_missing, is_no_wind, round_mode, wind_mode}
use Rattle.scheme.specs.Weight.{scale, weight, square, squares, inside, along, strength, stretched, blows, weight_at}
use Rattle.scheme.proofs.Weights.{weight_beyond, weight_most, inside_alone, weight_at_station, weight_grows, weight_scaled}
use Rattle.scheme.specs.Streaks.{Fair, times, turned}

-- ---- the cases of a weight

module _ (mode r2 : ℕ) (w : Wind) (dx dy : ℤ) where
  pub no_weight_outside : r2 ≤ squares dx dy → weight_at mode r2 w dx dy ≡ 0
  unfolding weight_at
  no_weight_outside h = rw (le-ltb (squares dx dy) r2 h)

  pub weight_inside : squares dx dy < r2
      → weight_at mode r2 w dx dy ≡ cond (blows mode w dx dy) (stretched r2 w dx dy) (weight r2 (squares dx dy))
  unfolding weight_at
  weight_inside h = rw (lt-ltb (squares dx dy) r2 h)

  -- where no wind blows it is the round weight, which from the radius on is 0 too
  pub round_if_still : blows mode w dx dy ≡ false → weight_at mode r2 w dx dy ≡ weight r2 (squares dx dy)
  round_if_still e = go (lt_or_le (squares dx dy) r2)
    where
      go : (squares dx dy < r2) ⊎ (r2 ≤ squares dx dy) → weight_at mode r2 w dx dy ≡ weight r2 (squares dx dy)
      go (inl h) = rw (weight_inside h, e)
      go (inr h) = no_weight_outside h ∙ sym (weight_beyond r2 (squares dx dy) h)

  pub weight_lies_in_the_scale : weight_at mode r2 w dx dy ≤ scale
  weight_lies_in_the_scale = go (lt_or_le (squares dx dy) r2) (true_or_false (blows mode w dx dy))
    where
      go : (squares dx dy < r2) ⊎ (r2 ≤ squares dx dy) → (blows mode w dx dy ≡ true) ⊎ (blows mode w dx dy ≡ false) → weight_at mode r2 w dx dy ≤ scale
      go (inr h) b = rw (no_weight_outside h) (omega arith)
      go (inl h) (inl b) = rw (weight_inside h, b) (unfold stretched in weight_most _ _)
      go (inl h) (inr b) = rw (round_if_still b) (weight_most r2 (squares dx dy))

  -- at most the whole scale inside the radius, and nothing outside
  pub weight_inside_alone : weight_at mode r2 w dx dy ≤ scale * cond (inside r2 dx dy) 1 0
  weight_inside_alone = inside_alone (weight_at mode r2 w dx dy) r2 (squares dx dy) weight_lies_in_the_scale no_weight_outside

-- in mode 0 no wind is read
pub still_in_mode_0 : (w : Wind) (dx dy : ℤ) → blows round_mode w dx dy ≡ false
unfolding blows
still_in_mode_0 w dx dy = refl

-- nor is one that is missing
pub still_if_missing : (mode : ℕ) (w : Wind) (dx dy : ℤ) → is_no_wind w ≡ true → blows mode w dx dy ≡ false
unfolding blows
still_if_missing mode w dx dy e = rw e (go (eqb mode wind_mode))
  where
    go : (b : Bool) → b && false && ltb 0 (strength w * squares dx dy) ≡ false
    go true = refl
    go false = refl

-- nor is any at the station itself, which has there the whole scale
pub at_the_station_weighs_all : (mode r2 : ℕ) (w : Wind) → 0 < r2 → weight_at mode r2 w (pos 0) (pos 0) ≡ scale
at_the_station_weighs_all mode r2 w some = round_if_still mode r2 w (pos 0) (pos 0) still ∙ weight_at_station r2 some
  where
    still : blows mode w (pos 0) (pos 0) ≡ false
    still = unfold blows in (let e : strength w * 0 ≡ 0 = omega arith in rw e (go (eqb mode wind_mode && not (is_no_wind w))))
      where
        go : (b : Bool) → b && false ≡ false
        go true = refl
        go false = refl

pub blown : (mode : ℕ) (w : Wind) (dx dy : ℤ) → blows mode w dx dy ≡ true → 0 < strength w * squares dx dy
unfolding blows
blown mode w dx dy e = ltb-true 0 (strength w * squares dx dy) (and_true (eqb mode wind_mode && not (is_no_wind w)) _ e).1

-- ---- the stretched weight beside the round one

module _ (r2 : ℕ) (w : Wind) (dx dy : ℤ) (near : squares dx dy < r2) (windy : 0 < strength w * squares dx dy) where
  abbrev d2 : ℕ
  d2 = squares dx dy

  -- the effective squared radius is no smaller than R²
  pub lower_within : strength w * d2 * d2 ≤ r2 * (strength w * d2 + square (along w dx dy))
  lower_within = omega (arith, mul-le-mul_left (strength w * d2) near)

  pub upper_some : 0 < r2 * (strength w * d2 + square (along w dx dy))
  upper_some = mul-pos {m = r2} {n = strength w * d2 + square (along w dx dy)} (omega arith) (omega arith)

  stretched_least : weight r2 d2 ≤ stretched r2 w dx dy
  unfolding stretched
  stretched_least =
      weight_grows r2 d2 (r2 * (strength w * d2 + square (along w dx dy))) (strength w * d2 * d2) (omega arith) upper_some (omega arith) lower_within
      (omega arith)

  stretched_across : square (along w dx dy) ≡ 0 → stretched r2 w dx dy ≡ weight r2 d2
  unfolding stretched
  stretched_across e =
      let f : r2 * (strength w * d2 + square (along w dx dy)) ≡ strength w * d2 * r2 = rw e (omega arith) in
      rw f (weight_scaled (strength w * d2) r2 d2 windy)

module _ (mode r2 : ℕ) (w : Wind) (dx dy : ℤ) where
  pub wind_never_weakens : weight r2 (squares dx dy) ≤ weight_at mode r2 w dx dy
  wind_never_weakens = go (lt_or_le (squares dx dy) r2) (true_or_false (blows mode w dx dy))
    where
      go : (squares dx dy < r2) ⊎ (r2 ≤ squares dx dy) → (blows mode w dx dy ≡ true) ⊎ (blows mode w dx dy ≡ false)
          → weight r2 (squares dx dy) ≤ weight_at mode r2 w dx dy
      go (inr h) b = rw (weight_beyond r2 (squares dx dy) h) (omega arith)
      go (inl h) (inl b) = rw (weight_inside mode r2 w dx dy h, b) (stretched_least r2 w dx dy h (blown mode w dx dy b))
      go (inl h) (inr b) = rw (round_if_still mode r2 w dx dy b) (omega arith)

  -- with the wind at right angles to the offset
  pub across_the_wind_is_round : along w dx dy ≡ pos 0 → weight_at mode r2 w dx dy ≡ weight r2 (squares dx dy)
  across_the_wind_is_round e = go (lt_or_le (squares dx dy) r2) (true_or_false (blows mode w dx dy))
    where
      go : (squares dx dy < r2) ⊎ (r2 ≤ squares dx dy) → (blows mode w dx dy ≡ true) ⊎ (blows mode w dx dy ≡ false)
          → weight_at mode r2 w dx dy ≡ weight r2 (squares dx dy)
      go (inr h) b = no_weight_outside mode r2 w dx dy h ∙ sym (weight_beyond r2 (squares dx dy) h)
      go (inl h) (inl b) = rw (weight_inside mode r2 w dx dy h, b) (stretched_across r2 w dx dy h (blown mode w dx dy b) (rw e))
      go (inl h) (inr b) = round_if_still mode r2 w dx dy b

-- ---- the wind's strength and sign

small_is_no_mark : (z : ℤ) → nat_abs z ≤ most_wind → is_missing z ≡ false
unfolding is_missing
small_is_no_mark (pos n) h = refl
small_is_no_mark (negsuc n) h = rw (lt-leb 2147483647 n (omega arith)) (go (le_z missing_mark (negsuc n)))
  where
    go : (b : Bool) → b && false ≡ false
    go true = refl
    go false = refl

pub fair_is_there : (w : Wind) → Fair w → is_no_wind w ≡ false
unfolding is_no_wind
fair_is_there w h = rw (small_is_no_mark w.u h.0)

square_times : (k z : ℤ) → square (k *ℤ z) ≡ square k * square z
square_times k z = rw (size_mul k z) (omega arith)

strength_times : (k : ℤ) (w : Wind) → strength (times k w) ≡ square k * strength w
strength_times k w = rw (square_times k w.u, square_times k w.v) (omega arith)

along_times : (k : ℤ) (w : Wind) (dx dy : ℤ) → along (times k w) dx dy ≡ k *ℤ along w dx dy
along_times k w dx dy = rw (mul_assoc k w.u dx, mul_assoc k w.v dy) (sym (mul-add k (w.u *ℤ dx) (w.v *ℤ dy)))

module _ (k : ℤ) (some : 0 < nat_abs k) (w : Wind) (dx dy : ℤ) where
  some_square : 0 < square k
  some_square = mul-pos {m = nat_abs k} {n = nat_abs k} some some

  stretched_times : (r2 : ℕ) → stretched r2 (times k w) dx dy ≡ stretched r2 w dx dy
  unfolding stretched
  stretched_times r2 =
      rw (strength_times k w, along_times k w dx dy, square_times k (along w dx dy))
      (let e : r2 * (square k * strength w * squares dx dy + square k * square (along w dx dy))
      ≡ square k * (r2 * (strength w * squares dx dy + square (along w dx dy))) = omega arith in
      let f : square k * strength w * squares dx dy * squares dx dy ≡ square k * (strength w * squares dx dy * squares dx dy) = omega arith in
      rw (e, f) (weight_scaled (square k) _ _ some_square))

  blows_times : (mode : ℕ) → is_no_wind w ≡ false → is_no_wind (times k w) ≡ false → blows mode (times k w) dx dy ≡ blows mode w dx dy
  unfolding blows
  blows_times mode e f =
      rw (e, f)
      (ap (λ (b : Bool). (eqb mode wind_mode && true) && b)
      (ap (λ (n : ℕ). ltb 0 (n * squares dx dy)) (strength_times k w)
      ∙ ltb_same 0 (square k * strength w * squares dx dy) 0 (strength w * squares dx dy) less (λ h. more h)))
    where
      product : square k * strength w * squares dx dy ≡ square k * (strength w * squares dx dy)
      product = omega arith

      less : 0 < square k * strength w * squares dx dy → 0 < strength w * squares dx dy
      less h = go (lt_or_le 0 (strength w * squares dx dy))
        where
          go : (0 < strength w * squares dx dy) ⊎ (strength w * squares dx dy ≤ 0) → 0 < strength w * squares dx dy
          go (inl l) = l
          go (inr l) = absurd (omega (arith, h, product, mul-le-mul_left (square k) l))

      more : 0 < strength w * squares dx dy → 0 < square k * strength w * squares dx dy
      more h = omega (arith, product, mul-pos {m = square k} {n = strength w * squares dx dy} some_square h)

  pub stronger_wind_weighs_alike : (mode r2 : ℕ) → Fair w → Fair (times k w) → weight_at mode r2 (times k w) dx dy ≡ weight_at mode r2 w dx dy
  unfolding weight_at
  stronger_wind_weighs_alike mode r2 h l =
      rw (blows_times mode (fair_is_there w h) (fair_is_there (times k w) l), stretched_times r2)

minus_one : (z : ℤ) → neg_ℤ z ≡ negsuc 0 *ℤ z
minus_one z = eq_parts (neg_ℤ z) (negsuc 0 *ℤ z) (omega (arith, neg_up z, neg_dn z, mul_parts (negsuc 0) z))

pub turned_is : (w : Wind) → turned w ≡ times (negsuc 0) w
turned_is w = rw (minus_one w.u, minus_one w.v)

pub turned_fair : (w : Wind) → Fair w → Fair (times (negsuc 0) w)
turned_fair w h = (rw (size_mul (negsuc 0) w.u) (omega (arith, h.0)), rw (size_mul (negsuc 0) w.v) (omega (arith, h.1)))

pub turned_wind_weighs_alike : (mode r2 : ℕ) (w : Wind) (dx dy : ℤ) → Fair w → weight_at mode r2 (turned w) dx dy ≡ weight_at mode r2 w dx dy
turned_wind_weighs_alike mode r2 w dx dy h =
    rw (turned_is w) (stronger_wind_weighs_alike (negsuc 0) (omega arith) w dx dy mode r2 h (turned_fair w h))
