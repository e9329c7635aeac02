-- A weight along the wind, by what the code goes by: V of the wind, a missing one taken as calm, and q = u·dx + v·dy. The products on the way fit
-- 63 bits.
use Rattle.std.specs.Prelude.{ℕ, ◌+◌, ◌-◌, ◌*◌, ◌/◌, ◌%◌, ◌≤◌, ◌<◌, ◌≡◌, refl, ◌⊎◌, Bool, true, false, cond, leb, ltb, eqb, ℤ, nat_abs, ◌+ℤ◌, ◌*ℤ◌}
use Rattle.std.proofs.Common.{arith, mul-le-mul, zero-mul, ap, ◌∙◌, inl, inr}
use Rattle.std.proofs.Math.Path.{sym}
use borrow.Author.Tests.{le-leb, lt-leb, eq-eqb, ne_eqb, lt-ltb, le-ltb}
use Rattle.std.proofs.Math.IntN.{pos}
use Rattle.integers.specs.Sizes.{size_add, size_mul}
use Rattle.integers.specs.Fractions.{two_steps}
use Rattle.lists.specs.Tests.{lt_or_le, true_or_false, cond_both}
use Rattle.scheme.specs.Units.{most_radius, Wind, most_wind, is_no_wind, wind_mode}
use Rattle.scheme.specs.Weight.{scale, weight, square, squares, along, strength, stretched, blows, weight_at}
use Rattle.scheme.specs.Most.{most_square}
use Rattle.scheme.proofs.Weights.{weight_beyond, weight_most}
use Rattle.scheme.specs.Streaks.{Fair}
use Rattle.scheme.proofs.Streaks.{no_weight_outside, weight_inside, round_if_still, still_if_missing}

-- a missing wind gives the round weight, as a calm one does
unfoldable pub calmed : Wind → Wind
calmed w = cond (is_no_wind w) (record { u = pos 0; v = pos 0 }) w

unfoldable pub weight_by : (r2 d2 w2 : ℕ) (q : ℤ) → ℕ
weight_by r2 d2 w2 q =
    cond (leb r2 d2) 0 (cond (eqb (w2 * d2) 0) (weight r2 d2) (weight (r2 * (w2 * d2 + square q)) (w2 * d2 * d2)))

-- ---- its cases

module _ (r2 d2 w2 : ℕ) (q : ℤ) where
  pub beyond : r2 ≤ d2 → weight_by r2 d2 w2 q ≡ 0
  unfolding weight_by
  beyond h = rw (le-leb r2 d2 h)

  pub calm : d2 < r2 → w2 * d2 ≡ 0 → weight_by r2 d2 w2 q ≡ weight r2 d2
  unfolding weight_by
  calm h e = rw (lt-leb r2 d2 h, eq-eqb (w2 * d2) 0 e)

  pub windy : d2 < r2 → 0 < w2 * d2 → weight_by r2 d2 w2 q ≡ weight (r2 * (w2 * d2 + square q)) (w2 * d2 * d2)
  unfolding weight_by
  windy h some = rw (lt-leb r2 d2 h, ne_eqb (w2 * d2) 0 (λ e. omega arith))

pub weight_by_most : (r2 d2 w2 : ℕ) (q : ℤ) → weight_by r2 d2 w2 q ≤ scale
unfolding weight_by
weight_by_most r2 d2 w2 q =
    cond_both (λ (n : ℕ). n ≤ scale) (leb r2 d2) 0 _ (λ e. omega arith)
    (λ e. cond_both (λ (n : ℕ). n ≤ scale) (eqb (w2 * d2) 0) (weight r2 d2) (weight (r2 * (w2 * d2 + square q)) (w2 * d2 * d2)) (λ f. weight_most r2 d2) (λ f. weight_most _ _))

-- ---- it is the weight of mode 1

none_or_some : (n : ℕ) → (n ≡ 0) ⊎ (0 < n)
none_or_some n = go (lt_or_le 0 n)
  where
    go : (0 < n) ⊎ (n ≤ 0) → (n ≡ 0) ⊎ (0 < n)
    go (inl h) = inr h
    go (inr h) = inl (omega arith)

module _ (r2 : ℕ) (w : Wind) (dx dy : ℤ) where
  blows_if_some : is_no_wind w ≡ false → blows wind_mode w dx dy ≡ ltb 0 (strength w * squares dx dy)
  unfolding blows
  blows_if_some e = rw e

  missing_is_calm : is_no_wind w ≡ true → weight_at wind_mode r2 w dx dy ≡ weight_by r2 (squares dx dy) (strength (calmed w)) (along (calmed w) dx dy)
  unfolding calmed
  missing_is_calm e =
      round_if_still wind_mode r2 w dx dy (still_if_missing wind_mode w dx dy e) ∙ rw e (go (lt_or_le (squares dx dy) r2))
    where
      go : (squares dx dy < r2) ⊎ (r2 ≤ squares dx dy)
          → weight r2 (squares dx dy) ≡ weight_by r2 (squares dx dy) (strength (record { u = pos 0; v = pos 0 })) (along (record { u = pos 0; v = pos 0 }) dx dy)
      go (inl h) = sym (calm r2 (squares dx dy) 0 _ h (zero-mul (squares dx dy)))
      go (inr h) = weight_beyond r2 (squares dx dy) h ∙ sym (beyond r2 (squares dx dy) 0 _ h)

  there : is_no_wind w ≡ false → weight_at wind_mode r2 w dx dy ≡ weight_by r2 (squares dx dy) (strength (calmed w)) (along (calmed w) dx dy)
  unfolding calmed
  there e = rw e (go (lt_or_le (squares dx dy) r2) (none_or_some (strength w * squares dx dy)))
    where
      go : (squares dx dy < r2) ⊎ (r2 ≤ squares dx dy) → (strength w * squares dx dy ≡ 0) ⊎ (0 < strength w * squares dx dy)
          → weight_at wind_mode r2 w dx dy ≡ weight_by r2 (squares dx dy) (strength w) (along w dx dy)
      go (inr h) b = no_weight_outside wind_mode r2 w dx dy h ∙ sym (beyond r2 (squares dx dy) (strength w) (along w dx dy) h)
      go (inl h) (inl z) =
          round_if_still wind_mode r2 w dx dy (blows_if_some e ∙ le-ltb 0 (strength w * squares dx dy) (omega arith))
          ∙ sym (calm r2 (squares dx dy) (strength w) (along w dx dy) h z)
      go (inl h) (inr s) =
          weight_inside wind_mode r2 w dx dy h ∙ rw (blows_if_some e, lt-ltb 0 (strength w * squares dx dy) s) (unfold stretched in sym (windy r2 (squares dx dy) (strength w) (along w dx dy) h s))

  pub by_wind : weight_at wind_mode r2 w dx dy ≡ weight_by r2 (squares dx dy) (strength (calmed w)) (along (calmed w) dx dy)
  by_wind = go (true_or_false (is_no_wind w))
    where
      go : (is_no_wind w ≡ true) ⊎ (is_no_wind w ≡ false) → weight_at wind_mode r2 w dx dy ≡ weight_by r2 (squares dx dy) (strength (calmed w)) (along (calmed w) dx dy)
      go (inl e) = missing_is_calm e
      go (inr e) = there e

pub calmed_fair : (w : Wind) → (is_no_wind w ≡ false → Fair w) → Fair (calmed w)
unfolding calmed
calmed_fair w h = go (is_no_wind w) h
  where
    go : (none : Bool) → (none ≡ false → Fair w) → Fair (cond none (record { u = pos 0; v = pos 0 }) w)
    go true f = (omega arith, omega arith)
    go false f = f refl

-- ---- sizes, with P = R²(V·d2 + q²) and Q = V·d2²: 100(P + Q) is below 2^63

abbrev pub most_strength : ℕ
most_strength = 2 * (most_wind * most_wind)

-- u·dx inside the greatest radius, and so v·dy; and q of both
abbrev pub most_part : ℕ
most_part = most_wind * (most_radius - 1)

abbrev pub most_q : ℕ
most_q = 2 * most_part

pub strength_small : (w : Wind) → Fair w → strength w ≤ most_strength
strength_small w h = omega (arith, mul-le-mul h.0 h.0, mul-le-mul h.1 h.1)

-- a square below a square has the smaller root
root_below : (m n : ℕ) → m * m < n * n → m < n
root_below m n h = go (lt_or_le m n)
  where
    go : (m < n) ⊎ (n ≤ m) → m < n
    go (inl p) = p
    go (inr p) = absurd (omega (arith, mul-le-mul p p))

pub part_small : (u d : ℤ) → nat_abs u ≤ most_wind → square d < most_square → nat_abs (u *ℤ d) ≤ most_part
part_small u d hu hd =
    let near : nat_abs d ≤ most_radius - 1 = omega (arith, root_below (nat_abs d) most_radius hd) in
    rw (size_mul u d) (mul-le-mul hu near)

pub q_small : (u d a : ℤ) → nat_abs u ≤ most_wind → square d < most_square → nat_abs a ≤ most_part → nat_abs (u *ℤ d +ℤ a) ≤ most_q
q_small u d a hu hd ha = omega (arith, size_add (u *ℤ d) a, part_small u d hu hd)

pub record Small (r2 d2 w2 q2 : ℕ) : Type 0 where
  pub gust : w2 * d2 ≤ 20971520000
  pub bracket : w2 * d2 + q2 ≤ 62832680000
  pub upper : r2 * (w2 * d2 + q2) ≤ 65884840263680000
  pub lower : w2 * d2 * d2 ≤ 21990232555520000
  pub both : 100 * (r2 * (w2 * d2 + q2) + w2 * d2 * d2) < 9223372036854775808

pub small : (r2 d2 w2 q2 : ℕ) → r2 ≤ most_square → d2 < r2 → w2 ≤ most_strength → q2 ≤ most_q * most_q → Small r2 d2 w2 q2
small r2 d2 w2 q2 hr hd hw hq =
    let d : d2 ≤ 1048576 = omega arith in
    let g : w2 * d2 ≤ 20971520000 = mul-le-mul hw d in
    let b : w2 * d2 + q2 ≤ 62832680000 = omega arith in
    let p : r2 * (w2 * d2 + q2) ≤ 65884840263680000 = mul-le-mul hr b in
    let l : w2 * d2 * d2 ≤ 21990232555520000 = mul-le-mul g d in
    record { gust = g; bracket = b; upper = p; lower = l; both = omega arith }

-- ---- the quotient: one division where the product fits, and else two steps of long division

pub in_two_steps : (a b : ℕ) → 0 < b → 10000 * a / b ≡ 100 * (100 * a / b) + 100 * (100 * a % b) / b
in_two_steps a b some =
    let e : 10000 * a ≡ 100 * (100 * a) = omega arith in
    ap (λ (m : ℕ). m / b) e ∙ two_steps 100 (100 * a) b some
