-- What a station gives to a point goes by its offset: nothing from the radius on, its weight and weight·D within. No law here knows of a mode
-- or a rule.
use Rattle.std.specs.Prelude.{ℕ, ◌*◌, ◌≤◌, ◌≡◌, ◌⊎◌, Bool, true, false, cond, ℤ, nat_abs, ◌-ℤ◌}
use Rattle.std.proofs.Common.{arith, mul-le-mul, mul-le-mul_left, ap, ◌∙◌, inl, inr, ltb-false, le-ltb}
use Rattle.std.proofs.Math.Path.{refl}
use Rattle.std.proofs.Math.IntN.{pos, zero-*ℤ}
use Rattle.integers.specs.Sizes.{size_add, size_mul}
use Rattle.lists.specs.Tests.{cond_same}
use Rattle.scheme.specs.Weight.{scale, squares, inside, weight_at}
use Rattle.scheme.specs.Units.{step, Wind, Station}
use Rattle.scheme.specs.Verdicts.{is_accepted}
use Rattle.scheme.specs.Difference.{Row}
use Rattle.scheme.specs.Correction.{Sums, nothing, plus, gift, share}
use Rattle.scheme.proofs.Streaks.{no_weight_outside, weight_inside_alone}
use Rattle.scheme.specs.Gifts.{Modest, inside_there, weighed, weight_there}

weighed_none : (D : ℤ) → weighed false 0 D ≡ nothing
weighed_none D = cc (zero-*ℤ D)

-- ---- sizes: of each station inside at most the whole scale, and at most `limit` for each part of it

pub modest_nothing : (limit : ℕ) → Modest limit nothing
modest_nothing limit = record { weights_most = omega arith; pulls_most = omega arith }

pub modest_plus : (limit : ℕ) (a b : Sums) → Modest limit a → Modest limit b → Modest limit (plus a b)
modest_plus limit a b h k =
    record {
      weights_most = omega (arith, h.weights_most, k.weights_most);
      pulls_most = omega (arith, h.pulls_most, k.pulls_most, size_add a.pulls b.pulls);
    }

pub modest_weighed : (limit : ℕ) (within : Bool) (w : ℕ) (D : ℤ) → w ≤ scale * cond within 1 0 → nat_abs D ≤ limit → Modest limit (weighed within w D)
modest_weighed limit within w D hw hd = record { weights_most = hw; pulls_most = omega (arith, size_mul (pos w) D, mul-le-mul_left w hd) }

module _ (mode r2 : ℕ) (wind : Wind) (D dx dy : ℤ) where
  pub gift_weighed : gift mode r2 wind D dx dy ≡ weighed (inside r2 dx dy) (weight_at mode r2 wind dx dy) D
  unfolding gift
  gift_weighed = refl

  -- the gate alone
  pub gift_outside : r2 ≤ squares dx dy → gift mode r2 wind D dx dy ≡ nothing
  gift_outside h =
      gift_weighed
      ∙ ap (λ (b : Bool). weighed b (weight_at mode r2 wind dx dy) D) (le-ltb (squares dx dy) r2 h)
      ∙ ap (λ (w : ℕ). weighed false w D) (no_weight_outside mode r2 wind dx dy h)
      ∙ weighed_none D

  -- of a difference of at most that size
  pub gift_modest : (limit : ℕ) → nat_abs D ≤ limit → Modest limit (gift mode r2 wind D dx dy)
  gift_modest limit h =
      rw gift_weighed (modest_weighed limit (inside r2 dx dy) (weight_at mode r2 wind dx dy) D (weight_inside_alone mode r2 wind dx dy) h)

-- what is as far off as a radius along one axis is not inside it
pub outside : (radius : ℕ) (dx dy : ℤ) → (radius ≤ nat_abs dx) ⊎ (radius ≤ nat_abs dy) → inside (radius * radius) dx dy ≡ false
outside radius dx dy (inl h) = le-ltb (squares dx dy) (radius * radius) (omega (arith, mul-le-mul h h))
outside radius dx dy (inr h) = le-ltb (squares dx dy) (radius * radius) (omega (arith, mul-le-mul h h))

-- and gives nothing
pub gift_far : (mode radius : ℕ) (wind : Wind) (D dx dy : ℤ) → (radius ≤ nat_abs dx) ⊎ (radius ≤ nat_abs dy)
    → gift mode (radius * radius) wind D dx dy ≡ nothing
gift_far mode radius wind D dx dy h = gift_outside mode (radius * radius) wind D dx dy (ltb-false (squares dx dy) (radius * radius) (outside radius dx dy h))

-- ---- a row gives what its station gives, if it is accepted

module _ (mode radius : ℕ) (D : Station → ℤ) (i j : ℕ) (r : Row) where
  pub accepted_gives : is_accepted r.verdict ≡ true → share mode radius D i j r ≡ weighed (inside_there radius i j r) (weight_there mode radius i j r) (D r.station)
  unfolding share gift
  accepted_gives e = rw e

  pub accepted_weight : is_accepted r.verdict ≡ true → (share mode radius D i j r).weights ≡ weight_there mode radius i j r
  accepted_weight e = ap (λ (s : Sums). s.weights) (accepted_gives e)

  pub rejected_gives_nothing : is_accepted r.verdict ≡ false → share mode radius D i j r ≡ nothing
  unfolding share
  rejected_gives_nothing e = rw e

  pub outside_gives_nothing : inside_there radius i j r ≡ false → share mode radius D i j r ≡ nothing
  unfolding share
  outside_gives_nothing e =
      let s = r.station in
      cond_same (is_accepted r.verdict) _ nothing nothing
      (λ t. gift_outside mode (radius * radius) s.wind (D s) (s.x -ℤ pos (step * i)) (s.y -ℤ pos (step * j)) (ltb-false _ _ e)) (λ t. refl)
