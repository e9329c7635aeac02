-- What holds of every round weight: it lies in 0..scale, is the scale at the station, 0 from the radius on, and never rises with the distance.
-- It goes by the fraction of its two numbers alone.
use Rattle.std.specs.Prelude.{ℕ, ◌+◌, ◌-◌, ◌*◌, ◌≤◌, ◌<◌, ◌≡◌, ◌⊎◌, cond, ltb}
use Rattle.std.proofs.Common.{arith, div-lt_iff_lt-mul, mul-div_cancel, mul-le-mul_left, sym, ap, inl, inr, lt-ltb, le-ltb}
use Rattle.std.proofs.Math.Nat.{mul-div-mul_left, zero-div}
use Rattle.integers.specs.Fractions.{whole_part_order}
use Rattle.lists.specs.Tests.{lt_or_le}
use Rattle.scheme.specs.Weight.{scale, weight}

-- nothing is left of the fraction from the radius on
pub weight_beyond : (r2 d2 : ℕ) → r2 ≤ d2 → weight r2 d2 ≡ 0
unfolding weight
weight_beyond r2 d2 h = let e : r2 - d2 ≡ 0 = omega arith in rw e (zero-div (r2 + d2))

pub weight_most : (r2 d2 : ℕ) → weight r2 d2 ≤ scale
weight_most r2 d2 = go (lt_or_le d2 (r2))
  where
    go : (d2 < r2) ⊎ (r2 ≤ d2) → weight r2 d2 ≤ scale
    go (inr h) = rw (weight_beyond r2 d2 h) (omega arith)
    go (inl h) =
        let some : 0 < r2 + d2 = omega arith in
        let l : scale * (r2 - d2) < (scale + 1) * (r2 + d2) = omega arith in
        unfold weight in omega (arith, (div-lt_iff_lt-mul {k = r2 + d2} some).1 l)

-- what is in the scale, and nothing from the radius on, is at most the whole scale inside and nothing outside
pub inside_alone : (w r2 d2 : ℕ) → w ≤ scale → (r2 ≤ d2 → w ≡ 0) → w ≤ scale * cond (ltb d2 r2) 1 0
inside_alone w r2 d2 h none = go (lt_or_le d2 r2)
  where
    go : (d2 < r2) ⊎ (r2 ≤ d2) → w ≤ scale * cond (ltb d2 r2) 1 0
    go (inl l) = rw (lt-ltb d2 r2 l) (omega arith)
    go (inr l) = rw (le-ltb d2 r2 l) (omega (arith, none l))

pub weight_at_station : (r2 : ℕ) → 0 < r2 → weight r2 0 ≡ scale
unfolding weight
weight_at_station r2 some =
    let e : r2 - 0 ≡ r2 = omega arith in
    let f : r2 + 0 ≡ r2 = omega arith in
    rw (e, f) (mul-div_cancel scale some)

-- the larger R²/d2, by products crosswise, the larger the weight
pub weight_grows : (r2 d2 a b : ℕ) → 0 < r2 → 0 < a → d2 ≤ r2 → b ≤ a → r2 * b ≤ a * d2 → weight r2 d2 ≤ weight a b
unfolding weight
weight_grows r2 d2 a b some-r some-a near near' h =
    whole_part_order (scale * (r2 - d2)) (r2 + d2) (scale * (a - b)) (a + b) (omega arith) (omega arith)
    (crosswise (r2 - d2) (a - b) (omega arith) (omega arith))
  where
    crosswise : (x y : ℕ) → x + d2 ≡ r2 → y + b ≡ a → scale * x * (a + b) ≤ scale * y * (r2 + d2)
    crosswise x y ex ey = rw (sym ex, sym ey) (omega (arith, product))
      where
        product : (x + d2) * b ≤ (y + b) * d2
        product = rw (ex, ey) h

pub weight_never_rises : (r2 d2 farther : ℕ) → d2 ≤ farther → weight r2 farther ≤ weight r2 d2
weight_never_rises r2 d2 farther h = go (lt_or_le farther (r2))
  where
    go : (farther < r2) ⊎ (r2 ≤ farther) → weight r2 farther ≤ weight r2 d2
    go (inr k) = rw (weight_beyond r2 farther k) (omega arith)
    go (inl k) = weight_grows r2 farther r2 d2 (omega arith) (omega arith) (omega arith) (omega arith) (mul-le-mul_left r2 h)

-- both multiplied by k
pub weight_scaled : (k r2 d2 : ℕ) → 0 < k → weight (k * r2) (k * d2) ≡ weight r2 d2
unfolding weight
weight_scaled k r2 d2 some =
    let e : scale * (k * r2 - k * d2) ≡ k * (scale * (r2 - d2)) = upper (lt_or_le d2 r2) in
    let f : k * r2 + k * d2 ≡ k * (r2 + d2) = omega arith in
    rw (e, f) (mul-div-mul_left (scale * (r2 - d2)) (r2 + d2) some)
  where
    upper : (d2 < r2) ⊎ (r2 ≤ d2) → scale * (k * r2 - k * d2) ≡ k * (scale * (r2 - d2))
    upper (inr h) =
        let a : r2 - d2 ≡ 0 = omega arith in
        let b : k * r2 - k * d2 ≡ 0 = omega (arith, mul-le-mul_left k h) in
        rw (a, b) (omega arith)
    upper (inl h) = at (r2 - d2) (omega arith)
      where
        at : (x : ℕ) → x + d2 ≡ r2 → scale * (k * r2 - k * d2) ≡ k * (scale * x)
        at x e = let g : k * r2 - k * d2 ≡ k * x = omega (arith, ap (λ (t : ℕ). k * t) e) in rw g (omega arith)
