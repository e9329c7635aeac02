-- Weights in ten-thousandths beside document 01's hundredths: finer, and nowhere coarser (document 02, 3).
use Rattle.std.specs.Prelude.{ℕ, ◌+◌, ◌-◌, ◌*◌, ◌/◌, ◌≤◌, ◌<◌, ◌≡◌, refl, true, pos, ◌-ℤ◌}
use Rattle.std.proofs.Common.{arith, mul-le-mul, div-lt_iff_lt-mul, le-div_iff_mul-le, ap, ◌∙◌}
use Rattle.std.proofs.Math.Nat.{mul-div-mul_right, div-div-eq-div-mul}
use Rattle.lists.specs.Members.{Some, some_also}
use Rattle.scheme.specs.Units.{step, R, Request}
use Rattle.scheme.specs.Weight.{weight}
use Rattle.scheme.specs.Difference.{Row}
use Rattle.scheme.specs.Scan.{rows_judged, after}
use Rattle.scheme.proofs.Streaks.{wind_never_weakens}
use Rattle.scheme.specs.Support.{bit, Weighs}
use Rattle.scheme.proofs.Support.{supported_exactly_where_a_mast_weighs}
use Rattle.scheme.specs.Finer.{WeighsInHundredths, hundredths, in_parts}

-- ---- the whole part of the weight over 100 is the weight in hundredths

-- parts so many times as fine, taken together again, are the coarser ones
finer : (times parts r2 d2 : ℕ) → 0 < times → in_parts (parts * times) r2 d2 / times ≡ in_parts parts r2 d2
finer times parts r2 d2 some =
    let e : parts * times * (r2 - d2) ≡ parts * (r2 - d2) * times = omega arith in
    ap (λ (n : ℕ). n / (r2 + d2) / times) e
    ∙ div-div-eq-div-mul (parts * (r2 - d2) * times) (r2 + d2) times
    ∙ mul-div-mul_right {m = times} (parts * (r2 - d2)) (r2 + d2) some

pub weight_over_100_is_in_hundredths : (r2 d2 : ℕ) → weight r2 d2 / 100 ≡ hundredths r2 d2
unfolding weight
weight_over_100_is_in_hundredths r2 d2 = finer 100 100 r2 d2 (omega arith)

-- ---- so whatever had weight keeps it

pub weighed_in_hundredths_weighs : (r2 d2 : ℕ) → 0 < hundredths r2 d2 → 0 < weight r2 d2
weighed_in_hundredths_weighs r2 d2 h = omega (arith, weight_over_100_is_in_hundredths r2 d2)

pub supported_in_hundredths_is_supported : (q : Request) (m k i j : ℕ) → k < m
    → Some (WeighsInHundredths (R q.plan k) i j) (rows_judged q k (after q k)) → bit k ((after q m).support i j) ≡ true
supported_in_hundredths_is_supported q m k i j h some =
    (supported_exactly_where_a_mast_weighs q m k i j h).1
    (some_also (WeighsInHundredths (R q.plan k) i j) (Weighs q.plan.mode (R q.plan k) i j) weighs_also some)
  where
    -- a wind takes nothing away
    weighs_also : (r : Row) → WeighsInHundredths (R q.plan k) i j r → Weighs q.plan.mode (R q.plan k) i j r
    weighs_also r w =
        let s = r.station in
        (w.0, omega (arith, weighed_in_hundredths_weighs _ _ w.1, wind_never_weakens q.plan.mode (R q.plan k * R q.plan k) s.wind (s.x -ℤ pos (step * i)) (s.y -ℤ pos (step * j))))

-- ---- the rim of a radius

-- up to R = 70 whatever is inside weighs
pub inside_70_weighs : (radius d2 : ℕ) → radius ≤ 70 → d2 < radius * radius → 0 < weight (radius * radius) d2
unfolding weight
inside_70_weighs radius d2 close near =
    let few : radius * radius ≤ 4900 = mul-le-mul close close in
    (le-div_iff_mul-le {k = radius * radius + d2} (omega arith)).1 (omega arith)

-- a distance that only ten-thousandths weigh
pub rim_of_64_weighs : (d2 : ℕ) → 4015 ≤ d2 → d2 ≤ 4095 → (hundredths (64 * 64) d2 ≡ 0) × (0 < weight (64 * 64) d2)
rim_of_64_weighs d2 far near =
    let none : hundredths (64 * 64) d2 < 1 = (div-lt_iff_lt-mul {k = 64 * 64 + d2} (omega arith)).1 (omega arith) in
    (omega arith, inside_70_weighs 64 d2 (omega arith) (omega arith))

-- two distances that hundredths weigh alike: 63 off along one axis, and 4 beside that along the other
pub rim_of_64_is_told_apart : (hundredths (64 * 64) 3969 ≡ hundredths (64 * 64) 3985) × (weight (64 * 64) 3985 < weight (64 * 64) 3969)
unfolding weight
rim_of_64_is_told_apart = (refl, omega arith)
