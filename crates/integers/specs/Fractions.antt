-- Whole parts of fractions of naturals.
use Rattle.std.specs.Prelude.{ℕ, ◌+◌, ◌*◌, ◌/◌, ◌%◌, ◌≤◌, ◌<◌, ◌≡◌}
use Rattle.std.proofs.Common.{arith, le-div_iff_mul-le, div-mul-le_self, le_of_mul-le-mul_right, mul-le-mul_right, ap, ◌∙◌}
use Rattle.std.proofs.Math.Nat.{mod-add-div', add-mul-div_right}

-- Long division in two steps: k·n over b, from the quotient and the remainder of n over b. No product is larger than n or k·b
pub two_steps : (k n b : ℕ) → 0 < b → k * n / b ≡ k * (n / b) + k * (n % b) / b
two_steps k n b some =
    let parts : k * n ≡ k * (n % b) + k * (n / b) * b = omega (arith, ap (λ (m : ℕ). k * m) (mod-add-div' n b)) in
    ap (λ (m : ℕ). m / b) parts ∙ add-mul-div_right (k * (n % b)) (k * (n / b)) some ∙ omega arith

-- a fraction that is no larger, by products crosswise, has no larger whole part
pub whole_part_order : (a b c d : ℕ) → 0 < b → 0 < d → a * d ≤ c * b → a / b ≤ c / d
whole_part_order a b c d some-b some-d h =
    (le-div_iff_mul-le {k = d} some-d).1
    (le_of_mul-le-mul_right {m = a / b * d} {n = c} {k = b} (omega (arith, mul-le-mul_right d (div-mul-le_self a b))) some-b)
