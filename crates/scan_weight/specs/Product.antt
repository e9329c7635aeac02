-- A weight by one product and one quotient.
use Rattle.std.specs.Prelude.{ℕ, ◌+◌, ◌-◌, ◌*◌, ◌/◌, ◌<◌, ◌≡◌}
use Rattle.std.proofs.Common.{arith}
use Rattle.std.proofs.Math.Nat.{add-mul-div_right}
use Rattle.scheme.specs.Weight.{scale, weight}

-- a weight by a product that is the same for every station of a scan: the whole part of 20,000R²/(R² + d2), less 10,000
pub by_product : (r2 d2 : ℕ) → d2 < r2 → 2 * scale * r2 / (r2 + d2) ≡ weight r2 d2 + scale
unfolding weight
by_product r2 d2 near =
    let parts : 2 * scale * r2 ≡ scale * (r2 - d2) + scale * (r2 + d2) = omega arith in
    rw parts (add-mul-div_right (scale * (r2 - d2)) scale {z = r2 + d2} (omega arith))
