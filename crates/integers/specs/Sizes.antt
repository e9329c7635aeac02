-- Sizes: nat_abs of a sum, a difference, a product and a quotient. With these a range of a signed number is a fact of ℕ.
use Rattle.std.specs.Prelude.{ℕ, zero, suc, ◌+◌, ◌-◌, ◌*◌, ◌/◌, ◌≤◌, ◌≡◌, refl, ℤ, pos, negsuc, neg_ℤ, nat_abs, ◌+ℤ◌, ◌-ℤ◌, ◌*ℤ◌}
use Rattle.std.proofs.Common.{arith, div-le_self, sym, ap, ◌∙◌}
use Rattle.std.proofs.Math.Nat.{zero-div}
use Rattle.std.specs.Int.Signed.{mag, quot_z}
use Rattle.integers.specs.Parts.{up, dn, add_parts, minus_parts, size_parts}

pub size_neg : (z : ℤ) → nat_abs (neg_ℤ z) ≡ nat_abs z
size_neg (pos zero) = refl
size_neg (pos (suc n)) = refl
size_neg (negsuc n) = refl

-- a size is the larger of two parts of which one is 0
size_most : (z : ℤ) (n : ℕ) → up z ≤ n → dn z ≤ n → nat_abs z ≤ n
size_most (pos a) n h k = h
size_most (negsuc a) n h k = k

part_least : (z : ℤ) (p q : ℕ) → up z + p ≡ dn z + q → (up z ≤ q) × (dn z ≤ p)
part_least (pos a) p q e = (omega arith, omega arith)
part_least (negsuc a) p q e = (omega arith, omega arith)

pub size_add : (a b : ℤ) → nat_abs (a +ℤ b) ≤ nat_abs a + nat_abs b
size_add a b =
    let (h, k) = part_least (a +ℤ b) (dn a + dn b) (up a + up b) (add_parts a b) in
    size_most (a +ℤ b) (nat_abs a + nat_abs b) (omega (arith, size_parts a, size_parts b)) (omega (arith, size_parts a, size_parts b))

pub size_minus : (a b : ℤ) → nat_abs (a -ℤ b) ≤ nat_abs a + nat_abs b
size_minus a b = omega (arith, size_add a (neg_ℤ b), size_neg b)

pub size_mul : (a b : ℤ) → nat_abs (a *ℤ b) ≡ nat_abs a * nat_abs b
size_mul (pos a) (pos b) = refl
size_mul (pos a) (negsuc b) = size_neg (pos (a * suc b))
size_mul (negsuc a) (pos b) = size_neg (pos (suc a * b))
size_mul (negsuc a) (negsuc b) = refl

-- two integers are no farther apart than the size of their difference
pub apart : (a b : ℤ) → (up a + dn b ≤ dn a + up b + nat_abs (a -ℤ b)) × (dn a + up b ≤ up a + dn b + nat_abs (a -ℤ b))
apart a b =
    (omega (arith, minus_parts a b, size_parts (a -ℤ b)), omega (arith, minus_parts a b, size_parts (a -ℤ b)))

-- the size of a difference of two naturals, q less p
pub size_gap : (z : ℤ) (p q : ℕ) → up z + p ≡ dn z + q → nat_abs z ≡ (q - p) + (p - q)
size_gap (pos m) p q e = omega arith
size_gap (negsuc m) p q e = omega arith

-- ---- quotients toward zero, as code divides

pub quot_neg : (a b : ℕ) → quot_z (neg_ℤ (pos a)) (pos b) ≡ neg_ℤ (pos (a / b))
quot_neg zero b = ap pos (zero-div b) ∙ sym (ap (λ (n : ℕ). neg_ℤ (pos n)) (zero-div b))
quot_neg (suc a) b = refl

pub size_quot : (a : ℤ) (b : ℕ) → nat_abs (quot_z a (pos b)) ≤ nat_abs a
size_quot (pos a) b = div-le_self a b
size_quot (negsuc a) b = omega (arith, size_neg (pos (suc a / b)), div-le_self (suc a) b)

-- ---- mag is the size by which a machine's range is stated

pub mag_size : (z : ℤ) → mag z ≤ nat_abs z
mag_size (pos n) = omega arith
mag_size (negsuc n) = omega arith
