-- The ring laws that the kit's ℤ lacks, and differences of moved ends.
use Rattle.std.specs.Prelude.{ℕ, ◌-◌, ◌*◌, ◌≤◌, ◌≡◌, refl, ℤ, pos, negsuc, nat_abs, ◌+ℤ◌, ◌-ℤ◌, ◌*ℤ◌}
use Rattle.std.proofs.Common.{arith, ap}
use Rattle.integers.specs.Parts.{up, dn, eq_parts, add_parts, minus_parts, mul_parts}

pub one_mul : (a : ℤ) → pos 1 *ℤ a ≡ a
one_mul a = eq_parts (pos 1 *ℤ a) a (omega (arith, mul_parts (pos 1) a))

pub mul-add : (a b c : ℤ) → a *ℤ (b +ℤ c) ≡ a *ℤ b +ℤ a *ℤ c
mul-add a b c =
    eq_parts (a *ℤ (b +ℤ c)) (a *ℤ b +ℤ a *ℤ c)
    (omega (
      arith,
      mul_parts a (b +ℤ c),
      add_parts (a *ℤ b) (a *ℤ c),
      mul_parts a b,
      mul_parts a c,
      ap (λ (n : ℕ). up a * n) (add_parts b c),
      ap (λ (n : ℕ). dn a * n) (add_parts b c),
    ))

pub mul_assoc : (a b c : ℤ) → (a *ℤ b) *ℤ c ≡ a *ℤ (b *ℤ c)
mul_assoc a b c =
    eq_parts ((a *ℤ b) *ℤ c) (a *ℤ (b *ℤ c))
    (omega (
      arith,
      mul_parts (a *ℤ b) c,
      mul_parts a (b *ℤ c),
      ap (λ (n : ℕ). n * up c) (mul_parts a b),
      ap (λ (n : ℕ). n * dn c) (mul_parts a b),
      ap (λ (n : ℕ). up a * n) (mul_parts b c),
      ap (λ (n : ℕ). dn a * n) (mul_parts b c),
    ))

-- a square is not negative
pub square : (a : ℤ) → a *ℤ a ≡ pos (nat_abs a * nat_abs a)
square (pos a) = refl
square (negsuc a) = refl

-- both ends moved by c
pub minus_moved : (a b c : ℤ) → (a -ℤ c) -ℤ (b -ℤ c) ≡ a -ℤ b
minus_moved a b c =
    eq_parts ((a -ℤ c) -ℤ (b -ℤ c)) (a -ℤ b)
    (omega (arith, minus_parts (a -ℤ c) (b -ℤ c), minus_parts a c, minus_parts b c, minus_parts a b))

pub pos_minus : (a b : ℕ) → b ≤ a → pos a -ℤ pos b ≡ pos (a - b)
pos_minus a b h = eq_parts (pos a -ℤ pos b) (pos (a - b)) (omega (arith, minus_parts (pos a) (pos b)))
