-- A way for omega to serve on ℤ: an integer is the difference of two naturals, up z less dn z. A linear fact of ℤ is handed to
-- omega as the facts below, one for each operation in it.
use Rattle.std.specs.Prelude.{ℕ, zero, suc, ◌+◌, ◌-◌, ◌*◌, ◌≤◌, ◌<◌, ◌≡◌, refl, Bool, true, false, not, cond, T, ltb, ℤ, pos, negsuc, neg_ℤ, nat_abs, ◌+ℤ◌, ◌-ℤ◌, ◌*ℤ◌}
use Rattle.std.proofs.Common.{arith, ap, ltb→lt, nltb→le}
use Rattle.std.proofs.Math.IntN.{sub_ℕ}

abbrev pub up : ℤ → ℕ
up (pos n) = n
up (negsuc n) = 0

abbrev pub dn : ℤ → ℕ
dn (pos n) = 0
dn (negsuc n) = suc n

-- equal differences: equal integers
pub eq_parts : (a b : ℤ) → up a + dn b ≡ up b + dn a → a ≡ b
eq_parts (pos a) (pos b) e = ap pos (omega arith)
eq_parts (pos a) (negsuc b) e = absurd (omega arith)
eq_parts (negsuc a) (pos b) e = absurd (omega arith)
eq_parts (negsuc a) (negsuc b) e = ap negsuc (omega arith)

cond_ind : (c : Bool) (x y : ℤ) (P : ℤ → Type 0) → (T c → P x) → (T (not c) → P y) → P (cond c x y)
cond_ind true x y P f g = f tt
cond_ind false x y P f g = g tt

sub_parts : (a b : ℕ) → up (sub_ℕ a b) + b ≡ dn (sub_ℕ a b) + a
sub_parts a b =
    cond_ind (ltb a b) (negsuc (b - suc a)) (pos (a - b)) (λ (z : ℤ). up z + b ≡ dn z + a)
    (λ t. less (ltb→lt a b t)) (λ t. more (nltb→le a b t))
  where
    less : a < b → 0 + b ≡ suc (b - suc a) + a
    less h = omega arith

    more : b ≤ a → (a - b) + b ≡ 0 + a
    more h = omega arith

pub add_parts : (a b : ℤ) → up (a +ℤ b) + (dn a + dn b) ≡ dn (a +ℤ b) + (up a + up b)
add_parts (pos a) (pos b) = omega arith
add_parts (pos a) (negsuc b) = omega (arith, sub_parts a (suc b))
add_parts (negsuc a) (pos b) = omega (arith, sub_parts b (suc a))
add_parts (negsuc a) (negsuc b) = omega arith

pub neg_up : (a : ℤ) → up (neg_ℤ a) ≡ dn a
neg_up (pos zero) = refl
neg_up (pos (suc n)) = refl
neg_up (negsuc n) = refl

pub neg_dn : (a : ℤ) → dn (neg_ℤ a) ≡ up a
neg_dn (pos zero) = refl
neg_dn (pos (suc n)) = refl
neg_dn (negsuc n) = refl

pub minus_parts : (a b : ℤ) → up (a -ℤ b) + (dn a + up b) ≡ dn (a -ℤ b) + (up a + dn b)
minus_parts a b = omega (arith, add_parts a (neg_ℤ b), neg_up b, neg_dn b)

pub mul_parts : (a b : ℤ) → up (a *ℤ b) + (up a * dn b + dn a * up b) ≡ dn (a *ℤ b) + (up a * up b + dn a * dn b)
mul_parts (pos a) (pos b) = omega arith
mul_parts (pos a) (negsuc b) = omega (arith, neg_up (pos (a * suc b)), neg_dn (pos (a * suc b)))
mul_parts (negsuc a) (pos b) = omega (arith, neg_up (pos (suc a * b)), neg_dn (pos (suc a * b)))
mul_parts (negsuc a) (negsuc b) = omega arith

pub size_parts : (a : ℤ) → nat_abs a ≡ up a + dn a
size_parts (pos n) = omega arith
size_parts (negsuc n) = omega arith
