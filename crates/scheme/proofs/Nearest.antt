-- The rounded quotient is the nearest whole number, halves away from zero: that is its property, and it has no other answer.
use Rattle.std.specs.Prelude.{ℕ, zero, suc, ◌+◌, ◌-◌, ◌*◌, ◌/◌, ◌≤◌, ◌<◌, ◌≡◌, refl, ◌⊎◌, ℤ, pos, negsuc, neg_ℤ, nat_abs, ◌-ℤ◌, ◌*ℤ◌}
use Rattle.std.proofs.Common.{arith, div-mul-le_self, mul-le-mul_right, div-lt_iff_lt-mul, sym, ap, ◌∙◌, inl, inr}
use Rattle.std.proofs.Math.Nat.{div-eq_of_lt, lt-div-mul-add, div-zero}
use Rattle.std.proofs.Math.IntN.{neg_ℤ-neg_ℤ}
use Rattle.integers.specs.Parts.{up, dn, eq_parts, minus_parts, mul_parts, neg_up, neg_dn}
use Rattle.integers.specs.Sizes.{size_neg, size_gap}
use Rattle.lists.specs.Tests.{lt_or_le}
use Rattle.scheme.specs.Rounding.{half_up, rounded}
use Rattle.scheme.specs.Nearest.{Nearest, off}

-- ---- a number that is not negative

-- the two sides of the whole part
above : (n d : ℕ) → 0 < d → 2 * n < 2 * (half_up n d * d) + d
above n d h = let p : 0 < 2 * d = omega arith in omega (arith, lt-div-mul-add {a = 2 * n + d} p)

below : (n d : ℕ) → 0 < d → 2 * (half_up n d * d) ≤ 2 * n + d
below n d h = omega (arith, div-mul-le_self (2 * n + d) (2 * d))

-- how far, as naturals
off_pos : (n d r : ℕ) → off (pos n) d (pos r) ≡ (n - r * d) + (r * d - n)
off_pos n d r = size_gap (pos n -ℤ pos (r * d)) (r * d) n (omega (arith, minus_parts (pos n) (pos (r * d))))

off_neg : (n d r : ℕ) → off (pos n) d (negsuc r) ≡ n + suc r * d
off_neg n d r =
    size_gap (pos n -ℤ negsuc r *ℤ pos d) 0 (n + suc r * d) (omega (arith, minus_parts (pos n) (negsuc r *ℤ pos d), mul_parts (negsuc r) (pos d)))
    ∙ omega arith

-- a whole number past the nearest is farther by d, on either side
module _ (n d h : ℕ) (some : 0 < d) (lo : 2 * (h * d) ≤ 2 * n + d) (hi : 2 * n < 2 * (h * d) + d) where
  near_pos : (k : ℕ) → (n - h * d) + (h * d - n) ≤ (n - k * d) + (k * d - n)
  near_pos k = go (lt_or_le k h) (lt_or_le h k)
    where
      less : (a b : ℕ) → a < b → a * d + d ≤ b * d
      less a b l = omega (arith, mul-le-mul_right d l)

      go : (k < h) ⊎ (h ≤ k) → (h < k) ⊎ (k ≤ h) → (n - h * d) + (h * d - n) ≤ (n - k * d) + (k * d - n)
      go (inl p) q = let e = less k h p in omega arith
      go (inr p) (inl q) = let e = less h k q in omega arith
      go (inr p) (inr q) = let e : k ≡ h = omega arith in rw e (omega arith)

  away_pos : (k : ℕ) → (n - k * d) + (k * d - n) ≡ (n - h * d) + (h * d - n) → k ≤ h
  away_pos k e = go (lt_or_le h k)
    where
      go : (h < k) ⊎ (k ≤ h) → k ≤ h
      go (inr q) = q
      go (inl q) = let m : h * d + d ≤ k * d = omega (arith, mul-le-mul_right d q) in absurd (omega arith)

  near_neg : (k : ℕ) → (n - h * d) + (h * d - n) ≤ n + suc k * d
  near_neg k = let m : d ≤ suc k * d = omega arith in omega arith

  away_neg : (k : ℕ) → n + suc k * d ≡ (n - h * d) + (h * d - n) → suc k ≤ h
  away_neg k e = let m : d ≤ suc k * d = omega arith in absurd (omega arith)

nearest_pos : (n d : ℕ) → 0 < d → Nearest (pos n) d (pos (half_up n d))
nearest_pos n d some = record { near = near; away = away }
  where
    near : (k : ℤ) → off (pos n) d (pos (half_up n d)) ≤ off (pos n) d k
    near (pos k) = rw (off_pos n d (half_up n d), off_pos n d k) (near_pos n d (half_up n d) some (below n d some) (above n d some) k)
    near (negsuc k) = rw (off_pos n d (half_up n d), off_neg n d k) (near_neg n d (half_up n d) some (below n d some) (above n d some) k)

    away : (k : ℤ) → off (pos n) d k ≡ off (pos n) d (pos (half_up n d)) → nat_abs k ≤ half_up n d
    away (pos k) e =
        away_pos n d (half_up n d) some (below n d some) (above n d some) k (sym (off_pos n d k) ∙ e ∙ off_pos n d (half_up n d))
    away (negsuc k) e =
        away_neg n d (half_up n d) some (below n d some) (above n d some) k (sym (off_neg n d k) ∙ e ∙ off_pos n d (half_up n d))

-- no negative number is the nearest: 0 is nearer
not_negative : (n d r : ℕ) → 0 < d → Nearest (pos n) d (negsuc r) → ⊥
not_negative n d r some p =
    let e = p.near (pos 0) in
    let l : n + suc r * d ≤ (n - 0 * d) + (0 * d - n) = rw (off_neg n d r, off_pos n d 0) at e in
    let m : d ≤ suc r * d = omega arith in
    omega arith

one_pos : (n d : ℕ) (r s : ℤ) → 0 < d → Nearest (pos n) d r → Nearest (pos n) d s → r ≡ s
one_pos n d (pos r) (pos s) some p q =
    let e : off (pos n) d (pos r) ≡ off (pos n) d (pos s) = omega (arith, p.near (pos s), q.near (pos r)) in
    ap pos (both (q.away (pos r) e) (p.away (pos s) (sym e)))
  where
    both : r ≤ s → s ≤ r → r ≡ s
    both h k = omega arith
one_pos n d (negsuc r) s some p q = absurd (not_negative n d r some p)
one_pos n d (pos r) (negsuc s) some p q = absurd (not_negative n d s some q)

-- ---- either sign: all is turned about zero

off_turned : (n : ℤ) (d : ℕ) (k : ℤ) → off (neg_ℤ n) d k ≡ off n d (neg_ℤ k)
off_turned n d k =
    ap nat_abs (eq_parts (neg_ℤ n -ℤ k *ℤ pos d) (neg_ℤ (n -ℤ neg_ℤ k *ℤ pos d)) same) ∙ size_neg (n -ℤ neg_ℤ k *ℤ pos d)
  where
    same : up (neg_ℤ n -ℤ k *ℤ pos d) + dn (neg_ℤ (n -ℤ neg_ℤ k *ℤ pos d)) ≡ up (neg_ℤ (n -ℤ neg_ℤ k *ℤ pos d)) + dn (neg_ℤ n -ℤ k *ℤ pos d)
    same =
        omega (
          arith,
          minus_parts (neg_ℤ n) (k *ℤ pos d),
          minus_parts n (neg_ℤ k *ℤ pos d),
          neg_up n,
          neg_dn n,
          neg_up (n -ℤ neg_ℤ k *ℤ pos d),
          neg_dn (n -ℤ neg_ℤ k *ℤ pos d),
          mul_parts k (pos d),
          mul_parts (neg_ℤ k) (pos d),
          ap (λ (t : ℕ). t * d) (neg_up k),
          ap (λ (t : ℕ). t * d) (neg_dn k),
        )

turned : (n : ℤ) (d : ℕ) (r : ℤ) → Nearest n d r → Nearest (neg_ℤ n) d (neg_ℤ r)
turned n d r p = record { near = near; away = away }
  where
    back : off (neg_ℤ n) d (neg_ℤ r) ≡ off n d r
    back = off_turned n d (neg_ℤ r) ∙ ap (off n d) (neg_ℤ-neg_ℤ r)

    near : (k : ℤ) → off (neg_ℤ n) d (neg_ℤ r) ≤ off (neg_ℤ n) d k
    near k = rw (back, off_turned n d k) (p.near (neg_ℤ k))

    away : (k : ℤ) → off (neg_ℤ n) d k ≡ off (neg_ℤ n) d (neg_ℤ r) → nat_abs k ≤ nat_abs (neg_ℤ r)
    away k e = rw (size_neg r, ← (size_neg k)) (p.away (neg_ℤ k) (sym (off_turned n d k) ∙ e ∙ back))

-- ---- the theorem

pub rounded_is_nearest : (n : ℤ) (d : ℕ) → 0 < d → Nearest n d (rounded n d)
unfolding rounded
rounded_is_nearest (pos n) d some = nearest_pos n d some
rounded_is_nearest (negsuc n) d some = turned (pos (suc n)) d (pos (half_up (suc n) d)) (nearest_pos (suc n) d some)

pub nearest_is_one : (n : ℤ) (d : ℕ) (r s : ℤ) → 0 < d → Nearest n d r → Nearest n d s → r ≡ s
nearest_is_one (pos n) d r s some p q = one_pos n d r s some p q
nearest_is_one (negsuc n) d r s some p q =
    sym (neg_ℤ-neg_ℤ r)
    ∙ ap neg_ℤ (one_pos (suc n) d (neg_ℤ r) (neg_ℤ s) some (turned (negsuc n) d r p) (turned (negsuc n) d s q))
    ∙ neg_ℤ-neg_ℤ s

-- a quotient turned about zero
pub rounded_turned : (n d : ℕ) → 0 < d → rounded (neg_ℤ (pos n)) d ≡ neg_ℤ (pos (half_up n d))
unfolding rounded
rounded_turned zero d some = let e : (2 * 0 + d) / (2 * d) ≡ 0 = div-eq_of_lt (omega arith) in rw e
rounded_turned (suc n) d some = refl

-- what is at most `most` times d is, over d and rounded, at most `most`
pub half_size : (n d most : ℕ) → n ≤ most * d → half_up n d ≤ most
half_size n zero most h = omega (arith, div-zero (2 * n + 0))
half_size n (suc d) most h =
    let p : 0 < 2 * suc d = omega arith in
    let l : 2 * n + suc d < (most + 1) * (2 * suc d) = omega arith in
    omega (arith, (div-lt_iff_lt-mul {k = 2 * suc d} p).1 l)

pub rounded_size : (n : ℤ) (d most : ℕ) → nat_abs n ≤ most * d → nat_abs (rounded n d) ≤ most
unfolding rounded
rounded_size (pos n) d most h = half_size n d most h
rounded_size (negsuc n) d most h = rw (size_neg (pos (half_up (suc n) d))) (half_size (suc n) d most h)
