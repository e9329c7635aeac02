-- The pattern, laid row by row on stored values, and how large its sums are.
use Rattle.std.specs.Prelude.{ℕ, ◌+◌, ◌-◌, ◌*◌, ◌≤◌, ◌<◌, ◌≡◌, refl, true, false, ◌&&◌, List, [], leb, get_or, ℤ, pos, nat_abs, ◌+ℤ◌, ◌*ℤ◌}
use Rattle.std.proofs.Common.{arith, mul-le-mul, ap, ltb-true, leb-true, lt-ltb}
use Rattle.std.proofs.Math.IntN.{+ℤ_idl}
use Rattle.integers.specs.Sizes.{size_mul}
use Rattle.lists.specs.Tests.{and_true}
use Rattle.lists.specs.Members.{every, every_at}
use Rattle.lists.specs.Sums.{up_to, up_to_same, up_to_most}
use Rattle.scheme.specs.Units.{Field, field_of}
use Rattle.scheme.specs.Rounding.{rounded}
use Rattle.scheme.specs.Smoothing.{pattern, pattern_at, pattern_row, pattern_sum, inner, smoothed}
use Rattle.scheme.specs.Most.{most_field}

-- from place p on, values as small as those of an accepted run
abbrev pub SmallFrom : ℕ → List ℤ → Type 0
SmallFrom p l = (k : ℕ) → p ≤ k → nat_abs (get_or l k (pos 0)) ≤ most_field

-- one row of the pattern over three places from p on
unfoldable pub term : List ℤ → (p b a : ℕ) → ℤ
term l p b a = pos (pattern_at a b) *ℤ get_or l (p + a) (pos 0)

unfoldable pub row_at : List ℤ → (p b : ℕ) → ℤ
row_at l p b = up_to (pos 0) ◌+ℤ◌ 3 (term l p b)

-- the pattern over column i + 1 of three rows, the one above, its own, and the one below, which begins at place q of z; and the new value there
unfoldable pub nine : (above here z : List ℤ) (q i : ℕ) → ℤ
nine above here z q i = row_at above i 0 +ℤ row_at here i 1 +ℤ row_at z (q + i) 2

unfoldable pub new_at : (above here z : List ℤ) (q i : ℕ) → ℤ
new_at above here z q i = rounded (nine above here z q i) 16

-- ---- sizes

-- no number of the pattern is above 4
pub pattern_most : (a b : ℕ) → pattern_at a b ≤ 4
unfolding every
pattern_most a b =
    leb-true (pattern_at a b) 4
    (every_at (λ n. leb n 4) 0 refl (get_or pattern b []) (every_at (every (λ n. leb n 4)) [] refl pattern refl b) a)

module _ (l : List ℤ) (p : ℕ) (small : SmallFrom p l) where
  pub term_size : (b a : ℕ) → nat_abs (term l p b a) ≤ 4 * most_field
  unfolding term
  term_size b a =
      rw (size_mul (pos (pattern_at a b)) (get_or l (p + a) (pos 0))) (mul-le-mul (pattern_most a b) (small (p + a) (omega arith)))

  -- after a turns, and after all three
  pub row_size : (b a : ℕ) → a ≤ 3 → nat_abs (up_to (pos 0) ◌+ℤ◌ a (term l p b)) ≤ 12 * most_field
  row_size b a h = omega (arith, up_to_most (4 * most_field) a (term l p b) (λ k e. term_size b k))

  pub row_whole : (b : ℕ) → nat_abs (row_at l p b) ≤ 12 * most_field
  unfolding row_at
  row_whole b = row_size b 3 (omega arith)

-- ---- rows that are alike, and the paper's pattern as three rows

pub row_same : (l l' : List ℤ) (p p' b : ℕ) → ((a : ℕ) → a < 3 → get_or l (p + a) (pos 0) ≡ get_or l' (p' + a) (pos 0)) → row_at l p b ≡ row_at l' p' b
unfolding row_at term
row_same l l' p p' b h = up_to_same (pos 0) ◌+ℤ◌ 3 _ _ (λ a e. ap (λ (v : ℤ). pos (pattern_at a b) *ℤ v) (h a e))

pattern_row_is : (l : List ℤ) (nx i j b : ℕ) → pattern_row (field_of (pos 0) nx l) (i + 1) (j + 1) b ≡ row_at l ((j + b) * nx + i) b
unfolding pattern_row row_at term field_of
pattern_row_is l nx i j b =
    up_to_same (pos 0) ◌+ℤ◌ 3 _ _ (λ a e. ap (λ (k : ℕ). pos (pattern_at a b) *ℤ get_or l k (pos 0)) (place a))
  where
    place : (a : ℕ) → (j + 1 + b - 1) * nx + (i + 1 + a - 1) ≡ (j + b) * nx + i + a
    place a =
        let e : j + 1 + b - 1 ≡ j + b = omega arith in
        let f : i + 1 + a - 1 ≡ i + a = omega arith in
        rw (e, f) (omega arith)

pub pattern_is : (l : List ℤ) (nx i j : ℕ)
    → pattern_sum (field_of (pos 0) nx l) (i + 1) (j + 1) ≡ row_at l (j * nx + i) 0 +ℤ row_at l ((j + 1) * nx + i) 1 +ℤ row_at l ((j + 2) * nx + i) 2
unfolding pattern_sum up_to
pattern_is l nx i j =
    let e : j + 0 ≡ j = omega arith in
    let first : pattern_row (field_of (pos 0) nx l) (i + 1) (j + 1) 0 ≡ row_at l (j * nx + i) 0 = rw e at (pattern_row_is l nx i j 0) in
    rw (+ℤ_idl (pattern_row (field_of (pos 0) nx l) (i + 1) (j + 1) 0), first, pattern_row_is l nx i j 1, pattern_row_is l nx i j 2)

-- ---- the cases of a point

pub inner_means : (nx ny i j : ℕ) → inner nx i && inner ny j ≡ true → (0 < i) × (i + 1 < nx) × (0 < j) × (j + 1 < ny)
unfolding inner
inner_means nx ny i j e =
    let (ei, ej) = and_true _ _ e in
    let (a, b) = and_true _ _ ei in
    let (c, d) = and_true _ _ ej in
    (ltb-true 0 i a, ltb-true (i + 1) nx b, ltb-true 0 j c, ltb-true (j + 1) ny d)

pub inner_is : (n i : ℕ) → i + 2 < n → inner n (i + 1) ≡ true
unfolding inner
inner_is n i h =
    let p : 0 < i + 1 = omega arith in
    let q : i + 1 + 1 < n = omega arith in
    rw (lt-ltb 0 (i + 1) p, lt-ltb (i + 1 + 1) n q)

module _ (nx ny : ℕ) (z : Field ℤ) (i j : ℕ) where
  pub border_point : inner nx i && inner ny j ≡ false → smoothed nx ny z i j ≡ z i j
  unfolding smoothed
  border_point e = rw e

  pub inner_point : inner nx i && inner ny j ≡ true → smoothed nx ny z i j ≡ rounded (pattern_sum z i j) 16
  unfolding smoothed
  inner_point e = rw e
