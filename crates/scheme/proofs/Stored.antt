-- Fields and the lists that store them: what is stored is there, and only the points of the grid matter.
use Prim.Native.Nat.{ℕ, zero, suc, ◌+◌, ◌-◌, ◌*◌, ◌/◌, ◌%◌, ◌≤◌, ◌<◌}
use native.Mathlib.Omega.{arith}
use Rattle.std.proofs.Common.{mul-le-mul_right, mod-lt, div-lt_iff_lt-mul, ◌∙◌, inl, inr, ltb-true}
use Rattle.std.proofs.Math.Nat.{mul_comm}
use Rattle.std.specs.Prelude.{◌≡◌, true, false, cond, ◌&&◌, ◌⊎◌, length, get_or, ℤ, ◌*ℤ◌}
use Rattle.std.proofs.Math.Path.{ap, ap₂}
use Rattle.std.proofs.Math.Arith.{digits_div, digits_mod}
use Rattle.std.proofs.Math.ListN.{get_or-eq_default}
use Rattle.std.proofs.Math.IntN.{pos, ◌+ℤ◌}
use Rattle.lists.specs.Tests.{lt_or_le, true_or_false, and_true}
use Rattle.lists.specs.Tab.{tab, get_or_tab, length-tab, tab_same}
use Rattle.lists.specs.Sums.{up_to_same}
use Rattle.scheme.specs.Units.{Field, stored, field_of}
use Rattle.scheme.specs.Rounding.{rounded}
use Rattle.scheme.specs.Value.{cell, corners, sum_at}
use Rattle.scheme.specs.Smoothing.{pattern_at, pattern_row, pattern_sum, inner, smoothed}
use Rattle.scheme.proofs.Cells.{cell_inside}
use Rattle.scheme.specs.Stored.{Same}

-- place of point (i, j)
pub place_in : (nx ny i j : ℕ) → i < nx → j < ny → j * nx + i < nx * ny
place_in nx ny i j hi hj = omega (arith, mul-le-mul_right nx hj)

-- row j lies inside the list
pub row_in : (nx ny j : ℕ) → j < ny → j * nx + nx ≤ ny * nx
row_in nx ny j h = omega (arith, mul-le-mul_right nx h)

module _ {A : Type 0} (nx ny : ℕ) where
  pub length-stored : (f : Field A) → length (stored nx ny f) ≡ nx * ny
  unfolding stored
  length-stored f = length-tab (nx * ny) (λ k. f (k % nx) (k / nx))

  pub field_stored : (past : A) (f : Field A) → Same nx ny (field_of past nx (stored nx ny f)) f
  unfolding field_of stored
  field_stored past f i j hi hj =
      get_or_tab (nx * ny) (λ k. f (k % nx) (k / nx)) (j * nx + i) past (place_in nx ny i j hi hj)
      ∙ ap₂ f (digits_mod j hi) (digits_div j hi)

  pub stored_same : (f g : Field A) → Same nx ny f g → stored nx ny f ≡ stored nx ny g
  unfolding stored
  stored_same f g h = tab_same (nx * ny) (λ k. f (k % nx) (k / nx)) (λ k. g (k % nx) (k / nx)) go
    where
      go : (k : ℕ) → k < nx * ny → f (k % nx) (k / nx) ≡ g (k % nx) (k / nx)
      go k l = h (k % nx) (k / nx) (mod-lt k (some nx l)) ((div-lt_iff_lt-mul {k = nx} (some nx l)).1 (omega (arith, mul_comm nx ny)))
        where
          some : (n : ℕ) → k < n * ny → 0 < n
          some zero e = absurd (omega arith)
          some (suc n) e = omega arith

-- the interpolation sum sees only points of the grid
pub sum_same : (nx ny : ℕ) (z z' : Field ℤ) → 2 ≤ nx → 2 ≤ ny → Same nx ny z z' → (x y : ℕ) → sum_at nx ny z x y ≡ sum_at nx ny z' x y
unfolding sum_at corners
sum_same nx ny z z' hx hy h x y =
    let cx = cell_inside nx x hx in
    let cy = cell_inside ny y hy in
    let m = cell nx x in
    let n = cell ny y in
    let e1 : z m n ≡ z' m n = h m n (omega arith) (omega arith) in
    let e2 : z (m + 1) n ≡ z' (m + 1) n = h (m + 1) n (omega arith) (omega arith) in
    let e3 : z m (n + 1) ≡ z' m (n + 1) = h m (n + 1) (omega arith) (omega arith) in
    let e4 : z (m + 1) (n + 1) ≡ z' (m + 1) (n + 1) = h (m + 1) (n + 1) (omega arith) (omega arith) in
    cc

-- and so does smoothing
pub inner_in : (n i : ℕ) → inner n i ≡ true → (0 < i) × (i + 1 < n)
unfolding inner
inner_in n i e = let (a, b) = and_true _ _ e in (ltb-true 0 i a, ltb-true (i + 1) n b)

pub smoothed_same : (nx ny : ℕ) (z z' : Field ℤ) → Same nx ny z z' → Same nx ny (smoothed nx ny z) (smoothed nx ny z')
unfolding smoothed
smoothed_same nx ny z z' h i j hi hj = go (true_or_false (inner nx i && inner ny j))
  where
    sums : (0 < i) × (i + 1 < nx) → (0 < j) × (j + 1 < ny) → pattern_sum z i j ≡ pattern_sum z' i j
    sums p q =
        unfold pattern_sum pattern_row in
        (up_to_same (pos 0) ◌+ℤ◌ 3 _ _ (λ b lb. up_to_same (pos 0) ◌+ℤ◌ 3 _ _
        (λ a la. ap (λ (v : ℤ). pos (pattern_at a b) *ℤ v) (h (i + a - 1) (j + b - 1) (omega (arith, p.0, p.1)) (omega (arith, q.0, q.1))))))

    go : (inner nx i && inner ny j ≡ true) ⊎ (inner nx i && inner ny j ≡ false)
        → cond (inner nx i && inner ny j) (rounded (pattern_sum z i j) 16) (z i j)
        ≡ cond (inner nx i && inner ny j) (rounded (pattern_sum z' i j) 16) (z' i j)
    go (inl e) =
        let (p, q) = and_true (inner nx i) (inner ny j) e in
        rw e (ap (λ (t : ℤ). rounded t 16) (sums (inner_in nx i p) (inner_in ny j q)))
    go (inr e) = rw e (h i j hi hj)

-- what holds of a field's values, and past its end, holds of the list that stores it
pub stored_all : {A : Type 0} (P : A → Type 0) (past : A) (nx ny : ℕ) (f : Field A) → P past → ((i j : ℕ) → P (f i j)) → (k : ℕ) → P (get_or (stored nx ny f) k past)
unfolding stored
stored_all {A = A} P past nx ny f e h k = go (lt_or_le k (nx * ny))
  where
    go : (k < nx * ny) ⊎ (nx * ny ≤ k) → P (get_or (tab (nx * ny) (λ n. f (n % nx) (n / nx))) k past)
    go (inl l) = rw (get_or_tab (nx * ny) (λ n. f (n % nx) (n / nx)) k past l) (h (k % nx) (k / nx))
    go (inr l) =
        rw (get_or-eq_default (tab (nx * ny) (λ n. f (n % nx) (n / nx))) past {n = k} (omega (arith, length-tab (nx * ny) (λ n. f (n % nx) (n / nx))))) e
