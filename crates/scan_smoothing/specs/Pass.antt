-- The field smoothed in place: the rows that are made anew, those that are still old, and the two old ones that are kept.
use Rattle.std.specs.Prelude.{ℕ, zero, suc, ◌+◌, ◌-◌, ◌*◌, ◌/◌, ◌%◌, ◌≤◌, ◌<◌, ◌≡◌, refl, true, false, ◌&&◌, ◌⊎◌, List, length, set, replicate, ℤ, pos, nat_abs, ◌+ℤ◌}
use native.Mathlib.Omega.{arith}
use Rattle.std.proofs.Common.{mul_comm, mul-le-mul, mul-le-mul_right, ◌∙◌, inl, inr}
use Rattle.std.proofs.Math.Path.{sym, ap}
use Rattle.std.proofs.Math.Arith.{digits_div, digits_mod}
use Rattle.std.proofs.Math.ListN.{get_or}
use Rattle.std.proofs.lemmas.List.{length-replicate}
use Rattle.lists.specs.Tests.{lt_or_le, true_or_false}
use Rattle.lists.specs.Tab.{is_tab}
use Rattle.lists.specs.Filled.{Filled, filled_set}
use Rattle.scheme.specs.Units.{field_of, stored, most_side}
use Rattle.scheme.specs.Rounding.{rounded}
use Rattle.scheme.specs.Smoothing.{inner, smoothed}
use Rattle.scheme.specs.Most.{most_points, most_field}
use Rattle.scheme.specs.Accepted.{Shaped}
use Rattle.scheme.specs.Bounds.{Small}
use Rattle.scan_smoothing.specs.Pattern.{row_at, nine, new_at, row_same, pattern_is, inner_means, inner_is, border_point, inner_point}

-- ---- where the rows stand

pub record RowsIn (nx ny j len : ℕ) : Type 0 where
  pub few : len ≤ most_points
  pub first : 0 + nx ≤ len
  pub three : j + 2 < ny → (j + 1) * nx + nx + nx ≤ len

pub rows_in : (nx ny j len : ℕ) → Shaped nx ny len → RowsIn nx ny j len
rows_in nx ny j len shape =
    record {
      few = rw shape.whole (mul-le-mul shape.few_columns shape.few_rows);
      first = omega (arith, shape.whole, mul-le-mul_right nx shape.two_rows, mul_comm nx ny);
      three = λ h. let k : j + 3 ≤ ny = omega arith in omega (arith, shape.whole, mul-le-mul_right nx k, mul_comm nx ny);
    }

-- ---- a row that is kept

-- r has room for the longest row, and zeros behind nx places
pub record Room (nx : ℕ) (r : List ℤ) : Type 0 where
  pub places : length r ≡ most_side
  pub clear : (k : ℕ) → nx ≤ k → get_or r k (pos 0) ≡ pos 0

-- and before them row j of the grid l
pub record Kept (l : List ℤ) (nx j : ℕ) (r : List ℤ) : Type 0 where
  pub room : Room nx r
  pub row : (i : ℕ) → i < nx → get_or r i (pos 0) ≡ get_or l (j * nx + i) (pos 0)

zeros : (n k : ℕ) → get_or (replicate n (pos 0)) k (pos 0) ≡ pos 0
zeros zero k = refl
zeros (suc n) zero = refl
zeros (suc n) (suc k) = zeros n k

pub blank_room : (nx : ℕ) → Room nx (replicate most_side (pos 0))
blank_room nx = record { places = length-replicate {A = ℤ} most_side (pos 0); clear = λ k h. zeros most_side k }

-- row j is copied from place p = j * nx on of z, which still has it
pub keeps : (l z : List ℤ) (nx j p : ℕ) (r r' : List ℤ) → p ≡ j * nx → ((k : ℕ) → p ≤ k → get_or z k (pos 0) ≡ get_or l k (pos 0)) → Room nx r
    → Filled (pos 0) (λ k. get_or z (p + k) (pos 0)) 0 nx r r' → Kept l nx j r'
keeps l z nx j p r r' e old before q =
    record {
      room = record { places = q.same_length ∙ before.places; clear = λ k h. q.rest k h ∙ before.clear k h };
      row = λ i h. q.new i (omega arith) h ∙ rw (← e) (old (p + i) (omega arith));
    }

pub kept_small : (l : List ℤ) (nx j : ℕ) (r : List ℤ) → Small l → Kept l nx j r → Small r
kept_small l nx j r small kept k = go (lt_or_le k nx)
  where
    go : (k < nx) ⊎ (nx ≤ k) → nat_abs (get_or r k (pos 0)) ≤ most_field
    go (inl h) = rw (kept.row k h) (small (j * nx + k))
    go (inr h) = rw (kept.room.clear k h) (omega arith)

-- ---- the columns of a row

-- one column more: the rows that are kept do not change, and the row below, from q on, is still that of z₀
pub column_next : (above here z₀ z : List ℤ) (p q i : ℕ) (n v : ℤ) → p + i < q → p + i < length z
    → n ≡ nine above here z q i → v ≡ rounded n 16
    → Filled (pos 0) (λ k. new_at above here z₀ q (k - p)) p (p + i) z₀ z
    → Filled (pos 0) (λ k. new_at above here z₀ q (k - p)) p (p + (i + 1)) z₀ (set z (p + i) v)
column_next above here z₀ z p q i n v below inside sum e f =
    filled_set (pos 0) (λ k. new_at above here z₀ q (k - p)) p (p + i) (p + (i + 1)) z₀ z v (omega arith) (omega arith) inside new f
  where
    same : nine above here z q i ≡ nine above here z₀ q i
    same =
        unfold nine in
        ap (λ (t : ℤ). row_at above i 0 +ℤ row_at here i 1 +ℤ t) (row_same z z₀ (q + i) (q + i) 2 (λ a h. f.rest (q + i + a) (omega arith)))

    new : v ≡ new_at above here z₀ q (p + i - p)
    new = let k : p + i - p ≡ i = omega arith in rw k (unfold new_at in e ∙ ap (λ (t : ℤ). rounded t 16) (sum ∙ same))

-- ---- the rows of the field

-- what the smoothed field has at place k of the grid
unfoldable pub smooth_k : List ℤ → (nx ny k : ℕ) → ℤ
smooth_k l nx ny k = smoothed nx ny (field_of (pos 0) nx l) (k % nx) (k / nx)

module _ (l : List ℤ) (nx ny : ℕ) where
  at_place : (i j : ℕ) → i < nx → smooth_k l nx ny (j * nx + i) ≡ smoothed nx ny (field_of (pos 0) nx l) i j
  unfolding smooth_k
  at_place i j h = rw (digits_mod j h, digits_div j h)

  -- a point that is on the border
  at_border : (i j : ℕ) → i < nx → ((0 < i) × (i + 1 < nx) × (0 < j) × (j + 1 < ny) → ⊥) → smooth_k l nx ny (j * nx + i) ≡ get_or l (j * nx + i) (pos 0)
  unfolding field_of
  at_border i j h out = at_place i j h ∙ go (true_or_false (inner nx i && inner ny j))
    where
      go : (inner nx i && inner ny j ≡ true) ⊎ (inner nx i && inner ny j ≡ false)
          → smoothed nx ny (field_of (pos 0) nx l) i j ≡ field_of (pos 0) nx l i j
      go (inl e) = absurd (out (inner_means nx ny i j e))
      go (inr e) = border_point nx ny (field_of (pos 0) nx l) i j e

  -- a point that is not, from the three old rows
  at_inner : (i j : ℕ) → i + 2 < nx → j + 2 < ny
      → smooth_k l nx ny ((j + 1) * nx + (i + 1)) ≡ rounded (row_at l (j * nx + i) 0 +ℤ row_at l ((j + 1) * nx + i) 1 +ℤ row_at l ((j + 2) * nx + i) 2) 16
  at_inner i j hi hj =
      at_place (i + 1) (j + 1) (omega arith)
      ∙ inner_point nx ny (field_of (pos 0) nx l) (i + 1) (j + 1) (rw (inner_is nx i hi, inner_is ny j hj))
      ∙ ap (λ (t : ℤ). rounded t 16) (pattern_is l nx i j)

  kept_at : (j : ℕ) (r : List ℤ) → Kept l nx j r → (i a : ℕ) → i + a < nx → get_or r (i + a) (pos 0) ≡ get_or l (j * nx + i + a) (pos 0)
  kept_at j r kept i a h =
      let e : j * nx + (i + a) ≡ j * nx + i + a = omega arith in
      kept.row (i + a) h ∙ ap (λ (k : ℕ). get_or l k (pos 0)) e

  -- rows 0 to j are new, those from j + 1 on are old
  abbrev pub NewTo : (j : ℕ) (z : List ℤ) → Type 0
  NewTo j z = Filled (pos 0) (smooth_k l nx ny) 0 ((j + 1) * nx) l z

  -- the first row is border
  pub first_row : NewTo 0 l
  first_row =
      record {
        same_length = refl;
        low = λ k h. refl;
        new = λ k h m. let e : 0 * nx + k ≡ k = omega arith in sym (rw e at (at_border k 0 (omega arith) (λ t. omega (arith, t.2))));
        rest = λ k h. refl;
      }

  -- the row that follows, made from three old ones
  module _ (j : ℕ) (wide : 2 ≤ nx) (more : j + 2 < ny) (z : List ℤ) (so_far : NewTo j z) (above here : List ℤ) (kept : Kept l nx j above) (at-hand : Kept l nx (j + 1) here) where
    new_is : (i : ℕ) → i + 2 < nx → new_at above here z ((j + 2) * nx) i ≡ smooth_k l nx ny ((j + 1) * nx + (i + 1))
    unfolding new_at nine
    new_is i h =
        ap (λ (t : ℤ). rounded t 16)
        (rw (
          row_same above l i (j * nx + i) 0 (λ a e. kept_at j above kept i a (omega arith)),
          row_same here l i ((j + 1) * nx + i) 1 (λ a e. kept_at (j + 1) here at-hand i a (omega arith)),
          row_same z l ((j + 2) * nx + i) ((j + 2) * nx + i) 2 (λ a e. so_far.rest ((j + 2) * nx + i + a) (omega arith)),
        ))
        ∙ sym (at_inner i j h more)

    pub row_next : (p q : ℕ) (z' : List ℤ) → p ≡ (j + 1) * nx + 1 → q ≡ (j + 2) * nx
        → Filled (pos 0) (λ k. new_at above here z q (k - p)) p (p + (nx - 2)) z z' → NewTo (j + 1) z'
    row_next p q z' ep eq f =
        record {
          same_length = f.same_length ∙ so_far.same_length;
          low = λ k h. absurd (omega arith);
          new = λ k h m. go k m (lt_or_le k ((j + 1) * nx)) (lt_or_le k p) (lt_or_le k (p + (nx - 2)));
          rest = λ k h. f.rest k (omega arith) ∙ so_far.rest k (omega arith);
        }
      where
        old : (i : ℕ) → i < nx → ((0 < i) × (i + 1 < nx) → ⊥) → get_or z ((j + 1) * nx + i) (pos 0) ≡ smooth_k l nx ny ((j + 1) * nx + i)
        old i h out = so_far.rest ((j + 1) * nx + i) (omega arith) ∙ sym (at_border i (j + 1) h (λ t. out (t.0, t.1)))

        go : (k : ℕ) → k < (j + 1 + 1) * nx → (k < (j + 1) * nx) ⊎ ((j + 1) * nx ≤ k) → (k < p) ⊎ (p ≤ k) → (k < p + (nx - 2)) ⊎ (p + (nx - 2) ≤ k)
            → get_or z' k (pos 0) ≡ smooth_k l nx ny k
        go k m (inl h) b c = f.low k (omega arith) ∙ so_far.new k (omega arith) h
        go k m (inr h) (inl b) c =
            let e : k ≡ (j + 1) * nx + 0 = omega arith in
            f.low k b ∙ rw e (old 0 (omega arith) (λ t. omega (arith, t.0)))
        go k m (inr h) (inr b) (inl c) =
            let e : k ≡ (j + 1) * nx + (k - p + 1) = omega arith in
            f.new k b c ∙ rw eq (new_is (k - p) (omega arith)) ∙ ap (smooth_k l nx ny) (sym e)
        go k m (inr h) (inr b) (inr c) =
            let e : k ≡ (j + 1) * nx + (nx - 1) = omega arith in
            f.rest k c ∙ rw e (old (nx - 1) (omega arith) (λ t. omega (arith, t.1)))

  -- the last row is border, so all is done
  pub last_row : (j : ℕ) (z : List ℤ) → Shaped nx ny (length l) → j + 2 ≡ ny → NewTo j z → z ≡ stored nx ny (smoothed nx ny (field_of (pos 0) nx l))
  unfolding stored
  last_row j z shape e so_far = is_tab (pos 0) (nx * ny) _ z (so_far.same_length ∙ shape.whole) (λ k h. unfold smooth_k in go k h (lt_or_le k ((j + 1) * nx)))
    where
      go : (k : ℕ) → k < nx * ny → (k < (j + 1) * nx) ⊎ ((j + 1) * nx ≤ k) → get_or z k (pos 0) ≡ smooth_k l nx ny k
      go k h (inl m) = so_far.new k (omega arith) m
      go k h (inr m) =
          let c : k ≡ (j + 1) * nx + (k - (j + 1) * nx) = omega arith in
          let whole : nx * (j + 2) ≡ (j + 1) * nx + nx = omega arith in
          let i : k - (j + 1) * nx < nx = omega (arith, rw e at whole) in
          so_far.rest k m ∙ rw c (sym (at_border (k - (j + 1) * nx) (j + 1) i (λ t. omega (arith, t.3, e))))
