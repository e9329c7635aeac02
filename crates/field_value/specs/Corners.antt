-- The four corners of a cell, p, q over r, s: their interpolation sum, and where they stand in a stored field.
use Rattle.std.specs.Prelude.{ℕ, zero, suc, ◌+◌, ◌-◌, ◌*◌, ◌≤◌, ◌<◌, ◌≡◌, ◌⊎◌, List, [], ◌∷◌, length, get_or, ℤ, pos, nat_abs, ◌+ℤ◌, ◌*ℤ◌}
use Rattle.std.proofs.Common.{arith, inl, inr, mul-le-mul, mul-le-mul_left}
use Rattle.std.proofs.Math.IntN.{+ℤ_idl}
use Rattle.integers.specs.Sizes.{size_add, size_mul}
use Rattle.scheme.specs.Units.{field_of, step}
use Rattle.scheme.specs.Value.{cell, corners, sum_at}
use Rattle.scheme.specs.Accepted.{Shaped}
use Rattle.scheme.proofs.Cells.{cell_inside, cell_high}

-- their shares, at a and b units past the first
abbrev pub shares_of : (a b : ℕ) → List ℕ
shares_of a b = (step - a) * (step - b) ∷ a * (step - b) ∷ (step - a) * b ∷ a * b ∷ []

-- no share is above 4096 parts
abbrev pub AreShares : List ℕ → Type 0
AreShares shares = (k : ℕ) → get_or shares k 0 ≤ step * step

-- a sum so far with each further value, taken as often as its share says; and the sum of all
unfoldable pub blend_on : ℤ → (shares : List ℕ) (values : List ℤ) → ℤ
blend_on t [] values = t
blend_on t (share ∷ shares) [] = t
blend_on t (share ∷ shares) (value ∷ values) = blend_on (t +ℤ pos share *ℤ value) shares values

abbrev pub blend : (shares : List ℕ) (values : List ℤ) → ℤ
blend = blend_on (pos 0)

-- where a position (x, y) lies: the place of the lower corner of its cell, and how far past that corner it is
pub record Spotted (nx ny x y corner a b : ℕ) : Type 0 where
  pub corner_is : corner ≡ cell ny y * nx + cell nx x
  pub a_is : a ≡ x - step * cell nx x
  pub b_is : b ≡ y - step * cell ny y
  pub a_few : a ≤ step
  pub b_few : b ≤ step
  pub last : corner + nx + 1 < nx * ny

-- so it is at the cell (m, n) of a position on the grid
pub spotted : (nx ny x y : ℕ) → Shaped nx ny (nx * ny) → x ≤ step * (nx - 1) → y ≤ step * (ny - 1) → (m n : ℕ) → m ≡ cell nx x → n ≡ cell ny y
    → Spotted nx ny x y (n * nx + m) (x - step * m) (y - step * n)
spotted nx ny x y shape on_x on_y m n em en =
    record {
      corner_is = rw (em, en);
      a_is = rw em;
      b_is = rw en;
      a_few = omega (arith, cell_high nx x shape.two_columns on_x);
      b_few = omega (arith, cell_high ny y shape.two_rows on_y);
      last = corner_in (omega (arith, cell_inside nx x shape.two_columns)) (omega (arith, cell_inside ny y shape.two_rows));
    }
  where
    corner_in : m + 2 ≤ nx → n + 2 ≤ ny → n * nx + m + nx + 1 < nx * ny
    corner_in h k = omega (arith, mul-le-mul_left nx k)

-- no share is larger than all of them together
pub are_shares : (a b : ℕ) → a ≤ step → b ≤ step → AreShares (shares_of a b)
are_shares a b ha hb k = few k
  where
    left : step - a ≤ step
    left = omega arith

    below : step - b ≤ step
    below = omega arith

    few : (k : ℕ) → get_or (shares_of a b) k 0 ≤ step * step
    few zero = mul-le-mul left below
    few (suc zero) = mul-le-mul ha below
    few (suc (suc zero)) = mul-le-mul left hb
    few (suc (suc (suc zero))) = mul-le-mul ha hb
    few (suc (suc (suc (suc k)))) = omega arith

-- the other three corners of a cell, as a stored field has them
pub right_of : (nx m n : ℕ) → n * nx + m + 1 ≡ n * nx + (m + 1)
right_of nx m n = omega arith

pub above : (nx m n : ℕ) → n * nx + m + nx ≡ (n + 1) * nx + m
above nx m n = omega arith

pub across : (nx m n : ℕ) → n * nx + m + nx + 1 ≡ (n + 1) * nx + (m + 1)
across nx m n = omega arith

-- the sum of the corners as a stored field has them is the field's
pub blend_is_sum : (l : List ℤ) (nx ny x y corner a b : ℕ) → Spotted nx ny x y corner a b
    → blend (shares_of a b) (get_or l corner (pos 0) ∷ get_or l (corner + 1) (pos 0) ∷ get_or l (corner + nx) (pos 0) ∷ get_or l (corner + nx + 1) (pos 0) ∷ [])
    ≡ sum_at nx ny (field_of (pos 0) nx l) x y
unfolding blend_on sum_at corners field_of
blend_is_sum l nx ny x y corner a b s =
    let m = cell nx x in
    let n = cell ny y in
    rw (+ℤ_idl, s.corner_is, s.a_is, s.b_is, right_of nx m n, across nx m n, above nx m n)

-- ---- the sum as a loop finds it

-- with the corners that are left the sum so far makes the sum of all, and it has room for them
pub record BlendsTo (t : ℤ) (sum : ℤ) (shares : List ℕ) (values : List ℤ) : Type 0 where
  pub few : AreShares shares
  pub on : blend_on sum shares values ≡ t
  pub room : nat_abs sum + length shares * 8796093022208 ≤ 35184372088832

module _ (t sum : ℤ) (share : ℕ) (value : ℤ) (shares : List ℕ) (values : List ℤ) (so_far : BlendsTo t sum (share ∷ shares) (value ∷ values)) where
  pub share_few : share ≤ step * step
  share_few = so_far.few 0

  pub blends_next : nat_abs value ≤ 2147483648 → BlendsTo t (sum +ℤ pos share *ℤ value) shares values
  unfolding blend_on
  blends_next h =
      record {
        few = λ k. so_far.few (suc k);
        on = so_far.on;
        room = omega (arith, so_far.room, size_add sum (pos share *ℤ value), size_mul (pos share) value, mul-le-mul share_few h);
      }

-- where either is at its end
pub blends_all : (t sum : ℤ) (shares : List ℕ) (values : List ℤ) → BlendsTo t sum shares values → (length shares ≡ 0) ⊎ (length values ≡ 0)
    → (sum ≡ t) × (nat_abs sum ≤ 35184372088832)
unfolding blend_on
blends_all t sum [] values so_far end = (so_far.on, omega (arith, so_far.room))
blends_all t sum (share ∷ shares) [] so_far end = (so_far.on, omega (arith, so_far.room))
blends_all t sum (share ∷ shares) (value ∷ values) so_far (inl e) = absurd (omega arith)
blends_all t sum (share ∷ shares) (value ∷ values) so_far (inr e) = absurd (omega arith)
