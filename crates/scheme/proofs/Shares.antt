-- The value at a station by the corners with a share: a cell's far edge is the next cell's near one, and a part of the grid gives the same sum.
use Rattle.std.specs.Prelude.{ℕ, zero, suc, ◌+◌, ◌-◌, ◌*◌, ◌≤◌, ◌<◌, ◌≡◌, ◌⊎◌, ℤ, pos, ◌*ℤ◌}
use Rattle.std.proofs.Common.{arith, zero-mul, mul-zero, sym, ap, ◌∙◌, inl, inr}
use Rattle.std.proofs.Math.IntN.{zero-*ℤ, +ℤ_idl, +ℤ_idr}
use Rattle.lists.specs.Tests.{lt_or_le}
use Rattle.scheme.specs.Units.{Field, step}
use Rattle.scheme.specs.Value.{cell, corners, sum_at}
use Rattle.scheme.proofs.Cells.{cell_inside, cell_low, cell_high}
use Rattle.scheme.specs.Axes.{Axis, off, len, On, Beside, SameBeside}
use Rattle.scheme.specs.Shares.{Holds, interpolation_sum, sum_from}

-- ---- any cell that holds the position gives the same sum

-- with a share of 0 or 64 along an axis, two of the corners have none
column_next : (z : Field ℤ) (m n b : ℕ) → interpolation_sum z m n 64 b ≡ interpolation_sum z (m + 1) n 0 b
unfolding corners
column_next z m n b = simp (zero-mul, zero-*ℤ, +ℤ_idl, +ℤ_idr)

row_next : (z : Field ℤ) (m n a : ℕ) → interpolation_sum z m n a 64 ≡ interpolation_sum z m (n + 1) a 0
unfolding corners
row_next z m n a = simp (mul-zero, zero-*ℤ, +ℤ_idl, +ℤ_idr)

-- what one cell and the next have in common, all cells that hold the position have
same_cell : (f : ℕ → ℤ) (x : ℕ) → ((m : ℕ) → x ≡ step * m + step → f m ≡ f (m + 1)) → (m m' : ℕ) → Holds m x → Holds m' x → f m ≡ f m'
same_cell f x next m m' h h' = go (lt_or_le m m') (lt_or_le m' m)
  where
    go : (m < m') ⊎ (m' ≤ m) → (m' < m) ⊎ (m ≤ m') → f m ≡ f m'
    go (inl l) k =
        let e : m + 1 ≡ m' = omega (arith, h.high, h'.low) in
        next m (omega (arith, h.high, h'.low)) ∙ ap f e
    go (inr l) (inl k) =
        let e : m' + 1 ≡ m = omega (arith, h.low, h'.high) in
        sym (next m' (omega (arith, h.low, h'.high)) ∙ ap f e)
    go (inr l) (inr k) = let e : m ≡ m' = omega arith in ap f e

any_cell : (z : Field ℤ) (x y m m' n n' : ℕ) → Holds m x → Holds m' x → Holds n y → Holds n' y → sum_from z m n x y ≡ sum_from z m' n' x y
any_cell z x y m m' n n' hm hm' hn hn' =
    same_cell (λ (k : ℕ). sum_from z k n x y) x (λ k e. across k e) m m' hm hm'
    ∙ same_cell (λ (k : ℕ). sum_from z m' k x y) y (λ k e. down k e) n n' hn hn'
  where
    across : (k : ℕ) → x ≡ step * k + step → sum_from z k n x y ≡ sum_from z (k + 1) n x y
    across k e =
        let e1 : x - step * k ≡ 64 = omega arith in
        let e2 : x - step * (k + 1) ≡ 0 = omega arith in
        rw (e1, e2) (column_next z k n (y - step * n))

    down : (k : ℕ) → y ≡ step * k + step → sum_from z m' k x y ≡ sum_from z m' (k + 1) x y
    down k e =
        let e1 : y - step * k ≡ 64 = omega arith in
        let e2 : y - step * (k + 1) ≡ 0 = omega arith in
        rw (e1, e2) (row_next z m' k (x - step * m'))

-- ---- only the corners with a share count

term : (k : ℕ) (p q : ℤ) → (0 < k → p ≡ q) → pos k *ℤ p ≡ pos k *ℤ q
term zero p q f = zero-*ℤ p ∙ sym (zero-*ℤ q)
term (suc k) p q f = ap (λ (t : ℤ). pos (suc k) *ℤ t) (f (omega arith))

factors : (a b : ℕ) → 0 < a * b → (0 < a) × (0 < b)
factors zero b h = absurd (omega arith)
factors (suc a) zero h = absurd (omega arith)
factors (suc a) (suc b) h = (omega arith, omega arith)

module _ (z z' : Field ℤ) (m n m' n' a b : ℕ)
    (low-low : 0 < 64 - a → 0 < 64 - b → z m n ≡ z' m' n') (high-low : 0 < a → 0 < 64 - b → z (m + 1) n ≡ z' (m' + 1) n')
    (low-high : 0 < 64 - a → 0 < b → z m (n + 1) ≡ z' m' (n' + 1)) (high-high : 0 < a → 0 < b → z (m + 1) (n + 1) ≡ z' (m' + 1) (n' + 1)) where
  sums_agree : interpolation_sum z m n a b ≡ interpolation_sum z' m' n' a b
  unfolding corners
  sums_agree =
      let e1 = term ((64 - a) * (64 - b)) _ _ (λ h. low-low (factors (64 - a) (64 - b) h).0 (factors (64 - a) (64 - b) h).1) in
      let e2 = term (a * (64 - b)) _ _ (λ h. high-low (factors a (64 - b) h).0 (factors a (64 - b) h).1) in
      let e3 = term ((64 - a) * b) _ _ (λ h. low-high (factors (64 - a) b h).0 (factors (64 - a) b h).1) in
      let e4 = term (a * b) _ _ (λ h. high-high (factors a b h).0 (factors a b h).1) in
      cc (e1, e2, e3, e4)

-- ---- a part of the grid, axis by axis

low_beside : (a : Axis) (x m : ℕ) → m < len a → step * (m + off a) ≤ x → 0 < 64 - (x - step * (m + off a)) → Beside a x m
low_beside a x m l h k = record { inside = l; close = omega arith }

high_beside : (a : Axis) (x m : ℕ) → m + 1 < len a → x ≤ step * (m + off a) + step → 0 < x - step * (m + off a) → Beside a x (m + 1)
high_beside a x m l h k = record { inside = l; close = omega arith }

-- the cell of a position on the part, counted on the grid
part_cell : (a : Axis) (x x' : ℕ) → On a x → x ≡ x' + step * off a → Holds (cell (len a) x' + off a) x
part_cell a x x' h e =
    go (cell_low (len a) x') (cell_high (len a) x' (omega (arith, a.two)) (omega (arith, a.two, h.high, h.low)))
  where
    go : step * cell (len a) x' ≤ x' → x' ≤ step * cell (len a) x' + step → Holds (cell (len a) x' + off a) x
    go p q = record { low = omega arith; high = omega arith }

whole_cell : (a : Axis) (x : ℕ) → On a x → Holds (cell a.n x) x
whole_cell a x h =
    record {
      low = cell_low a.n x;
      high = cell_high a.n x (omega (arith, a.two, a.inside)) (omega (arith, a.inside, h.high));
    }

pub sum_local : (a b : Axis) (z z' : Field ℤ) (x y x' y' : ℕ) → On a x → On b y → x ≡ x' + step * off a → y ≡ y' + step * off b
    → SameBeside a b x y z z' → sum_at a.n b.n z x y ≡ sum_at (len a) (len b) z' x' y'
unfolding sum_at
sum_local a b z z' x y x' y' hx hy ex ey ag =
    any_cell z x y (cell a.n x) (cell (len a) x' + off a) (cell b.n y) (cell (len b) y' + off b)
    (whole_cell a x hx) (part_cell a x x' hx ex) (whole_cell b y hy) (part_cell b y y' hy ey)
    ∙ corners (cell (len a) x') (cell (len b) y') (part_cell a x x' hx ex) (part_cell b y y' hy ey)
    (cell_inside (len a) x' (omega (arith, a.two))) (cell_inside (len b) y' (omega (arith, b.two)))
  where
    corners : (m n : ℕ) → Holds (m + off a) x → Holds (n + off b) y → m + 2 ≤ len a → n + 2 ≤ len b
        → sum_from z (m + off a) (n + off b) x y ≡ sum_from z' m n x' y'
    corners m n cx cy lx ly =
        let e1 : x' - step * m ≡ x - step * (m + off a) = omega arith in
        let e2 : y' - step * n ≡ y - step * (n + off b) = omega arith in
        rw (e1, e2) (sums_agree z z' (m + off a) (n + off b) m n (x - step * (m + off a)) (y - step * (n + off b))
        (λ p q. ag m n (low_x p) (low_y q))
        (λ p q. rw (swap m (off a)) (ag (m + 1) n (high_x p) (low_y q)))
        (λ p q. rw (swap n (off b)) (ag m (n + 1) (low_x p) (high_y q)))
        (λ p q. rw (swap m (off a), swap n (off b)) (ag (m + 1) (n + 1) (high_x p) (high_y q))))
      where
        swap : (k o : ℕ) → k + o + 1 ≡ k + 1 + o
        swap k o = omega arith

        below : (k l : ℕ) → k + 2 ≤ l → (k < l) × (k + 1 < l)
        below k l h = (omega arith, omega arith)

        low_x : 0 < 64 - (x - step * (m + off a)) → Beside a x m
        low_x p = low_beside a x m (below m (len a) lx).0 cx.low p

        low_y : 0 < 64 - (y - step * (n + off b)) → Beside b y n
        low_y p = low_beside b y n (below n (len b) ly).0 cy.low p

        high_x : 0 < x - step * (m + off a) → Beside a x (m + 1)
        high_x p = high_beside a x m (below m (len a) lx).1 cx.high p

        high_y : 0 < y - step * (n + off b) → Beside b y (n + 1)
        high_y p = high_beside b y n (below n (len b) ly).1 cy.high p
