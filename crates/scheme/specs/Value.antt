-- "One scan", Value at a station.
use Rattle.std.specs.Prelude.{ℕ, ◌+◌, ◌-◌, ◌*◌, ◌/◌, min, ℤ, pos, negsuc, ◌+ℤ◌, ◌*ℤ◌}
use Rattle.scheme.specs.Units.{Station, Field, step}
use Rattle.scheme.specs.Rounding.{rounded}

-- the place of a position on an axis of n points: itself, if it is on the grid, and else the nearer bound. That is a post's nearest place (document 02, 1)
unfoldable pub place : ℕ → ℤ → ℕ
place n (pos x) = min x (step * (n - 1))
place n (negsuc x) = 0

-- the lower corner of its cell. A station on the last column or row uses the last cell
unfoldable pub cell : ℕ → ℕ → ℕ
cell n x = min (x / step) (n - 2)

-- the corners of the cell at (m, n), each with its share: (64-a)(64-b) of (m, n), a(64-b) of (m+1, n), (64-a)b of (m, n+1), ab of (m+1, n+1)
unfoldable pub corners : {A : Type 0} → (A → A → A) → ((share i j : ℕ) → A) → (m n a b : ℕ) → A
corners and of m n a b =
    and (and (and (of ((64 - a) * (64 - b)) m n) (of (a * (64 - b)) (m + 1) n)) (of ((64 - a) * b) m (n + 1))) (of (a * b) (m + 1) (n + 1))

-- of the cell of (x, y), with a = x - 64m, b = y - 64n
abbrev pub corners_at : {A : Type 0} → (nx ny x y : ℕ) → (A → A → A) → ((share i j : ℕ) → A) → A
corners_at nx ny x y and of = corners and of (cell nx x) (cell ny y) (x - step * cell nx x) (y - step * cell ny y)

-- the sum is (64-a)(64-b)z(m,n) + a(64-b)z(m+1,n) + (64-a)b z(m,n+1) + ab z(m+1,n+1)
unfoldable pub sum_at : (nx ny : ℕ) → Field ℤ → (x y : ℕ) → ℤ
sum_at nx ny z x y = corners_at nx ny x y ◌+ℤ◌ (λ share i j. pos share *ℤ z i j)

-- It is divided by 4096 and rounded, once
unfoldable pub value_at : (nx ny : ℕ) → Field ℤ → Station → ℤ
value_at nx ny z s = rounded (sum_at nx ny z (place nx s.x) (place ny s.y)) 4096
