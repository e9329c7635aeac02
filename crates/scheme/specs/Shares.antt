-- The value at a station by the corners with a share: a cell's far edge is the next cell's near one, and a part of the grid gives the same sum.
use Rattle.std.specs.Prelude.{ℕ, ◌+◌, ◌-◌, ◌*◌, ◌≤◌, ℤ, pos, ◌+ℤ◌, ◌*ℤ◌}
use Rattle.scheme.specs.Units.{Field, step}
use Rattle.scheme.specs.Value.{corners}

-- the sum of the corners of the cell at (m, n)
abbrev pub interpolation_sum : Field ℤ → (m n a b : ℕ) → ℤ
interpolation_sum z = corners ◌+ℤ◌ (λ share i j. pos share *ℤ z i j)

-- the sum at (x, y) from the cell with the lower corner (m, n)
abbrev pub sum_from : Field ℤ → (m n x y : ℕ) → ℤ
sum_from z m n x y = interpolation_sum z m n (x - step * m) (y - step * n)

pub record Holds (m x : ℕ) : Type 0 where
  pub low : step * m ≤ x
  pub high : x ≤ step * m + step
