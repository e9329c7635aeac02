-- A position lies in its cell, and the cell on the grid: also on the last column or row.
use Rattle.std.specs.Prelude.{ℕ, ◌+◌, ◌-◌, ◌*◌, ◌≤◌, ◌≡◌, pos}
use Rattle.std.proofs.Common.{arith}
use Rattle.scheme.specs.Units.{step}
use Rattle.scheme.specs.Value.{place, cell}

-- both corners of the cell are points of the axis
pub cell_inside : (n x : ℕ) → 2 ≤ n → cell n x + 2 ≤ n
unfolding cell
cell_inside n x h = omega arith

pub cell_low : (n x : ℕ) → step * cell n x ≤ x
unfolding cell
cell_low n x = omega arith

pub cell_high : (n x : ℕ) → 2 ≤ n → x ≤ step * (n - 1) → x ≤ step * cell n x + step
unfolding cell
cell_high n x h k = omega arith

-- a position on the axis is its own place
pub place_on : (n x : ℕ) → x ≤ step * (n - 1) → place n (pos x) ≡ x
unfolding place
place_on n x h = omega arith
