-- What lies at most so far off a window: points in steps, positions and stations in units; and what the grid and the cut have in common there.
use Rattle.std.specs.Prelude.{ℕ, ◌+◌, ◌*◌, ◌≤◌, ◌<◌}
use Rattle.scheme.specs.Units.{step}
use Rattle.scheme.specs.Refusals.{Span}

-- along one axis of n points: the window, and the steps by which the cut is wider on both sides
pub record Side : Type 0 where
  pub n : ℕ
  pub window : Span
  pub wider : ℕ
  pub two : 2 ≤ n
  pub ordered : window.first ≤ window.last
  pub inside : window.last < n
  pub some : 0 < wider

-- point i of the grid is on the window
pub record Inside (w : Side) (i : ℕ) : Type 0 where
  pub low : w.window.first ≤ i
  pub high : i ≤ w.window.last

-- the position x of the grid is at most u units off the window
pub record Spot (w : Side) (u x : ℕ) : Type 0 where
  pub low : step * w.window.first ≤ x + u
  pub high : x ≤ step * w.window.last + u
