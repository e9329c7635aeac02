-- Posts beyond the border: their difference is the same in every scan, so that none is rejected later under limits that do not fall; and for a
-- request without posts nothing moves, however far off a post may be: document 01, where it may not be off at all, gives the same run.
use Prim.Native.Nat.{ℕ}
use Rattle.std.specs.Prelude.{◌≡◌, ◌⊎◌, false}
use Rattle.std.proofs.Math.Bool.{true}
use Rattle.scheme.specs.Units.{Station, Request}
use Rattle.scheme.specs.Verdicts.{on_grid, off_grid}

-- a station that is not on the grid
abbrev pub Beyond : Request → Station → Type 0
Beyond q s = on_grid q.nx q.ny s.x s.y ≡ false

-- a station that is on the grid, or off it by more than the most that is in question
abbrev pub NoPost : (most : ℕ) → Request → Station → Type 0
NoPost most q s = (on_grid q.nx q.ny s.x s.y ≡ true) ⊎ (off_grid most q.nx q.ny s ≡ true)
