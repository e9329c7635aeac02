-- The cuts of a screen's windows, and their points together.
use Rattle.std.specs.Prelude.{ℕ, ◌+◌, List}
use Rattle.std.proofs.Common.{arith}
use Rattle.lists.specs.Sums.{total}
use Rattle.scheme.specs.Refusals.{Window, points_of}
use Rattle.scheme.specs.Reach.{widened}
use Rattle.scheme.specs.Accepted.{OnGrid}

-- the cut of a window: `cut_of` of a request with this reach and these sides, which are all that the code has at hand
abbrev pub cut_by : (reach nx ny : ℕ) → Window → Window
cut_by reach nx ny w = record { columns = widened reach nx w.columns; rows = widened reach ny w.rows }

abbrev pub points_of_cuts : (reach nx ny : ℕ) → List Window → ℕ
points_of_cuts reach nx ny ws = total 0 ◌+◌ (λ w. points_of (cut_by reach nx ny w)) ws

-- it is on the grid
pub cut_on : (reach : ℕ) {nx ny : ℕ} {w : Window} → OnGrid nx ny w → OnGrid nx ny (cut_by reach nx ny w)
unfolding widened
cut_on reach on =
    record {
      across = omega (arith, on.across, on.right);
      down = omega (arith, on.down, on.bottom);
      right = omega (arith, on.right);
      bottom = omega (arith, on.bottom);
    }
