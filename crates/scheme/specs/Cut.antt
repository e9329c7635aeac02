-- The cut of an accepted request: which of its rows is which, and that it is itself an accepted request, with two columns and rows at least.
use Rattle.std.specs.Prelude.{ℕ}
use Rattle.lists.specs.Parted.{rank}
use Rattle.scheme.specs.Units.{Request}
use Rattle.scheme.specs.Refusals.{Window}
use Rattle.scheme.specs.Reach.{cut_of, on_window}

abbrev pub row_in_cut : Request → Window → ℕ → ℕ
row_in_cut q w k = rank (on_window q.nx q.ny (cut_of q w)) q.stations k
