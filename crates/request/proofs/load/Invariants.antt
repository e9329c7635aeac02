use Rattle.std.proofs.Common.{◌≡◌, ℕ, ◌<◌, get_or}
use Rattle.request.specs.Tables.{no_row}
use Rattle.request.specs.Lent.{columns_of}
use Rattle.request.specs.Loaded.{row_at}
use Rattle.request.proofs.load.Given as goal

abbrev pub invariant-loop-k : goal.invariant-loop-k
invariant-loop-k l = (k : ℕ) → k < l.k → get_or l.stations k no_row ≡ row_at (columns_of l.columns) k
