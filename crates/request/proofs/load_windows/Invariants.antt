use Rattle.std.proofs.Common.{◌≡◌, ℕ, ◌<◌, get_or}
use Rattle.request.specs.Tables.{no_ends}
use Rattle.request.specs.Lent.{screen_of}
use Rattle.request.specs.Loaded.{ends_at}
use Rattle.request.proofs.load_windows.Given as goal

abbrev pub invariant-loop-k : goal.invariant-loop-k
invariant-loop-k l = (k : ℕ) → k < l.k → get_or l.windows k no_ends ≡ ends_at (screen_of l.screen) k
