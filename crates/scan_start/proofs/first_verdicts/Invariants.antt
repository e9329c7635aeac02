use Rattle.std.proofs.Common.{◌≡◌, ℕ, ◌<◌, get_or}
use Rattle.scan_start.specs.Start.{first_at}
use Rattle.scan_start.proofs.first_verdicts.Given as goal

abbrev pub invariant-loop-k : goal.invariant-loop-k
invariant-loop-k l = (i : ℕ) → i < l.k → get_or l.verdict i 0 ≡ first_at l.terms l.stations i
