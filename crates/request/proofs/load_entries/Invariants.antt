use Rattle.std.proofs.Common.{◌≡◌, ℕ, ◌<◌, get_or}
use Rattle.request.specs.Tables.{no_entry}
use Rattle.request.specs.Lent.{plan_of}
use Rattle.request.specs.Loaded.{entry_at}
use Rattle.request.proofs.load_entries.Given as goal

abbrev pub invariant-loop-m : goal.invariant-loop-m
invariant-loop-m l = (k : ℕ) → k < l.m → get_or l.entries k no_entry ≡ entry_at (plan_of l.plan) k
