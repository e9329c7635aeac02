use Rattle.std.proofs.Common.{ℕ, ◌+◌, ◌≡◌, List, length}
use Rattle.scheme.specs.Buddies.{both}
use Rattle.scan_buddies.specs.Voices.{from_cells}
use Rattle.scan_buddies.specs.Asked.{heard_of, SurvivorsIn, cell_in, voice_in}
use Rattle.scan_buddies.proofs.Around.with_three.Given as goal

abbrev pub invariant-loop-i : goal.invariant-loop-i
invariant-loop-i l =
    (st : List ℕ) → SurvivorsIn l.self st
    → heard_of l.s ≡ both (heard_of l.initial.s) (from_cells (cell_in l.self st) (length l.self.stations.now) l.first (l.first + l.i) (voice_in l.self l.k))
