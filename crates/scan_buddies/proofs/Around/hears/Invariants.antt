use Rattle.std.proofs.Common.{ℕ, ◌*◌, ◌≡◌, List, length}
use Rattle.scheme.specs.Units.{most_stations}
use Rattle.scan_buddies.specs.Voices.{OfAtMost}
use Rattle.scan_buddies.specs.Nine.{rows_of}
use Rattle.scan_buddies.specs.Asked.{heard_of, SurvivorsIn, cell_in, voice_in}
use Rattle.scan_buddies.proofs.Around.hears.Given as goal

abbrev pub invariant-loop-i : goal.invariant-loop-i
invariant-loop-i l =
    OfAtMost (l.i * most_stations) (heard_of l.s)
    × ((st : List ℕ) → SurvivorsIn l.self st → heard_of l.s ≡ rows_of (cell_in l.self st) (length l.self.stations.now) l.first l.i (voice_in l.self l.k))
