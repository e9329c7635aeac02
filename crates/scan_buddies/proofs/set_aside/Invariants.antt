use Rattle.lists.specs.Filled.{Filled}
use Rattle.scan_buddies.specs.Aside.{aside_at}
use Rattle.scan_buddies.specs.Asked.{SurvivorsIn}
use Rattle.scan_buddies.proofs.set_aside.Given as goal

abbrev pub invariant-loop-k : goal.invariant-loop-k
invariant-loop-k l =
    Filled 0 (aside_at l.scan l.radius l.limit l.stations l.initial.verdict l.d) 0 l.k l.initial.verdict l.verdict
    × SurvivorsIn l.around l.initial.verdict
