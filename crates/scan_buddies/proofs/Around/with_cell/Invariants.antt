use Rattle.std.proofs.Common.{ℕ, List}
use Rattle.scan_buddies.specs.Walks.{Walking}
use Rattle.scan_buddies.specs.Asked.{heard_of, SurvivorsIn}
use Rattle.scan_buddies.proofs.Around.with_cell.Given as goal

abbrev pub invariant-loop-t : goal.invariant-loop-t
invariant-loop-t l =
    (st : List ℕ) → SurvivorsIn l.self st → Walking l.self.radius l.self.stations.now l.self.d.now l.k l.cell st (heard_of l.initial.s) l.t (heard_of l.s)

abbrev pub decreases-loop-t : goal.decreases-loop-t
decreases-loop-t l = l.t
