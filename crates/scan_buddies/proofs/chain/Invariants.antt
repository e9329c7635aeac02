use Rattle.lists.specs.Chains.{Chained}
use Rattle.scan_buddies.specs.Cells.{kinds, cell_at}
use Rattle.scan_buddies.proofs.chain.Given as goal

abbrev pub invariant-loop-k : goal.invariant-loop-k
invariant-loop-k l = Chained (cell_at l.radius l.stations l.verdict) kinds l.k l.heads l.next
