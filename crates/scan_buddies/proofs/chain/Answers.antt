-- `scan_buddies::chain` meets its contract. The loop's invariant: the stations passed are in their chains. Assumes nothing.
use Rattle.std.proofs.Common.{arith, refl, ◌+◌}
use Rattle.lists.specs.Chains.{chained_none, chained_more}
use Rattle.scan_buddies.specs.Cells.{kinds}
use Rattle.scan_buddies.proofs.chain.Goals as goal

pub loop-k-init : goal.loop-k-init
loop-k-init c = chained_none _ kinds c.args.heads.now c.args.next.now c.requires.4

pub loop-k-preserved : goal.loop-k-preserved
loop-k-preserved c =
    let l = c.loop-k in
    let cell = c.cell_for-cell in
    chained_more _ kinds l.k (l.k + 1) cell.result _ l.heads l.next refl cell.ensures.is cell.ensures.one (omega arith) (omega arith) refl l.invariant
