-- `window_cut::part_of` meets its contract: a turn copies one row more, and after the last the part is whole. Assumes nothing.
use Rattle.std.proofs.Common.{arith}
use Rattle.window_cut.specs.Part.{copied_none, copied_next, copied_all, row_ready}
use Rattle.window_cut.proofs.part_of.Goals as goal

pub loop-j-init : goal.loop-j-init
loop-j-init g c = copied_none c.args.across c.args.part c.args.from.now c.args.to.now

pub loop-j-preserved : goal.loop-j-preserved
loop-j-preserved g c =
    let a = c.args in
    let (to, from) = row_ready a.across a.part a.from.now c.requires c.loop-j-test.true in
    copied_next a.across a.part a.from.now c.loop-j.j c.loop-j.to _ _ (omega arith) (omega arith) (omega (arith, to)) from c.copy.ensures c.loop-j.invariant

pub returns : goal.returns
returns g c =
    let a = c.args in
    copied_all a.across a.part a.from.now c.loop-j.j c.loop-j.to (omega arith) (omega (arith, c.requires.to_is)) c.loop-j.invariant
