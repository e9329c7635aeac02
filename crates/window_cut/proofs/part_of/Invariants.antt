-- The loop's invariant of `window_cut::part_of`: the rows passed are copied.
use Rattle.window_cut.specs.Part.{Copied}
use Rattle.window_cut.proofs.part_of.Given as goal

abbrev pub invariant-loop-j : goal.invariant-loop-j
invariant-loop-j g l = Copied l.across l.part l.from l.j l.to
