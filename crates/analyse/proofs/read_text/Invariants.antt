-- The loop of `analyse::read_text`: what came lies inside the text.
use Rattle.std.proofs.Common.{length, ◌-◌, ◌≤◌}
use Rattle.analyse.proofs.read_text.Given as goal

abbrev pub invariant-loop-n : goal.invariant-loop-n
invariant-loop-n l = l.n ≤ length l.text

abbrev pub decreases-loop-n : goal.decreases-loop-n
decreases-loop-n l = length l.initial.text - l.n
