use Rattle.std.proofs.Common.{◌+◌, ◌*◌}
use Rattle.lists.specs.First.{Good}
use Rattle.refusal_checks.specs.Found.{guess_bad}
use Rattle.refusal_checks.proofs.first_bad_guess.Given as goal

abbrev pub invariant-loop-i : goal.invariant-loop-i
invariant-loop-i l = Good (l.j * l.nx + l.i) (guess_bad l.first_guess)

abbrev pub invariant-loop-j : goal.invariant-loop-j
invariant-loop-j l = Good (l.j * l.nx) (guess_bad l.first_guess)
