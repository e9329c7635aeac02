-- `refusal_checks::first_bad_guess` meets its contract. The invariant of either loop: the points passed are good. Assumes nothing.
use borrow.Author.Tests.{tests}
use Rattle.std.proofs.Common.{rules, arith, ◌≡◌, ◌+◌, ◌*◌}
use Rattle.lists.specs.First.{good_more}
use Rattle.scheme.specs.Refusals.{bad_guess}
use Rattle.refusal_checks.specs.Found.{guess_bad, bad_value_at, no_bad_value, in_grid}
use Rattle.refusal_checks.proofs.first_bad_guess.Goals as goal

pub loop-j-init : goal.loop-j-init
loop-j-init c = λ k h. absurd (omega arith)

pub loop-i-preserved : goal.loop-i-preserved
unfolding bad_guess
loop-i-preserved c =
    let point = c.loop-j.j * c.args.nx + c.loop-i.i in
    good_more point (c.loop-j.j * c.args.nx + (c.loop-i.i + 1)) (guess_bad c.args.first_guess.now) (omega arith) c.loop-i.invariant (search (rules, tests))

pub returns-then-not-is_value : goal.returns-then-not-is_value
unfolding bad_guess
returns-then-not-is_value c =
    let z = c.args.first_guess.now in
    let point = c.loop-j.j * c.args.nx + c.loop-i.i in
    bad_value_at z point (record { inside = in_grid c.args.nx c.args.ny _ c.loop-j.j c.loop-i.i c.requires (omega arith) (omega arith); here = search (rules, tests); before = c.loop-i.invariant })

pub returns-after-loop-j : goal.returns-after-loop-j
returns-after-loop-j c = no_bad_value c.args.first_guess.now (λ k h. c.loop-j.invariant k (let e : c.loop-j.j ≡ c.args.ny = omega arith in rw e (omega (arith, c.requires.whole))))
