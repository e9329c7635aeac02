-- `refusal_checks::first_bad_scan` meets its contract: a `find` over the places of the entries is the definition's search of them. Assumes nothing.
use borrow.Author.Tests.{tests}
use Rattle.std.proofs.Common.{rules, ◌≡◌, true, false}
use Rattle.std.proofs.lemmas.Iterator.{first_from_Range}
use Rattle.scheme.specs.Refusals.{bad_scan}
use Rattle.request.specs.Tables.{plan_in}
use Rattle.refusal_checks.specs.Found.{found_first}
use Rattle.refusal_checks.proofs.first_bad_scan.Goals as goal

pub returns : goal.returns
returns c =
    let bad = bad_scan (plan_in c.args.t.now) in
    found_first _ bad _
    (first_from_Range _ _ _ _ (λ m. bad m ≡ true) (λ m. bad m ≡ false) c.find.ensures.ran (λ x q k. search (rules, tests)) (λ x q k. search (rules, tests)))
