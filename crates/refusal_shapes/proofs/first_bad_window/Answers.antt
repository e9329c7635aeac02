-- `refusal_shapes::first_bad_window` meets its contract: a `position` over the windows is the definition's search of them. Assumes nothing.
use borrow.Author.Tests.{tests}
use Rattle.std.proofs.Common.{rules, sym, ◌∙◌}
use Rattle.std.specs.Prelude.{length}
use Rattle.std.proofs.lemmas.Iterator.{YieldsList-from_slice}
use Rattle.std.proofs.lemmas.Iterator.Search.{position_from_yields_List}
use Rattle.lists.specs.First.{in_places, in_table}
use Rattle.scheme.specs.Refusals.{bad_window}
use Rattle.request.specs.declared.Window.{Window}
use Rattle.request.specs.Tables.{window_in, window_no, no_ends}
use Rattle.refusal_checks.specs.Found.{found_in}
use Rattle.refusal_shapes.proofs.first_bad_window.Goals as goal

pub returns : goal.returns
returns c =
    let ws = c.args.windows.now in
    let bad = λ (w : Window). bad_window c.args.nx c.args.ny (window_in w) in
    found_in bad ws _
    (position_from_yields_List bad _ _ c.position.result c.position.ensures.ran (YieldsList-from_slice ws cc) (λ x b q k. search (rules, tests)))
    ∙ in_places bad no_ends ws
    ∙ sym (in_table (bad_window c.args.nx c.args.ny) (length ws) (window_no ws))
