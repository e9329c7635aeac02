-- `refusal_checks::first_bad_station` meets its contract: a `position` over the rows is the definition's search of them. Assumes nothing.
use borrow.Author.Tests.{tests}
use Rattle.std.proofs.Common.{rules, sym, ◌∙◌}
use Rattle.std.specs.Prelude.{length}
use Rattle.std.proofs.lemmas.Iterator.{YieldsList-from_slice}
use Rattle.std.proofs.lemmas.Iterator.Search.{position_from_yields_List}
use Rattle.lists.specs.First.{in_places, in_table}
use Rattle.scheme.specs.Refusals.{bad_station}
use Rattle.request.specs.declared.Station.{Station}
use Rattle.request.specs.Tables.{station_of, station_in, no_row}
use Rattle.refusal_checks.specs.Found.{found_in}
use Rattle.refusal_checks.proofs.first_bad_station.Goals as goal

pub returns : goal.returns
returns c =
    let rows = c.args.stations.now in
    let bad = λ (row : Station). bad_station (station_of row) in
    found_in bad rows _
    (position_from_yields_List bad _ _ c.position.result c.position.ensures.ran (YieldsList-from_slice rows cc) (λ x b q k. search (rules, tests)))
    ∙ in_places bad no_row rows
    ∙ sym (in_table bad_station (length rows) (station_in rows))
