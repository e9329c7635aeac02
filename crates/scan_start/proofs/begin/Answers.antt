-- `scan_start::begin` meets its contract: the first guess, no support and the first verdicts are the run's start. Assumes nothing.
use Rattle.std.proofs.Common.{arith, rules, refl, ◌≡◌, ◌∙◌, length, replicate}
use Rattle.lists.specs.Tab.{length-tab}
use Rattle.scheme.proofs.Accepted.{same_shape}
use Rattle.request.specs.Tables.{station_in}
use Rattle.scan_start.specs.Start.{begun}
use Rattle.scan_start.proofs.begin.Goals as goal

pub first_verdicts-requires : goal.first_verdicts-requires
first_verdicts-requires c =
    let stations = c.args.request.now.stations.now in
    let rows = length-tab (length stations) (station_in stations) in
    (same_shape c.requires.0.shape _ refl, omega (arith, rows, c.requires.0.few_stations), c.requires.1.verdict_long ∙ rows)

pub returns : goal.returns
returns c =
    let r = c.args.request.now in
    let none : c.fill.new.self ≡ replicate (length c.args.support.now) 0 = search rules in
    begun r.terms r.guess.now r.stations.now c.requires.0 _ c.first_verdicts.ensures c.copy.ensures c.requires.1.support_long none
