-- `refusal::of_request` meets its contract: the place that a search found fits. Assumes nothing.
use Rattle.std.proofs.Common.{arith, mul-le-mul, pos}
use Rattle.scheme.specs.Refusals.{bad_scan, bad_guess, bad_station}
use Rattle.request.specs.Tables.{station_of, no_row, plan_in, stations_in}
use Rattle.refusal.proofs.Places.{place_inside, place_in_list}
use Rattle.refusal.proofs.of_request.Goals as goal

pub overflow_cast-result : goal.overflow_cast-result
overflow_cast-result c =
    let t = c.args.request.now.terms in
    record { fits = omega (arith, place_inside t.scans (bad_scan (plan_in t)) c.in-Some.m c.in-Some.ensures, c.requires.scans_few) }

pub overflow_cast-result-in-Some-first_bad_guess : goal.overflow_cast-result-in-Some-first_bad_guess
overflow_cast-result-in-Some-first_bad_guess c =
    let inside = place_in_list bad_guess (pos 0) c.args.request.now.guess.now c.in-Some-first_bad_guess.k c.in-Some-first_bad_guess.ensures in
    let s = c.requires.shape in
    record { fits = omega (arith, inside, s.whole, mul-le-mul s.few_columns s.few_rows) }

pub overflow_cast-result-in-Some-first_bad_station : goal.overflow_cast-result-in-Some-first_bad_station
overflow_cast-result-in-Some-first_bad_station c =
    let rows = stations_in c.args.request.now.stations.now in
    let inside = place_in_list bad_station (station_of no_row) rows c.in-Some-first_bad_station.k c.in-Some-first_bad_station.ensures in
    record { fits = omega (arith, inside, c.requires.few_stations) }
