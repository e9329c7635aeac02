-- The loop's invariant of `window_cut::keep_stations`: the first m rows are the cut of the stations passed.
use Rattle.request.specs.Tables.{window_in}
use Rattle.window_cut.specs.Kept.{Kept}
use Rattle.window_cut.proofs.keep_stations.Given as goal

abbrev pub invariant-loop-station : goal.invariant-loop-station
invariant-loop-station l = Kept l.nx l.ny (window_in l.c) l.stations l.kept l.station-index l.m
