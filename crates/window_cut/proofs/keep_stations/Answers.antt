-- `window_cut::keep_stations` meets its contract: a turn keeps the cut of one station more. Assumes nothing.
use Rattle.std.proofs.Common.{arith, sym, ◌∙◌}
use Rattle.request.specs.Tables.{window_in}
use Rattle.window_cut.specs.Kept.{kept_none, kept_put, kept_passed, kept_all}
use Rattle.window_cut.proofs.keep_stations.Goals as goal
use Rattle.window_cut.proofs.keep_stations.Goals.{then-is_on_cut, else-is_on_cut}

pub loop-station-init : goal.loop-station-init
loop-station-init c = kept_none c.args.nx c.args.ny (window_in c.args.c) c.args.stations.now c.args.kept.now

pub loop-station-preserved : goal.loop-station-preserved
loop-station-preserved c =
    elim c.if-is_on_cut.branch [
      | then-is_on_cut w ↦ rw (w.kept-is, w.m-is) (kept_put _ _ _ _ c.loop-station.invariant _ (omega arith) (sym c.is_on_cut.ensures ∙ w.if-is_on_cut.true) w.counted-moved.ensures)
      | else-is_on_cut w ↦ rw (w.kept-is, w.m-is) (kept_passed _ _ _ _ c.loop-station.invariant (sym c.is_on_cut.ensures ∙ w.if-is_on_cut.false))
    ]

pub returns-clause-kept : goal.returns-clause-kept
returns-clause-kept c = kept_all _ _ _ _ c.loop-station.invariant (omega arith) (omega (arith, c.loop-station.invariant.no_more, c.requires.1))
