-- `refusal::of_window_lengths` meets its contract: the points of the window are counted only where it is on the grid. Assumes nothing.
use Rattle.std.proofs.Common.{sym, ◌∙◌}
use Rattle.scheme.proofs.Accepted.{shaped, on-grid, wider}
use Rattle.request.specs.Tables.{window_in}
use Rattle.refusal.proofs.of_window_lengths.Goals as goal

pub points-requires : goal.points-requires
points-requires c =
    wider (shaped _ _ _ (sym c.shape_bad.ensures ∙ c.if-shape_bad.false)) (on-grid _ _ (window_in c.args.w) (sym c.window_bad.ensures ∙ c.if-window_bad.false))
