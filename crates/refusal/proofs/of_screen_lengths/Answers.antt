-- `refusal::of_screen_lengths` meets its contract: the place of a bad window fits, and points are counted only where all windows are on the grid. Assumes nothing.
use Rattle.std.proofs.Common.{arith, length}
use Rattle.lists.specs.Tab.{length-tab}
use Rattle.scheme.specs.Refusals.{bad_window}
use Rattle.request.specs.Tables.{window_in, no_ends, window_no, windows_in}
use Rattle.refusal.specs.Lengths.{on_screen}
use Rattle.refusal.proofs.Places.{place_in_list}
use Rattle.refusal.proofs.of_screen_lengths.Goals as goal

pub overflow_cast-result : goal.overflow_cast-result
overflow_cast-result c =
    let ws = c.args.windows.now in
    let inside = place_in_list (bad_window c.args.l.nx c.args.l.ny) (window_in no_ends) (windows_in ws) c.in-Some.k c.in-Some.ensures in
    record { fits = omega (arith, inside, length-tab (length ws) (window_no ws), c.requires.1) }

pub points_of_all-requires : goal.points_of_all-requires
points_of_all-requires c = on_screen c.requires.0 c.args.windows.now c.requires.1 c.in_default.ensures
