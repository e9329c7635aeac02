use Rattle.std.proofs.Common.{◌≡◌}
use Rattle.lists.specs.Turns.{sum_to}
use Rattle.scheme.specs.Refusals.{points_of}
use Rattle.request.specs.Tables.{window_no}
use Rattle.window_screen.specs.Cuts.{cut_by}
use Rattle.window_screen.proofs.points_of_cuts.Given as goal

abbrev pub invariant-loop-w : goal.invariant-loop-w
invariant-loop-w l = l.points ≡ sum_to l.w-index (λ m. points_of (cut_by l.reach l.t.nx l.t.ny (window_no l.windows m)))
