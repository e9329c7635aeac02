use Rattle.std.specs.Prelude.{◌≡◌}
use Rattle.lists.specs.Turns.{sum_to}
use Rattle.scheme.specs.Refusals.{points_of}
use Rattle.request.specs.Tables.{window_no}
use Rattle.refusal_shapes.proofs.points_of_all.Given as goal

abbrev pub invariant-loop-w : goal.invariant-loop-w
invariant-loop-w l = l.points ≡ sum_to l.w-index (λ m. points_of (window_no l.windows m))
