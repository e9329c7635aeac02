use Rattle.std.proofs.Common.{◌≡◌, ◌+◌, ◌*◌, ◌/◌, ◌≤◌}
use Rattle.lists.specs.Sums.{up_to}
use Rattle.scheme.specs.Units.{step, most_radius, most_buddy_radius}
use Rattle.scheme.specs.Reach.{steps}
use Rattle.request.specs.Tables.{plan_in}
use Rattle.window_spans.proofs.reach.Given as goal

abbrev pub invariant-loop-entry : goal.invariant-loop-entry
invariant-loop-entry l =
    (l.total ≤ ((most_radius + most_buddy_radius) / step + 1) * l.entry-index) × (l.total ≡ up_to 0 ◌+◌ l.entry-index (steps (plan_in l.t)))
