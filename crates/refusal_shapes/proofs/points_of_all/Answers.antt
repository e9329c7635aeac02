-- `refusal_shapes::points_of_all` meets its contract. The loop's invariant: the sum is that of the windows passed. Assumes nothing.
use Rattle.std.proofs.Common.{arith, ◌+◌, ◌≡◌, length, refl, sym, ap, ap₂, ◌∙◌}
use Rattle.lists.specs.Sums.{up_to, up_to_next}
use Rattle.lists.specs.Turns.{sum_to, sum_tab, sum_most}
use Rattle.scheme.specs.Refusals.{points_of}
use Rattle.scheme.specs.Most.{most_points}
use Rattle.scheme.proofs.Accepted.{few_points}
use Rattle.request.specs.Tables.{window_no}
use Rattle.refusal_shapes.proofs.points_of_all.Goals as goal

pub loop-w-init : goal.loop-w-init
unfolding up_to
loop-w-init c = refl

pub overflow_add-points : goal.overflow_add-points
overflow_add-points c =
    let on = c.requires.on in
    let here = few_points (on c.loop-w.w-index c.loop-w-test.true) (omega arith) (omega arith) in
    let before = sum_most most_points c.loop-w.w-index (λ m. points_of (window_no c.args.windows.now m)) (λ m h. few_points (on m (omega arith)) (omega arith) (omega arith)) in
    record { fits = omega (arith, c.points-points.ensures, c.loop-w.invariant, here, before, c.requires.few) }

pub loop-w-preserved : goal.loop-w-preserved
loop-w-preserved c =
    ap₂ ◌+◌ c.loop-w.invariant c.points-points.ensures ∙ sym (up_to_next 0 ◌+◌ c.loop-w.w-index (λ m. points_of (window_no c.args.windows.now m)))

pub returns : goal.returns
returns c =
    let ws = c.args.windows.now in
    let e : c.loop-w.w-index ≡ length ws = omega arith in
    c.loop-w.invariant ∙ ap (λ n. sum_to n (λ m. points_of (window_no ws m))) e ∙ sym (sum_tab points_of (length ws) (window_no ws))
