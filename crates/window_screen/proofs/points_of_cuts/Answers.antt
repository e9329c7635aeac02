-- `window_screen::points_of_cuts` meets its contract. The loop's invariant: the sum is that of the windows passed. Assumes nothing.
use Rattle.std.proofs.Common.{ℕ, ◌+◌, ◌*◌, ◌≤◌, ◌<◌, ◌≡◌, length, arith, refl, sym, ap, ap₂, ◌∙◌}
use Rattle.lists.specs.Sums.{up_to, up_to_next}
use Rattle.lists.specs.Turns.{sum_to, sum_tab, sum_most}
use Rattle.scheme.specs.Units.{most_side}
use Rattle.scheme.specs.Refusals.{points_of}
use Rattle.scheme.specs.Most.{most_points}
use Rattle.scheme.specs.Accepted.{OnGrid}
use Rattle.scheme.proofs.Accepted.{wider, few_points}
use Rattle.request.specs.Tables.{window_no, windows_in}
use Rattle.window_screen.specs.Cuts.{cut_by, points_of_cuts, cut_on}
use Rattle.window_screen.proofs.points_of_cuts.Goals as goal
use Rattle.window_screen.proofs.points_of_cuts.Goals.{In-loop-w}

-- in a turn: the window, and its cut
module _ (c : In-loop-w) where
  abbrev k : ℕ
  k = c.loop-w.w-index

  -- the points of a cut
  abbrev cut_points : ℕ → ℕ
  cut_points m = points_of (cut_by c.reach-reach.result c.args.t.now.nx c.args.t.now.ny (window_no c.args.windows.now m))

  on : (m : ℕ) → m < length c.args.windows.now → OnGrid most_side most_side (cut_by c.reach-reach.result c.args.t.now.nx c.args.t.now.ny (window_no c.args.windows.now m))
  on m h = wider c.requires.0 (cut_on c.reach-reach.result (c.requires.2.on m h))

  few : (m : ℕ) → m < length c.args.windows.now → cut_points m ≤ most_points
  few m h = few_points (on m h) (omega arith) (omega arith)

  few-before : sum_to k cut_points ≤ k * most_points
  few-before = sum_most most_points k cut_points (λ m h. few m (omega (arith, c.loop-w-test.true)))

pub loop-w-init : goal.loop-w-init
unfolding up_to
loop-w-init c = refl

pub points-points-requires : goal.points-points-requires
points-points-requires c = rw c.widened-cut.ensures (on (goal.at.points-points-requires c).In-loop-w c.loop-w.w-index c.loop-w-test.true)

pub overflow_add-points : goal.overflow_add-points
overflow_add-points c =
    let t = (goal.at.overflow_add-points c).In-loop-w in
    let p = c.points-points.ensures ∙ ap points_of c.widened-cut.ensures in
    record { fits = omega (arith, p, c.loop-w.invariant, few t (k t) c.loop-w-test.true, few-before t, c.loop-w-test.true, c.requires.2.few) }

pub loop-w-preserved : goal.loop-w-preserved
loop-w-preserved c =
    let t = (goal.at.loop-w-preserved c).In-loop-w in
    let p = c.points-points.ensures ∙ ap points_of c.widened-cut.ensures in
    ap₂ ◌+◌ c.loop-w.invariant p ∙ sym (up_to_next 0 ◌+◌ (k t) (cut_points t))

pub returns : goal.returns
returns c =
    let t = c.args.t.now in
    let ws = c.args.windows.now in
    let far = c.reach-reach in
    let e : c.loop-w.w-index ≡ length ws = omega arith in
    c.loop-w.invariant ∙ ap (λ (n : ℕ). sum_to n (λ m. points_of (cut_by far.result t.nx t.ny (window_no ws m)))) e
    ∙ sym (sum_tab (λ w. points_of (cut_by far.result t.nx t.ny w)) (length ws) (window_no ws))
    ∙ ap (λ (r : ℕ). points_of_cuts r t.nx t.ny (windows_in ws)) far.ensures.1
