-- `window::work` meets its contract: the window widened, its first guess and its stations are the cut's, and the window on the cut is the
-- window on the grid. Assumes nothing.
use Rattle.std.proofs.Common.{ℕ, ◌*◌, ◌≤◌, ◌≡◌, List, ◌++◌, ℤ, pos, length, take, drop, arith, sym, ap, ◌∙◌, length-take-le}
use Rattle.scheme.specs.Units.{most_side, stored}
use Rattle.scheme.specs.Refusals.{Window, points_along}
use Rattle.scheme.specs.Reach.{cut_of}
use Rattle.scheme.specs.Most.{most_points}
use Rattle.scheme.specs.Accepted.{OnGrid}
use Rattle.scheme.proofs.Accepted.{few_points}
use Rattle.scheme.proofs.Stored.{length-stored}
use Rattle.request.specs.Tables.{request_of, window_in}
use Rattle.window_cut.specs.declared.Part.{Part}
use Rattle.window_cut.specs.Part.{part_at, part_of}
use Rattle.window_tile.specs.Query.{prefix_back, prefix_in}
use Rattle.window_tile.specs.Turn.{on_alone, fits_alone, turn_alone}
use Rattle.window.specs.Cut.{Along, across, down, small, guess_part, keep_ready, few_rows, cut_accepted, cut_answers}
use Rattle.window.proofs.work.Goals as goal
use Rattle.window.proofs.work.Goals.{After-widened-c}

-- with the cut
module _ (c : After-widened-c) where
  -- the memory whose prefix is lent
  abbrev part₀ : List ℤ
  part₀ = c.args.part.now

  abbrev here : Window
  here = window_in c.widened-c.result

  abbrev points : ℕ
  points = points_along here.columns * points_along here.rows

  here-is : here ≡ cut_of (request_of c.args.request.now) (window_in c.args.w)
  here-is = rw c.reach-reach.ensures.1 at c.widened-c.ensures

  x : Along c.args.request.now.terms.nx (window_in c.args.w).columns here.columns
  x = across c.requires.0 c.requires.1 here-is

  y : Along c.args.request.now.terms.ny (window_in c.args.w).rows here.rows
  y = down c.requires.0 c.requires.1 here-is

  on : OnGrid most_side most_side here
  on = small c.requires.0 c.requires.1 here-is

  few : points ≤ most_points
  few = few_points on (omega arith) (omega arith)

  long₀ : length (take points part₀) ≡ points
  long₀ = length-take-le points part₀ (omega (arith, few, c.requires.2))

  -- with its first guess, in the first m places of that memory
  module _ {m : ℕ} (e : m ≡ points) {part : List ℤ} {p : Part} (at : p ≡ part_at here)
      (copied : (past : ℤ) → part ≡ stored p.wide p.high (part_of past c.args.request.now.terms.nx p c.args.request.now.guess.now)) where
    guess_is : part ≡ stored (points_along here.columns) (points_along here.rows) (part_of (pos 0) c.args.request.now.terms.nx (part_at here) c.args.request.now.guess.now)
    guess_is = rw at at copied (pos 0)

    guess_long : length part ≡ m
    guess_long = ap length guess_is ∙ length-stored (points_along here.columns) (points_along here.rows) _ ∙ sym e

    -- as it is lent on
    back : take m (part ++ drop m part₀) ≡ part
    back = prefix_back m part part₀ guess_long

    inside : m ≤ length (part ++ drop m part₀)
    inside = prefix_in m part part₀ guess_long

pub points-points-requires : goal.points-points-requires
points-points-requires c = on (goal.at.points-points-requires c).After-widened-c

pub slice_bounds-part_of-end : goal.slice_bounds-part_of-end
slice_bounds-part_of-end c = omega (arith, few (goal.at.slice_bounds-part_of-end c).After-widened-c, c.points-points.ensures, c.requires.2)

pub slice_bounds-part_of-end-2 : goal.slice_bounds-part_of-end-2
slice_bounds-part_of-end-2 c = rw c.points-points.ensures (sym (long₀ (goal.at.slice_bounds-part_of-end-2 c).After-widened-c))

pub at-requires : goal.at-requires
at-requires c = on (goal.at.at-requires c).After-widened-c

pub part_of-requires : goal.part_of-requires
part_of-requires c =
    let k = (goal.at.part_of-requires c).After-widened-c in
    rw (c.points-points.ensures, c.at.ensures) (guess_part c.requires.0 c.requires.1 (here-is k) _ (long₀ k))

pub keep_stations-stations-requires : goal.keep_stations-stations-requires
keep_stations-stations-requires c =
    let k = (goal.at.keep_stations-stations-requires c).After-widened-c in
    let r = c.args.request.now in
    (keep_ready r.terms r.guess.now r.stations.now c.requires.0 c.requires.1 (here-is k), few_rows r.terms r.guess.now r.stations.now c.requires.0 c.requires.1 (here-is k))

pub cut_terms-requires : goal.cut_terms-requires
cut_terms-requires c = on (goal.at.cut_terms-requires c).After-widened-c

pub slice_bounds-cut-end : goal.slice_bounds-cut-end
slice_bounds-cut-end c =
    let k = (goal.at.slice_bounds-cut-end c).After-widened-c in
    inside k c.points-points.ensures c.at.ensures c.part_of.ensures

pub slice_bounds-cut-end-2 : goal.slice_bounds-cut-end-2
slice_bounds-cut-end-2 c =
    let k = (goal.at.slice_bounds-cut-end-2 c).After-widened-c in
    sym (ap length (back k c.points-points.ensures c.at.ensures c.part_of.ensures) ∙ guess_long k c.points-points.ensures c.at.ensures c.part_of.ensures)

pub slice_bounds-kept-end : goal.slice_bounds-kept-end
slice_bounds-kept-end c =
    let k = (goal.at.slice_bounds-kept-end c).After-widened-c in
    omega (arith, c.keep_stations-stations.ensures.few, few_rows _ _ _ c.requires.0 c.requires.1 (here-is k), c.keep_stations-stations.auto.kept)

pub slice_bounds-cut-end-3 : goal.slice_bounds-cut-end-3
slice_bounds-cut-end-3 c =
    let k = (goal.at.slice_bounds-cut-end-3 c).After-widened-c in
    sym (length-take-le _ _ (omega (arith, c.keep_stations-stations.ensures.few, few_rows _ _ _ c.requires.0 c.requires.1 (here-is k), c.keep_stations-stations.auto.kept)))

pub moved-requires : goal.moved-requires
moved-requires c =
    let k = (goal.at.moved-requires c).After-widened-c in
    ((x k).first, (x k).ordered, (y k).first, (y k).ordered)

pub whole_at_each-requires : goal.whole_at_each-requires
whole_at_each-requires c =
    let k = (goal.at.whole_at_each-requires c).After-widened-c in
    let r = c.args.request.now in
    let guessed = back k c.points-points.ensures c.at.ensures c.part_of.ensures ∙ guess_is k c.points-points.ensures c.at.ensures c.part_of.ensures in
    let (sound, on, fits) = cut_accepted r.terms r.guess.now r.stations.now c.requires.0 c.requires.1 (here-is k) _ guessed c.keep_stations-stations.ensures.kept c.cut_terms.ensures c.moved.ensures c.requires.3 in
    (sound, on_alone c.moved.result on, fits_alone c.moved.result fits)

pub returns : goal.returns
returns c =
    let k = (goal.at.returns c).After-widened-c in
    let r = c.args.request.now in
    let guessed = back k c.points-points.ensures c.at.ensures c.part_of.ensures ∙ guess_is k c.points-points.ensures c.at.ensures c.part_of.ensures in
    c.whole_at_each.ensures
    ∙ turn_alone c.moved.result _
    ∙ cut_answers r.terms r.guess.now r.stations.now c.requires.0 c.requires.1 (here-is k) _ guessed c.keep_stations-stations.ensures.kept c.cut_terms.ensures c.moved.ensures
