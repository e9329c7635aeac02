-- `window_tile::tiles_of` meets its contract. The loop's invariant: the windows passed are written, one after the other. Assumes nothing.
use Rattle.std.proofs.Common.{ℕ, ◌+◌, ◌-◌, ◌*◌, ◌≤◌, ◌≡◌, arith, ◌∙◌}
use Rattle.scheme.specs.Refusals.{most_windows, points_of}
use Rattle.scheme.specs.Most.{most_points}
use Rattle.request.specs.Tables.{window_no}
use Rattle.window_tile.specs.Turn.{turned_none, small, in_grid, turned_more, turned_all}
use Rattle.window_tile.proofs.tiles_of.Goals as goal
use Rattle.window_tile.proofs.tiles_of.Goals.{After-points}

-- in a turn: the window's points, and the places that they end at
module _ (c : After-points) where
  abbrev long : ℕ
  long = c.loop-w.at + c.points.result - c.loop-w.at

  points : long ≡ points_of (window_no c.args.windows.now c.loop-w.w-index)
  points = let e : long ≡ c.points.result = omega arith in e ∙ c.points.ensures

  few : c.loop-w.at + long ≤ most_windows * most_points
  few = small _ _ c.args.windows.now c.requires.3 c.loop-w.invariant c.loop-w-test.true points c.requires.0 c.requires.2

pub loop-w-init : goal.loop-w-init
loop-w-init c = turned_none _ _ _ _ _

pub overflow_add-end : goal.overflow_add-end
overflow_add-end c = record { fits = omega (arith, few (goal.at.overflow_add-end c).After-points) }

pub offset_bounds-grid-at : goal.offset_bounds-grid-at
offset_bounds-grid-at c = record { fits = omega (arith, few (goal.at.offset_bounds-grid-at c).After-points) }

pub slice_bounds-tile_of-end : goal.slice_bounds-tile_of-end
slice_bounds-tile_of-end c =
    let b = (goal.at.slice_bounds-tile_of-end c).After-points in
    let e : c.loop-w.at + c.points.result ≡ c.loop-w.at + long b = omega arith in
    rw e (in_grid _ _ c.args.windows.now c.requires.3 c.loop-w.invariant c.loop-w-test.true (points b))

pub loop-w-preserved : goal.loop-w-preserved
loop-w-preserved c =
    let b = (goal.at.loop-w-preserved c).After-points in
    turned_more _ _ c.args.windows.now c.requires.3 c.loop-w.invariant c.loop-w-test.true (points b) (omega arith) c.tile_of.ensures

pub returns : goal.returns
returns c = turned_all _ _ c.args.windows.now c.requires.3 c.loop-w.invariant (omega arith)
