-- `window_tile::whole_at_each` meets its contract: the analysis fills prefixes of the local arrays, and the windows' parts are copied from them.
-- Assumes nothing.
use Rattle.std.proofs.Common.{ℕ, ◌*◌, ◌≤◌, ◌≡◌, List, ℤ, pos, length, take, replicate, arith, mul-le-mul, sym, ◌∙◌, length-take-le}
use lib.ListN.{length-replicate}
use Rattle.lists.specs.Tab.{length-tab}
use Rattle.scheme.specs.Units.{most_stations, Request}
use Rattle.scheme.specs.Scan.{analysis}
use Rattle.scheme.specs.Promises.{slices}
use Rattle.scheme.specs.Most.{most_points}
use Rattle.request.specs.Tables.{station_in, request_of, window_no, turn_same}
use Rattle.window_tile.specs.Query.{prefix_back, values_long, bits_long, whole_part}
use Rattle.window_tile.proofs.whole_at_each.Goals as goal
use Rattle.window_tile.proofs.whole_at_each.Goals.{Start}

-- the local arrays at first
abbrev values₀ : List ℤ
values₀ = replicate most_points (pos 0)

abbrev bits₀ : List ℕ
bits₀ = replicate most_points 0

abbrev verdict₀ : List ℕ
verdict₀ = replicate most_stations 0

-- the request, and the prefixes that its analysis is lent
module _ (s : Start) where
  abbrev q : Request
  q = request_of s.args.request.now

  abbrev points : ℕ
  points = q.nx * q.ny

  abbrev rows : ℕ
  rows = length s.args.request.now.stations.now

  few : points ≤ most_points
  few = mul-le-mul s.requires.0.shape.few_columns s.requires.0.shape.few_rows

  rows_long : length q.stations ≡ rows
  rows_long = length-tab rows (station_in s.args.request.now.stations.now)

  few_rows : rows ≤ most_stations
  few_rows = omega (arith, rows_long, s.requires.0.few_stations)

  lent-values : length (take points values₀) ≡ points
  lent-values = length-take-le points values₀ (omega (arith, few, length-replicate {A = ℤ} most_points (pos 0)))

  lent-bits : length (take points bits₀) ≡ points
  lent-bits = length-take-le points bits₀ (omega (arith, few, length-replicate {A = ℕ} most_points 0))

  lent-verdict : length (take rows verdict₀) ≡ rows
  lent-verdict = length-take-le rows verdict₀ (omega (arith, few_rows, length-replicate {A = ℕ} most_stations 0))

pub slice_bounds-verdict-end : goal.slice_bounds-verdict-end
slice_bounds-verdict-end c = few_rows (goal.at.slice_bounds-verdict-end c).Start

pub slice_bounds-run-end-3 : goal.slice_bounds-run-end-3
slice_bounds-run-end-3 c = sym (lent-verdict (goal.at.slice_bounds-run-end-3 c).Start)

pub run-requires : goal.run-requires
run-requires c =
    let s = (goal.at.run-requires c).Start in
    (c.requires.0, record { grid_long = lent-values s; support_long = lent-bits s; verdict_long = lent-verdict s ∙ sym (rows_long s) })

pub returns : goal.returns
returns c =
    let s = (goal.at.returns c).Start in
    let done : slices c.run.new.grid c.run.new.support c.run.new.verdict ≡ analysis (q s) = c.run.ensures in
    let long = values_long (q s) done in
    let long' = bits_long (q s) done in
    let e = rw (prefix_back (points s) c.run.new.grid values₀ long, prefix_back (points s) c.run.new.support bits₀ long') at c.tiles_of.ensures in
    e ∙ turn_same _ _ c.args.windows.now (λ m h. whole_part (q s) (window_no c.args.windows.now m) (c.requires.1.on m h) done)
