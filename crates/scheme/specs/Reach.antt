-- "Reach of a window": the reach, the cut, and the window's part of a field; and the windows of a screen, one after the other.
use Rattle.std.specs.Prelude.{ℕ, ◌+◌, ◌-◌, ◌*◌, ◌/◌, min, Bool, cond, ◌&&◌, List, [], ◌++◌, map, ℤ, pos, ◌-ℤ◌}
use Rattle.lists.specs.Sums.{total, up_to}
use Rattle.lists.specs.Keep.{keep}
use Rattle.scheme.specs.Units.{among, Field, stored, step, Station, Plan, R, B, Request, guess}
use Rattle.scheme.specs.Refusals.{Span, Window, points_along}
use Rattle.scheme.specs.Value.{place}
use Rattle.scheme.specs.Scan.{at_end}

-- For each scan count R/64 rounded up, plus 1 if smoothing is on. R + B stands for R (document 02, 7)
unfoldable pub steps : Plan → ℕ → ℕ
steps p m = (R p m + B p + (step - 1)) / step + cond p.smooth 1 0

-- the reach is the total, in grid steps
unfoldable pub reach : Plan → ℕ
reach p = up_to 0 ◌+◌ p.scans (steps p)

-- the window widened by the reach, cut at the grid's edge
unfoldable pub widened : (reach n : ℕ) → Span → Span
widened reach n s = record { first = s.first - reach; last = min (s.last + reach) (n - 1) }

abbrev pub cut_of : Request → Window → Window
cut_of q w = record { columns = widened (reach q.plan) q.nx w.columns; rows = widened (reach q.plan) q.ny w.rows }

-- The cut keeps its stations, those on its edge included. A station belongs to it if its nearest position on the whole grid does (document 02, 1)
unfoldable pub on_span : ℕ → Span → ℤ → Bool
on_span n c x = among (step * c.first) (step * c.last) (place n x)

abbrev pub on_window : (nx ny : ℕ) → Window → Station → Bool
on_window nx ny w s = on_span nx w.columns s.x && on_span ny w.rows s.y

-- with positions counted from its lower corner
unfoldable pub counted : Window → Station → Station
counted w s =
    let x = s.x -ℤ pos (step * w.columns.first) in
    let y = s.y -ℤ pos (step * w.rows.first) in
    record { x = x; y = y; value = s.value; observed = s.observed; from = s.from; until = s.until; wind = s.wind }

-- the window's points of a field, row by row, top row first
unfoldable pub window_of : {A : Type 0} → Window → Field A → List A
window_of w f = stored (points_along w.columns) (points_along w.rows) (λ i j. f (i + w.columns.first) (j + w.rows.first))

-- The cut, as a request. It treats its own edge as a grid's border. Its stations stay in order; the plan, T and A stay
unfoldable pub cut : Request → Window → Request
cut q w =
    let c = cut_of q w in
    record {
      nx = points_along c.columns;
      ny = points_along c.rows;
      first_guess = window_of c (guess q);
      stations = map (counted c) (keep (on_window q.nx q.ny c) q.stations);
      plan = q.plan;
      T = q.T;
      A = q.A;
    }

-- The window query's two results: the whole grid's values and supports at the window's points
pub record Tile : Type 0 where
  pub grid : List ℤ
  pub support : List ℕ

unfoldable pub whole_at : Request → Window → Tile
whole_at q w = record { grid = window_of w (at_end q).field; support = window_of w (at_end q).support }

-- Those of a screen: what each of its windows has, one after the other, in their order (document 02, 2)
abbrev pub in_turn : (Window → Tile) → List Window → Tile
in_turn has ws = record { grid = total [] ◌++◌ (λ w. (has w).grid) ws; support = total [] ◌++◌ (λ w. (has w).support) ws }

abbrev pub whole_at_each : Request → List Window → Tile
whole_at_each q ws = in_turn (whole_at q) ws
