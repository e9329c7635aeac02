-- DEMAND 3: windows agree with the whole. The window theorem (Locality), of the scheme of documents 01 and 02 (Cressman), for every accepted
-- request and every window on its grid.
use Rattle.std.specs.Prelude.{ℕ, ◌+◌, ◌-◌, ◌*◌, ◌≤◌, ◌<◌, ◌≡◌, true, length, get_or, pos}
use Rattle.scheme.specs.Units.{Station, Request}
use Rattle.scheme.specs.Refusals.{Window}
use Rattle.scheme.specs.Scan.{analysis}
use Rattle.scheme.specs.Reach.{cut_of, on_window, counted, cut}
use Rattle.scheme.specs.Calls.{Accepts}
use Rattle.scheme.specs.Cut.{row_in_cut}

-- a point of the window
pub record OfWindow (w : Window) (i j : ℕ) : Type 0 where
  pub left : w.columns.first ≤ i
  pub right : i ≤ w.columns.last
  pub top : w.rows.first ≤ j
  pub bottom : j ≤ w.rows.last

-- where it stands in the lists of the cut's analysis
abbrev pub place_in_cut : Request → Window → (i j : ℕ) → ℕ
place_in_cut q w i j = (j - (cut_of q w).rows.first) * (cut q w).nx + (i - (cut_of q w).columns.first)

pub record Agrees (q : Request) (w : Window) : Type 0 where
  -- the cut is itself an accepted request, with two columns and rows at least
  pub accepts : Accepts (cut q w)
  pub two_columns : 2 ≤ (cut q w).nx
  pub two_rows : 2 ≤ (cut q w).ny
  -- each point of the window stands in the two lists of the cut's analysis, and has there the whole grid's value and support
  pub inside : (i j : ℕ) → OfWindow w i j
      → (place_in_cut q w i j < length (analysis (cut q w)).grid) × (place_in_cut q w i j < length (analysis (cut q w)).support)
  pub values : (i j : ℕ) → OfWindow w i j → get_or (analysis (cut q w)).grid (place_in_cut q w i j) (pos 0) ≡ get_or (analysis q).grid (j * q.nx + i) (pos 0)
  pub supports : (i j : ℕ) → OfWindow w i j → get_or (analysis (cut q w)).support (place_in_cut q w i j) 0 ≡ get_or (analysis q).support (j * q.nx + i) 0
  -- each station whose place is on the window, posts included, is kept; row k of the request is row `row_in_cut` of the cut, and has there the
  -- same verdict
  pub keeps : (s : Station) → on_window q.nx q.ny w s ≡ true → on_window q.nx q.ny (cut_of q w) s ≡ true
  pub rows : (k : ℕ) (o : Station) → k < length q.stations → on_window q.nx q.ny (cut_of q w) (get_or q.stations k o) ≡ true
      → (row_in_cut q w k < length (cut q w).stations)
      × (get_or (cut q w).stations (row_in_cut q w k) (counted (cut_of q w) o) ≡ counted (cut_of q w) (get_or q.stations k o))
  pub verdicts : (k : ℕ) (o : Station) → k < length q.stations → on_window q.nx q.ny w (get_or q.stations k o) ≡ true
      → (row_in_cut q w k < length (analysis (cut q w)).verdict) × (get_or (analysis (cut q w)).verdict (row_in_cut q w k) 0 ≡ get_or (analysis q).verdict k 0)
