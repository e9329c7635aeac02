-- The slices hold a state of the run.
use Rattle.std.specs.Prelude.{ℕ, ◌≡◌, List, length, get_or, ℤ}
use Rattle.lists.specs.Tab.{tab}
use Rattle.scheme.specs.Units.{stored}
use Rattle.scheme.specs.Difference.{Row}
use Rattle.scheme.specs.Scan.{State, after}
use Rattle.scheme.specs.Accepted.{Sound}
use Rattle.request.specs.declared.Terms.{Terms}
use Rattle.request.specs.declared.Station.{Station}
use Rattle.request.specs.Tables.{station_in, request_in}
use Rattle.scan_station.specs.Judge.{AcceptedHeard}

-- station k, with its verdict
abbrev pub row_in : List Station → List ℕ → ℕ → Row
row_in stations st k = record { station = station_in stations k; verdict = get_or st k 0 }

-- the three slices hold a state of the run
pub record Holds (t : Terms) (stations : List Station) (s : State) (z : List ℤ) (sup st : List ℕ) : Type 0 where
  pub field : z ≡ stored t.nx t.ny s.field
  pub support : sup ≡ stored t.nx t.ny s.support
  pub rows : s.rows ≡ tab (length stations) (row_in stations st)
  pub long : length st ≡ length stations

-- the slices hold the state after m scans, in which an accepted station is near the grid
pub record Reached (t : Terms) (guess : List ℤ) (stations : List Station) (m : ℕ) (z : List ℤ) (sup st : List ℕ) : Type 0 where
  pub sound : Sound (request_in t guess stations)
  pub holds : Holds t stations (after (request_in t guess stations) m) z sup st
  pub heard : AcceptedHeard stations st
