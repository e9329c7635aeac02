-- The request as it is handed on: its terms, its first guess and its stations; and the windows of a screen.
use Rattle.std.specs.Prelude.{ℕ, ◌≤◌, ◌<◌, ◌≡◌, List, [], ◌++◌, length, map, get_or, ℤ, pos}
use Rattle.std.proofs.Common.{sym, ap, ◌∙◌}
use Rattle.std.proofs.Math.ListN.{get_or-map}
use Rattle.lists.specs.Tab.{tab}
use Rattle.lists.specs.Sums.{up_to_same}
use Rattle.lists.specs.Turns.{join_tab}
use Rattle.scheme.specs.Units.{Station, Buddies, Plan, Request}
use Rattle.scheme.specs.Refusals.{Window, most_windows, window_at}
use Rattle.scheme.specs.Reach.{Tile, in_turn}
use Rattle.scheme.specs.Accepted.{OnGrid}
use Rattle.request.specs.declared.Station.{Station as Row}
use Rattle.request.specs.declared.Entry.{Entry}
use Rattle.request.specs.declared.Buddies.{Buddies as Check}
use Rattle.request.specs.declared.Terms.{Terms}
use Rattle.request.specs.declared.Request.{Request as Held}
use Rattle.request.specs.declared.Window.{Window as Ends}

-- a station, as the definitions have it
abbrev pub station_of : Row → Station
station_of s =
    record {
      x = s.x;
      y = s.y;
      value = s.value;
      observed = s.observed;
      from = s.from;
      until = s.until;
      wind = record { u = s.wind.u; v = s.wind.v };
    }

-- where there is no row
abbrev pub no_row : Row
no_row = record { x = pos 0; y = pos 0; value = pos 0; observed = 0; from = 0; until = 0; wind = record { u = pos 0; v = pos 0 } }

-- station k, and all of them
abbrev pub station_in : List Row → ℕ → Station
station_in stations k = station_of (get_or stations k no_row)

abbrev pub stations_in : List Row → List Station
stations_in stations = tab (length stations) (station_in stations)

-- the scans of a plan, and of each its radius and its limit
abbrev pub no_entry : Entry
no_entry = record { radius = pos 0; limit = pos 0 }

abbrev pub radii_in : List Entry → List ℤ
radii_in = map (λ (e : Entry). e.radius)

abbrev pub limits_in : List Entry → List ℤ
limits_in = map (λ (e : Entry). e.limit)

pub radius_at : (es : List Entry) (m : ℕ) → get_or (radii_in es) m (pos 0) ≡ (get_or es m no_entry).radius
radius_at es m = get_or-map (λ (e : Entry). e.radius) es m no_entry

pub limit_at : (es : List Entry) (m : ℕ) → get_or (limits_in es) m (pos 0) ≡ (get_or es m no_entry).limit
limit_at es m = get_or-map (λ (e : Entry). e.limit) es m no_entry

abbrev pub buddies_of : Check → Buddies
buddies_of b = record { on = b.on; radius = b.radius; limit = b.limit }

abbrev pub plan_in : Terms → Plan
plan_in t =
    record {
      scans = t.scans;
      radius = radii_in t.entries;
      limit = limits_in t.entries;
      smooth = t.smooth;
      mode = t.mode;
      rule = t.rule;
      buddies = buddies_of t.buddies;
    }

-- the request
abbrev pub request_in : Terms → List ℤ → List Row → Request
request_in t guess stations =
    record {
      nx = t.nx;
      ny = t.ny;
      first_guess = guess;
      stations = stations_in stations;
      plan = plan_in t;
      T = t.time;
      A = t.age;
    }

abbrev pub request_of : Held → Request
request_of r = request_in r.terms r.guess.now r.stations.now

-- the window of four ends
abbrev pub window_in : Ends → Window
window_in w = window_at w.left w.right w.top w.bottom

-- window k of a screen, and all of them
abbrev pub no_ends : Ends
no_ends = record { left = 0; right = 0; top = 0; bottom = 0 }

abbrev pub window_no : List Ends → ℕ → Window
window_no ws k = window_in (get_or ws k no_ends)

abbrev pub windows_in : List Ends → List Window
windows_in ws = tab (length ws) (window_no ws)

-- which are no more than they may be, and on the grid
pub record OnScreen (nx ny : ℕ) (ws : List Ends) : Type 0 where
  pub few : length ws ≤ most_windows
  pub on : (k : ℕ) → k < length ws → OnGrid nx ny (window_no ws k)

-- windows that have the same have the same in turn
pub turn_same : (f g : Window → Tile) (ws : List Ends) → ((k : ℕ) → k < length ws → f (window_no ws k) ≡ g (window_no ws k))
    → in_turn f (windows_in ws) ≡ in_turn g (windows_in ws)
turn_same f g ws h =
    let a = join_tab (λ w. (f w).grid) (length ws) (window_no ws) ∙ up_to_same [] ◌++◌ (length ws) _ _ (λ k l. ap (λ (x : Tile). x.grid) (h k l)) ∙ sym (join_tab (λ w. (g w).grid) (length ws) (window_no ws)) in
    let b = join_tab (λ w. (f w).support) (length ws) (window_no ws) ∙ up_to_same [] ◌++◌ (length ws) _ _ (λ k l. ap (λ (x : Tile). x.support) (h k l)) ∙ sym (join_tab (λ w. (g w).support) (length ws) (window_no ws)) in
    cc
