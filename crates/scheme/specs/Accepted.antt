-- What an accepted request is: each test of the refusal table, turned into the fact that it leaves.
use Rattle.std.specs.Prelude.{ℕ, suc, ◌*◌, ◌≤◌, ◌<◌, ◌≡◌, true, false, List, [], ◌∷◌, length, get_or, pos, nat_abs}
use Rattle.lists.specs.First.{first, first_in}
use Rattle.scheme.specs.Units.{most_value, is_missing, most_stations, is_no_wind, Station, most_position, Columns, most_scans, most_radius, most_limit, most_buddy_radius, most_buddy_limit, wind_mode, equation_rule, listing_rule, Plan, R, E, B, L, Request}
use Rattle.scheme.specs.Streaks.{Fair}
use Rattle.scheme.specs.Refusals.{Refusal, refused_with, refused_at, Window, most_windows, Screen, points_of, points_of_all, rising, bad_scan, bad_buddies, bad_guess, bad_station}

pub record Shaped (nx ny len : ℕ) : Type 0 where
  pub two_columns : 2 ≤ nx
  pub few_columns : nx ≤ 64
  pub two_rows : 2 ≤ ny
  pub few_rows : ny ≤ 64
  pub whole : len ≡ nx * ny

pub record Equal (c : Columns) : Type 0 where
  pub y : length c.y ≡ length c.x
  pub value : length c.value ≡ length c.x
  pub observed : length c.observed ≡ length c.x
  pub from : length c.from ≡ length c.x
  pub until : length c.until ≡ length c.x
  pub wind_u : length c.wind_u ≡ length c.x
  pub wind_v : length c.wind_v ≡ length c.x
  pub few : length c.x ≤ most_stations

-- one of the two rules
abbrev pub Ruled : ℕ → Type 0
Ruled rule = (equation_rule ≤ rule) × (rule ≤ listing_rule)

pub record Scanned (p : Plan) (m : ℕ) : Type 0 where
  pub radius_is : get_or p.radius m (pos 0) ≡ pos (R p m)
  pub radius_some : 1 ≤ R p m
  pub radius_most : R p m ≤ most_radius
  pub not_rising : rising p m ≡ false
  pub limit_is : get_or p.limit m (pos 0) ≡ pos (E p m)
  pub limit_most : E p m ≤ most_limit

-- the buddy check, if it is on: B and L in range
pub record Checked (p : Plan) : Type 0 where
  pub radius_is : p.buddies.radius ≡ pos (B p)
  pub radius_some : 1 ≤ B p
  pub radius_most : B p ≤ most_buddy_radius
  pub limit_is : p.buddies.limit ≡ pos (L p)
  pub limit_most : L p ≤ most_buddy_limit

pub record Stationed (s : Station) : Type 0 where
  pub value : is_missing s.value ≡ false → nat_abs s.value ≤ most_value
  pub x : nat_abs s.x ≤ most_position
  pub y : nat_abs s.y ≤ most_position
  pub served : s.from < s.until
  pub wind : is_no_wind s.wind ≡ false → Fair s.wind

pub record Planned (p : Plan) : Type 0 where
  pub scans_some : 1 ≤ p.scans
  pub scans_few : p.scans ≤ most_scans
  pub radii : p.scans ≤ length p.radius
  pub limits : p.scans ≤ length p.limit
  pub known : p.mode ≤ wind_mode
  pub ruled : Ruled p.rule
  pub scan : (m : ℕ) → m < p.scans → Scanned p m
  pub falls : (m : ℕ) → suc m < p.scans → R p (suc m) ≤ R p m
  pub checks : p.buddies.on ≡ true → Checked p

-- where there is no row
abbrev pub no_station : Station
no_station = record { x = pos 0; y = pos 0; value = pos 0; observed = 0; from = 0; until = 0; wind = record { u = pos 0; v = pos 0 } }

pub record Sound (q : Request) : Type 0 where
  pub shape : Shaped q.nx q.ny (length q.first_guess)
  pub few_stations : length q.stations ≤ most_stations
  pub plan : Planned q.plan
  pub first_guess : (k : ℕ) → k < length q.first_guess → nat_abs (get_or q.first_guess k (pos 0)) ≤ most_value
  pub stations : (k : ℕ) → k < length q.stations → Stationed (get_or q.stations k no_station)

-- the rows from 6 on, which search the request
abbrev pub from_six : Request → List Refusal
from_six q =
    refused_at 6 (first q.plan.scans (bad_scan q.plan))
    ∷ refused_with 6 most_scans (bad_buddies q.plan)
    ∷ refused_at 7 (first_in bad_guess q.first_guess)
    ∷ refused_at 8 (first_in bad_station q.stations)
    ∷ []

pub record Formed (q : Request) : Type 0 where
  pub shape : Shaped q.nx q.ny (length q.first_guess)
  pub few_stations : length q.stations ≤ most_stations
  pub scans_some : 1 ≤ q.plan.scans
  pub scans_few : q.plan.scans ≤ most_scans
  pub radii : q.plan.scans ≤ length q.plan.radius
  pub limits : q.plan.scans ≤ length q.plan.limit
  pub known : q.plan.mode ≤ wind_mode
  pub ruled : Ruled q.plan.rule

-- results as long as the grid, and a verdict for each station
pub record Fits (q : Request) (grid support verdict : ℕ) : Type 0 where
  pub grid_long : grid ≡ q.nx * q.ny
  pub support_long : support ≡ q.nx * q.ny
  pub verdict_long : verdict ≡ length q.stations

-- results as long as the window
pub record FitsWindow (w : Window) (grid support : ℕ) : Type 0 where
  pub grid_long : grid ≡ points_of w
  pub support_long : support ≡ points_of w

-- as long as all windows together
pub record FitsScreen (ws : List Window) (grid support : ℕ) : Type 0 where
  pub grid_long : grid ≡ points_of_all ws
  pub support_long : support ≡ points_of_all ws

pub record OnGrid (nx ny : ℕ) (w : Window) : Type 0 where
  pub across : w.columns.first ≤ w.columns.last
  pub down : w.rows.first ≤ w.rows.last
  pub right : w.columns.last < nx
  pub bottom : w.rows.last < ny

-- a screen of equal columns, at most sixteen windows
pub record EqualScreen (s : Screen) : Type 0 where
  pub right : length s.right ≡ length s.left
  pub top : length s.top ≡ length s.left
  pub bottom : length s.bottom ≡ length s.left
  pub few : length s.left ≤ most_windows
