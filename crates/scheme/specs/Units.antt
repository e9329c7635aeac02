-- "Units and sizes": the numbers of the paper, each under a name, the grid, the station list, the plan, and a request.
use Rattle.std.specs.Prelude.{ℕ, ◌+◌, ◌*◌, ◌/◌, ◌%◌, Bool, false, cond, ◌&&◌, List, leb, length, get_or, ℤ, pos, negsuc, nat_abs}
use Rattle.std.specs.Int.Signed.{le_z}
use Rattle.lists.specs.Tab.{tab}

-- low..high, both included
abbrev pub among : ℕ → ℕ → ℕ → Bool
among low high n = leb low n && leb n high

-- the same of a number that may be negative, and of one in -most..most
abbrev pub among_ℤ : ℤ → ℤ → ℤ → Bool
among_ℤ low high z = le_z low z && le_z z high

abbrev pub within : ℕ → ℤ → Bool
within most z = leb (nat_abs z) most

-- ---- Values are whole numbers of 1/64 unit

abbrev pub parts_of_unit : ℕ
parts_of_unit = 64

-- First guess and observations lie in -1,000,000..1,000,000
abbrev pub most_value : ℕ
most_value = 1000000

-- The lowest i32 marks a missing observation: it, and no other
abbrev pub missing_mark : ℤ
missing_mark = negsuc 2147483647

unfoldable pub is_missing : ℤ → Bool
is_missing v = among_ℤ missing_mark missing_mark v

-- ---- Grid: nx columns, ny rows, each 2..64

abbrev pub least_side : ℕ
least_side = 2

abbrev pub most_side : ℕ
most_side = 64

-- what stands at each point: column i, row j
abbrev pub Field : Type 0 → Type 0
Field A = ℕ → ℕ → A

-- stored row by row from row 0
unfoldable pub stored : {A : Type 0} → ℕ → ℕ → Field A → List A
stored nx ny f = tab (nx * ny) (λ k. f (k % nx) (k / nx))

unfoldable pub field_of : {A : Type 0} → A → ℕ → List A → Field A
field_of past nx l i j = get_or l (j * nx + i) past

-- Neighbouring points are 64 position units apart; point (i, j) stands at x = 64i, y = 64j
abbrev pub step : ℕ
step = 64

-- ---- Stations: 0..512 rows

abbrev pub most_stations : ℕ
most_stations = 512

-- Each station brings a wind (u, v), each -100..100 or both the missing mark (document 02, 5)
pub record Wind : Type 0 where
  pub u : ℤ
  pub v : ℤ

abbrev pub most_wind : ℕ
most_wind = 100

abbrev pub no_wind : Wind
no_wind = record { u = missing_mark; v = missing_mark }

unfoldable pub is_no_wind : Wind → Bool
is_no_wind w = is_missing w.u && is_missing w.v

pub record Station : Type 0 where
  pub x : ℤ
  pub y : ℤ
  pub value : ℤ
  pub observed : ℕ
  pub from : ℕ
  pub until : ℕ
  pub wind : Wind

-- x, y: -1,000,000..1,000,000
abbrev pub most_position : ℕ
most_position = 1000000

-- A station off the grid by at most 256 units on each axis takes part: a post (document 02, 1)
abbrev pub most_beyond : ℕ
most_beyond = 256

-- Until 4,294,967,295 means no end
abbrev pub no_end : ℕ
no_end = 4294967295

-- given as six equal columns, and its wind in two more (document 02, 5)
pub record Columns : Type 0 where
  pub x : List ℤ
  pub y : List ℤ
  pub value : List ℤ
  pub observed : List ℕ
  pub from : List ℕ
  pub until : List ℕ
  pub wind_u : List ℤ
  pub wind_v : List ℤ

-- row k of them, and all rows
unfoldable pub station_at : Columns → ℕ → Station
station_at c k =
    record {
      x = get_or c.x k (pos 0);
      y = get_or c.y k (pos 0);
      value = get_or c.value k (pos 0);
      observed = get_or c.observed k 0;
      from = get_or c.from k 0;
      until = get_or c.until k 0;
      wind = record { u = get_or c.wind_u k (pos 0); v = get_or c.wind_v k (pos 0) };
    }

unfoldable pub stations_of : Columns → List Station
stations_of c = tab (length c.x) (station_at c)

-- ---- Plan: 1..6 scans; each has a radius R in 1..1024 and a limit E in 0..2,000,000. One smoothing switch serves all scans

abbrev pub most_scans : ℕ
most_scans = 6

abbrev pub most_radius : ℕ
most_radius = 1024

abbrev pub most_limit : ℕ
most_limit = 2000000

-- The round weight is mode 0, and the wind-modified weight mode 1 (document 02, 5)
abbrev pub round_mode : ℕ
round_mode = 0

abbrev pub wind_mode : ℕ
wind_mode = 1

-- Rule 1 is document 01's, by the equations of 002, and rule 2 that of its listings, where a lone station stands apart (document 02, 6)
abbrev pub equation_rule : ℕ
equation_rule = 1

abbrev pub listing_rule : ℕ
listing_rule = 2

-- B is 1..512, L is 0..2,000,000, one pair for the plan; the buddy check may be off, and then neither is read (document 02, 7)
abbrev pub most_buddy_radius : ℕ
most_buddy_radius = 512

abbrev pub most_buddy_limit : ℕ
most_buddy_limit = 2000000

pub record Buddies : Type 0 where
  pub on : Bool
  pub radius : ℤ
  pub limit : ℤ

abbrev pub no_buddies : Buddies
no_buddies = record { on = false; radius = pos 0; limit = pos 0 }

pub record Plan : Type 0 where
  pub scans : ℕ
  pub radius : List ℤ
  pub limit : List ℤ
  pub smooth : Bool
  pub mode : ℕ
  pub rule : ℕ
  pub buddies : Buddies

-- R and E of scan m, counted from 0. In an accepted plan neither is negative
unfoldable pub R : Plan → ℕ → ℕ
R p m = nat_abs (get_or p.radius m (pos 0))

unfoldable pub E : Plan → ℕ → ℕ
E p m = nat_abs (get_or p.limit m (pos 0))

-- B and L. With the check off B is 0: no station is nearer than that to another, so that none is judged by others
unfoldable pub B : Plan → ℕ
B p = cond p.buddies.on (nat_abs p.buddies.radius) 0

unfoldable pub L : Plan → ℕ
L p = nat_abs p.buddies.limit

-- ---- What is asked: grid and first guess, stations, plan, analysis minute T, greatest age A

pub record Asking (Stations : Type 0) : Type 0 where
  pub nx : ℕ
  pub ny : ℕ
  pub first_guess : List ℤ
  pub stations : Stations
  pub plan : Plan
  pub T : ℕ
  pub A : ℕ

-- A request has its stations as a list, and a call is handed them as columns
abbrev pub Request : Type 0
Request = Asking (List Station)

abbrev pub Call : Type 0
Call = Asking Columns

-- what is asked, from its parts: as a text says them, or a call is handed them
abbrev pub asking : {S : Type 0} (nx ny : ℕ) (first_guess : List ℤ) → S → (scans : ℕ) (radius limit : List ℤ) → Bool → (mode rule : ℕ) → Buddies → (T A : ℕ) → Asking S
asking nx ny first_guess stations scans radius limit smooth mode rule buddies T A =
    let plan : Plan = record { scans = scans; radius = radius; limit = limit; smooth = smooth; mode = mode; rule = rule; buddies = buddies } in
    record { nx = nx; ny = ny; first_guess = first_guess; stations = stations; plan = plan; T = T; A = A }

-- the same, of other stations
abbrev pub with_stations : {S S' : Type 0} → Asking S → S' → Asking S'
with_stations a stations =
    record { nx = a.nx; ny = a.ny; first_guess = a.first_guess; stations = stations; plan = a.plan; T = a.T; A = a.A }

-- the request that a call asks
abbrev pub asked : Call → Request
asked c = with_stations c (stations_of c.stations)

unfoldable pub guess : Request → Field ℤ
guess q = field_of (pos 0) q.nx q.first_guess
