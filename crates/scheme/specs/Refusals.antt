-- "Refusal numbers, tested in this order": a test for each row of the table, and for each call the first that refuses, with its place.
-- Rows 1 to 4 test what a call is handed, rows 5 to 8 the request that it asks. Rows 9 and 10, the program's, are in Text.
use Rattle.std.specs.Prelude.{ℕ, zero, suc, ◌+◌, ◌-◌, ◌*◌, Bool, false, not, cond, ◌&&◌, ◌||◌, List, [], ◌∷◌, leb, ltb, eqb, length, get_or, ℤ, pos}
use Rattle.std.specs.Int.Signed.{lt_z}
use Rattle.lists.specs.Tab.{tab}
use Rattle.lists.specs.Sums.{total}
use Rattle.lists.specs.First.{Found, nowhere, at, first, first_in}
use Rattle.scheme.specs.Units.{among, among_ℤ, within, most_value, is_missing, least_side, most_side, most_stations, Wind, most_wind, is_no_wind, Station, most_position, Columns, most_scans, most_radius, most_limit, most_buddy_radius, most_buddy_limit, wind_mode, equation_rule, listing_rule, Plan, Request, Call, asked}

pub data Refusal : Type 0 where
  accepted : Refusal
  refused : (number place : ℕ) → Refusal

-- Other results have refusal 0 and place 0
abbrev pub number_of : Refusal → ℕ
number_of accepted = 0
number_of (refused number place) = number

abbrev pub place_of : Refusal → ℕ
place_of accepted = 0
place_of (refused number place) = place

-- Analysis, window query and screen return refusal·65,536 + place as one u32
abbrev pub as_one : Refusal → ℕ
as_one r = number_of r * 65536 + place_of r

-- the result of a call that was not refused, and what stands in its place if it was
abbrev pub unless_refused : {A : Type 0} → Refusal → A → A → A
unless_refused accepted result other = result
unless_refused (refused number place) result other = other

-- tested in this order: the first that refuses
unfoldable pub in_order : List Refusal → Refusal
in_order [] = accepted
in_order (accepted ∷ rest) = in_order rest
in_order (refused number place ∷ rest) = refused number place

-- a test with one place, which is 0 where nothing else is said
unfoldable pub refused_with : (number place : ℕ) → Bool → Refusal
refused_with number place bad = cond bad (refused number place) accepted

abbrev pub refused_if : ℕ → Bool → Refusal
refused_if number bad = refused_with number 0 bad

-- The first offending place is named
unfoldable pub refused_at : ℕ → Found → Refusal
refused_at number nowhere = accepted
refused_at number (at place) = refused number place

-- ---- the table

-- 1: nx or ny out of 2..64, or the field is not nx·ny long
unfoldable pub bad_shape : ℕ → ℕ → ℕ → Bool
bad_shape nx ny len = not (among least_side most_side nx) || not (among least_side most_side ny) || not (eqb len (nx * ny))

-- 2: window (its four ends count from 0 and are inside it) with left > right, top > bottom, or past the grid
pub record Span : Type 0 where
  pub first : ℕ
  pub last : ℕ

pub record Window : Type 0 where
  pub columns : Span
  pub rows : Span

abbrev pub bad_span : ℕ → Span → Bool
bad_span n s = ltb s.last s.first || leb n s.last

unfoldable pub bad_window : (nx ny : ℕ) → Window → Bool
bad_window nx ny w = bad_span nx w.columns || bad_span ny w.rows

-- Windows come as four equal columns, up to sixteen of them (document 02, 2)
abbrev pub most_windows : ℕ
most_windows = 16

pub record Screen : Type 0 where
  pub left : List ℕ
  pub right : List ℕ
  pub top : List ℕ
  pub bottom : List ℕ

abbrev pub window_at : (left right top bottom : ℕ) → Window
window_at left right top bottom = record { columns = record { first = left; last = right }; rows = record { first = top; last = bottom } }

-- window k of them, and all windows
abbrev pub window_on : Screen → ℕ → Window
window_on s k = window_at (get_or s.left k 0) (get_or s.right k 0) (get_or s.top k 0) (get_or s.bottom k 0)

unfoldable pub windows_of : Screen → List Window
windows_of s = tab (length s.left) (window_on s)

-- 2: unequal, or over sixteen
unfoldable pub bad_screen : Screen → Bool
bad_screen s =
    let n = length s.left in
    not (eqb (length s.right) n) || not (eqb (length s.top) n) || not (eqb (length s.bottom) n) || ltb most_windows n

-- 3: a result slice of the wrong length: that many points, and of the whole analysis a verdict for each row of the x column
unfoldable pub bad_lengths : (points grid support : ℕ) → Bool
bad_lengths points grid support = not (eqb grid points) || not (eqb support points)

abbrev pub points_along : Span → ℕ
points_along s = s.last - s.first + 1

abbrev pub points_of : Window → ℕ
points_of w = points_along w.columns * points_along w.rows

-- all windows together
abbrev pub points_of_all : List Window → ℕ
points_of_all ws = total 0 ◌+◌ points_of ws

-- 4: station columns unequal, or more than 512
unfoldable pub bad_columns : Columns → Bool
bad_columns c =
    let n = length c.x in
    not (eqb (length c.y) n) || not (eqb (length c.value) n) || not (eqb (length c.observed) n)
    || not (eqb (length c.from) n) || not (eqb (length c.until) n) || not (eqb (length c.wind_u) n)
    || not (eqb (length c.wind_v) n)
    || ltb most_stations n

-- 5: scan count out of 1..6, or in C a plan column shorter than it; another mode, after the scan count (document 02, 5), and
-- after it another rule (document 02, 6)
unfoldable pub bad_scans : Plan → Bool
bad_scans p =
    not (among 1 most_scans p.scans) || ltb (length p.radius) p.scans || ltb (length p.limit) p.scans
    || ltb wind_mode p.mode
    || not (among equation_rule listing_rule p.rule)

-- 6: R out of range or rising, or E out of range, at scan m
unfoldable pub rising : Plan → ℕ → Bool
rising p zero = false
rising p (suc m) = lt_z (get_or p.radius m (pos 0)) (get_or p.radius (suc m) (pos 0))

unfoldable pub bad_scan : Plan → ℕ → Bool
bad_scan p m =
    not (among_ℤ (pos 1) (pos most_radius) (get_or p.radius m (pos 0))) || rising p m
    || not (among_ℤ (pos 0) (pos most_limit) (get_or p.limit m (pos 0)))

-- 6 after the scans, with place 6: B or L out of range, if the check is on (document 02, 7)
unfoldable pub bad_buddies : Plan → Bool
bad_buddies p =
    p.buddies.on
    && (not (among_ℤ (pos 1) (pos most_buddy_radius) p.buddies.radius) || not (among_ℤ (pos 0) (pos most_buddy_limit) p.buddies.limit))

-- 7: first-guess value out of range
unfoldable pub bad_guess : ℤ → Bool
bad_guess v = not (within most_value v)

-- a wind out of range, or half missing (document 02, 5)
unfoldable pub bad_wind : Wind → Bool
bad_wind w = not (is_no_wind w) && (not (within most_wind w.u) || not (within most_wind w.v))

-- 8: station value (not the mark) out of range, position out of range, or from not below until; its wind, after the row's other tests
unfoldable pub bad_station : Station → Bool
bad_station s =
    (not (is_missing s.value) && not (within most_value s.value)) || not (within most_position s.x)
    || not (within most_position s.y)
    || leb s.until s.from
    || bad_wind s.wind

-- ---- the rows from 5 on, of the request itself

unfoldable pub from_five : Request → List Refusal
from_five q =
    refused_if 5 (bad_scans q.plan)
    ∷ refused_at 6 (first q.plan.scans (bad_scan q.plan))
    ∷ refused_with 6 most_scans (bad_buddies q.plan)
    ∷ refused_at 7 (first_in bad_guess q.first_guess)
    ∷ refused_at 8 (first_in bad_station q.stations)
    ∷ []

-- ---- for each call the first refusal and its place

unfoldable pub analysis_refusal : Call → (grid support verdict : ℕ) → Refusal
analysis_refusal c grid support verdict =
    in_order
    (refused_if 1 (bad_shape c.nx c.ny (length c.first_guess))
    ∷ refused_if 3 (bad_lengths (c.nx * c.ny) grid support || not (eqb verdict (length c.stations.x)))
    ∷ refused_if 4 (bad_columns c.stations)
    ∷ from_five (asked c))

-- Only the window query and a screen give 2
unfoldable pub window_refusal : Call → Window → (grid support : ℕ) → Refusal
window_refusal c w grid support =
    in_order
    (refused_if 1 (bad_shape c.nx c.ny (length c.first_guess))
    ∷ refused_if 2 (bad_window c.nx c.ny w)
    ∷ refused_if 3 (bad_lengths (points_of w) grid support)
    ∷ refused_if 4 (bad_columns c.stations)
    ∷ from_five (asked c))

-- Of a screen, 2 with place 16 comes first within 2; then 2 names the first bad window by its index; 3 measures all windows together (document 02, 2)
unfoldable pub screen_refusal : Call → Screen → (grid support : ℕ) → Refusal
screen_refusal c s grid support =
    in_order
    (refused_if 1 (bad_shape c.nx c.ny (length c.first_guess))
    ∷ refused_with 2 most_windows (bad_screen s)
    ∷ refused_at 2 (first_in (bad_window c.nx c.ny) (windows_of s))
    ∷ refused_if 3 (bad_lengths (points_of_all (windows_of s)) grid support)
    ∷ refused_if 4 (bad_columns c.stations)
    ∷ from_five (asked c))

-- The point reading and the summary give only 1, tested on the field they are handed
unfoldable pub summary_refusal : (nx ny field : ℕ) → Refusal
summary_refusal nx ny field = refused_if 1 (bad_shape nx ny field)

-- (the reading also on its support, which must be as long)
unfoldable pub reading_refusal : (nx ny field support : ℕ) → Refusal
reading_refusal nx ny field support = refused_if 1 (bad_shape nx ny field || not (eqb support field))
