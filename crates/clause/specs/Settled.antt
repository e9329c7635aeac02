-- A call that passed the rows of lengths is loaded, and what is left of it, settled, settles the call.
use Rattle.std.specs.Prelude.{ℕ, ◌<◌, ◌≡◌, List, length, Result}
use Rattle.std.proofs.Common.{arith, sym, ap, ◌∙◌}
use Rattle.lists.specs.Tab.{length-tab, tab_tells}
use Rattle.scheme.specs.Units.{station_at, stations_of, Call, asked, Request}
use Rattle.scheme.specs.Refusals.{in_order, analysis_refusal, Window, window_refusal, Screen, window_on, windows_of, screen_refusal}
use Rattle.scheme.specs.Scan.{Analysis, analysis}
use Rattle.scheme.specs.Reach.{Tile, whole_at, whole_at_each}
use Rattle.scheme.specs.Accepted.{from_six, Formed, Fits, FitsWindow, FitsScreen, OnGrid}
use Rattle.request.specs.declared.Terms.{Terms}
use Rattle.request.specs.declared.Station.{Station as Row}
use Rattle.request.specs.declared.Window.{Window as Ends}
use Rattle.refusal.specs.declared.Refusal.{Refusal as Refused}
use Rattle.request.specs.Tables.{stations_in, request_in, window_no, windows_in, OnScreen}
use Rattle.request.specs.Loaded.{Termed, Held, held, formed, same_refusal, same_analysis, same_window, same_screen}
use Rattle.refusal.specs.Row.{SettlesAs}
use Rattle.refusal.specs.Lengths.{Handed, Passed, WindowPassed, ScreenPassed}

-- ---- what each call on station columns promises (Promises), of its answer before that is one number

abbrev pub AnalysesAs : Call → Analysis → Result (Unit {0}) Refused → Analysis → Type 0
AnalysesAs c found answer left =
    SettlesAs (analysis_refusal c (length found.grid) (length found.support) (length found.verdict)) (analysis (asked c)) found answer left

abbrev pub QueriesAs : Call → Window → Tile → Result (Unit {0}) Refused → Tile → Type 0
QueriesAs c w found answer left = SettlesAs (window_refusal c w (length found.grid) (length found.support)) (whole_at (asked c) w) found answer left

abbrev pub QueriesEachAs : Call → Screen → Tile → Result (Unit {0}) Refused → Tile → Type 0
QueriesEachAs c s found answer left =
    SettlesAs (screen_refusal c s (length found.grid) (length found.support)) (whole_at_each (asked c) (windows_of s)) found answer left

-- ---- a call that is loaded

module _ (c : Call) (t : Terms) (stations : List Row) (says : Termed t c) (rows : stations_in stations ≡ stations_of c.stations) where
  abbrev q : Request
  q = request_in t c.first_guess stations

  loaded : Held t c.first_guess stations (asked c)
  loaded = held t c stations says rows

  past_five : Handed c → Formed q
  past_five h = formed t c stations says rows h.shape h.equal h.scans_some h.scans_few h.known h.ruled

  -- ---- the whole analysis

  module _ {grid support verdict : ℕ} (p : Passed c grid support verdict) where
    pub ready : Formed q × Fits q grid support verdict
    unfolding stations_of
    ready = (
      past_five p.handed,
      record {
        grid_long = rw (says.nx_is, says.ny_is) p.grid_long;
        support_long = rw (says.nx_is, says.ny_is) p.support_long;
        verdict_long = p.verdict_long ∙ sym (ap length rows ∙ length-tab (length c.stations.x) (station_at c.stations));
      },
    )

    pub settles : (found : Analysis) {left : Analysis} (answer : Result (Unit {0}) Refused) → SettlesAs (in_order (from_six q)) (analysis q) found answer left
        → SettlesAs (analysis_refusal c grid support verdict) (analysis (asked c)) found answer left
    settles found answer s = rw (p.rest, ← (same_refusal loaded), ← (same_analysis loaded)) s

  -- ---- the window query

  module _ (w : Window) {grid support : ℕ} (p : WindowPassed c w grid support) where
    pub window_ready : Formed q × OnGrid t.nx t.ny w × FitsWindow w grid support
    window_ready = (past_five p.handed, rw (says.nx_is, says.ny_is) p.on-grid, p.fits)

    pub window_settles : (found : Tile) {left : Tile} (answer : Result (Unit {0}) Refused) → SettlesAs (in_order (from_six q)) (whole_at q w) found answer left
        → SettlesAs (window_refusal c w grid support) (whole_at (asked c) w) found answer left
    window_settles found answer s = rw (p.rest, ← (same_refusal loaded), ← (same_window loaded w)) s

  -- ---- a screen

  module _ (s : Screen) (windows : List Ends) (is : windows_in windows ≡ windows_of s) {grid support : ℕ} (p : ScreenPassed c s grid support) where
    -- its windows are those that were loaded
    count : length windows ≡ length s.left
    unfolding windows_of
    count = (tab_tells (length windows) (length s.left) (window_no windows) (window_on s) is).0

    same : (k : ℕ) → k < length windows → window_no windows k ≡ window_on s k
    unfolding windows_of
    same = (tab_tells (length windows) (length s.left) (window_no windows) (window_on s) is).1

    pub screen_ready : Formed q × OnScreen t.nx t.ny windows × FitsScreen (windows_in windows) grid support
    screen_ready = (past_five p.handed, record { few = omega (arith, count, p.columns.few); on = λ k h. rw (says.nx_is, says.ny_is, same k h) (p.on-grid k (omega (arith, count))) }, rw is p.fits)

    pub screen_settles : (found : Tile) {left : Tile} (answer : Result (Unit {0}) Refused) → SettlesAs (in_order (from_six q)) (whole_at_each q (windows_in windows)) found answer left
        → SettlesAs (screen_refusal c s grid support) (whole_at_each (asked c) (windows_of s)) found answer left
    screen_settles found answer st = rw (p.rest, ← (same_refusal loaded), ← is, ← (same_screen loaded windows)) st
