-- The rows of the table before 6, on lengths and counts alone: what a call that passes them is, and that the rest of its tests search the
-- request that it asks.
use Rattle.std.specs.Prelude.{ℕ, ◌*◌, ◌≤◌, ◌<◌, ◌≡◌, not, ◌||◌, false, List, [], ◌∷◌, ◌++◌, eqb, length}
use Rattle.std.proofs.Common.{sym, ◌∙◌}
use borrow.Author.Tests.{eqb-true, not-false}
use Rattle.lists.specs.Tests.{or_false}
use Rattle.lists.specs.First.{nowhere, first_in, Good, first_good, in_table}
use Rattle.lists.specs.Members.{All, none, more}
use Rattle.scheme.specs.Units.{most_side, most_scans, wind_mode, Call, asked}
use Rattle.scheme.specs.Refusals.{Refusal, accepted, in_order, refused_if, refused_with, refused_at, bad_shape, Window, bad_window, most_windows, Screen, window_on, windows_of, bad_screen, points_of, points_of_all, bad_lengths, bad_columns, bad_scans, from_five, analysis_refusal, window_refusal, screen_refusal}
use Rattle.scheme.specs.Accepted.{Shaped, Equal, Ruled, from_six, FitsWindow, FitsScreen, OnGrid, EqualScreen}
use Rattle.scheme.proofs.Accepted.{all_accepted, not_refused, nowhere_refused, shaped, equal, scans_fit, long, on-grid, wider, equal_screen}
use Rattle.request.specs.declared.Window.{Window as Ends}
use Rattle.request.specs.Tables.{window_no, windows_in, OnScreen}
use Rattle.refusal_shapes.specs.declared.Lengths.{Lengths}
use Rattle.refusal_shapes.specs.Tested.{lengths_of, unequal_screen, unequal_columns, bad_scan_count}
use Rattle.refusal.specs.declared.Refusal.{Refusal as Row}
use Rattle.refusal.specs.Row.{row_of, rest_decides, refused_before}

-- the rows that are tested on the lengths of a call
abbrev pub four_and_five : Lengths → List Refusal
four_and_five l = refused_if 4 (unequal_columns l) ∷ refused_if 5 (bad_scan_count l) ∷ []

abbrev pub analysis_lengths : Lengths → (grid support verdict : ℕ) → List Refusal
analysis_lengths l grid support verdict =
    refused_if 1 (bad_shape l.nx l.ny l.guess)
    ∷ refused_if 3 (bad_lengths (l.nx * l.ny) grid support || not (eqb verdict l.x))
    ∷ four_and_five l

abbrev pub window_lengths : Lengths → Window → (grid support : ℕ) → List Refusal
window_lengths l w grid support =
    refused_if 1 (bad_shape l.nx l.ny l.guess)
    ∷ refused_if 2 (bad_window l.nx l.ny w)
    ∷ refused_if 3 (bad_lengths (points_of w) grid support)
    ∷ four_and_five l

-- of a screen: those before its windows are loaded, and those after
abbrev pub screen_columns : Lengths → (left right top bottom : ℕ) → List Refusal
screen_columns l left right top bottom =
    refused_if 1 (bad_shape l.nx l.ny l.guess)
    ∷ refused_with 2 most_windows (unequal_screen left right top bottom)
    ∷ []

abbrev pub screen_lengths : Lengths → List Window → (grid support : ℕ) → List Refusal
screen_lengths l ws grid support =
    refused_at 2 (first_in (bad_window l.nx l.ny) ws)
    ∷ refused_if 3 (bad_lengths (points_of_all ws) grid support)
    ∷ four_and_five l

-- ---- a call that passes the rows which all calls have

pub record Handed (c : Call) : Type 0 where
  pub shape : Shaped c.nx c.ny (length c.first_guess)
  pub equal : Equal c.stations
  pub scans_some : 1 ≤ c.plan.scans
  pub scans_few : c.plan.scans ≤ most_scans
  pub radii : c.plan.scans ≤ length c.plan.radius
  pub limits : c.plan.scans ≤ length c.plan.limit
  pub known : c.plan.mode ≤ wind_mode
  pub ruled : Ruled c.plan.rule

handed : (c : Call) → Shaped c.nx c.ny (length c.first_guess) → unequal_columns (lengths_of c) ≡ false → bad_scan_count (lengths_of c) ≡ false
    → Handed c
unfolding bad_columns
handed c shape four five =
    let (some, few, radii, limits, known, ruled) = scans_fit _ _ _ _ _ five in
    record { shape = shape; equal = equal c.stations four; scans_some = some; scans_few = few; radii = radii; limits = limits; known = known; ruled = ruled }

-- ---- the whole analysis

pub record Passed (c : Call) (grid support verdict : ℕ) : Type 0 where
  pub handed : Handed c
  pub grid_long : grid ≡ c.nx * c.ny
  pub support_long : support ≡ c.nx * c.ny
  pub verdict_long : verdict ≡ length c.stations.x
  pub rest : analysis_refusal c grid support verdict ≡ in_order (from_six (asked c))

module _ (c : Call) (grid support verdict : ℕ) where
  abbrev analysis_rows : List Refusal
  analysis_rows = analysis_lengths (lengths_of c) grid support verdict

  pub analysis_passed : in_order (analysis_lengths (lengths_of c) grid support verdict) ≡ accepted → Passed c grid support verdict
  unfolding analysis_refusal bad_columns bad_scans from_five
  analysis_passed e = go (all_accepted analysis_rows e)
    where
      go : All (λ r. r ≡ accepted) analysis_rows → Passed c grid support verdict
      go (more one (more three (more four (more five none)))) =
          let (l, v) = or_false _ _ (not_refused 3 _ _ three) in
          let (g, s) = long _ _ _ l in
          record {
            handed = handed c (shaped _ _ _ (not_refused 1 _ _ one)) (not_refused 4 _ _ four) (not_refused 5 _ _ five);
            grid_long = g;
            support_long = s;
            verdict_long = eqb-true _ _ (not-false _ v);
            rest = rest_decides (from_six (asked c)) analysis_rows e;
          }

  pub analysis_refused : (r : Row) → row_of r ≡ in_order (analysis_lengths (lengths_of c) grid support verdict) → row_of r ≡ analysis_refusal c grid support verdict
  unfolding analysis_refusal bad_columns bad_scans from_five
  analysis_refused = refused_before (from_six (asked c)) analysis_rows

-- ---- the window query

pub record WindowPassed (c : Call) (w : Window) (grid support : ℕ) : Type 0 where
  pub handed : Handed c
  pub on-grid : OnGrid c.nx c.ny w
  pub fits : FitsWindow w grid support
  pub rest : window_refusal c w grid support ≡ in_order (from_six (asked c))

module _ (c : Call) (w : Window) (grid support : ℕ) where
  abbrev window_rows : List Refusal
  window_rows = window_lengths (lengths_of c) w grid support

  pub window_passed : in_order (window_lengths (lengths_of c) w grid support) ≡ accepted → WindowPassed c w grid support
  unfolding window_refusal bad_columns bad_scans from_five
  window_passed e = go (all_accepted window_rows e)
    where
      go : All (λ r. r ≡ accepted) window_rows → WindowPassed c w grid support
      go (more one (more two (more three (more four (more five none))))) =
          let (g, s) = long _ _ _ (not_refused 3 _ _ three) in
          record {
            handed = handed c (shaped _ _ _ (not_refused 1 _ _ one)) (not_refused 4 _ _ four) (not_refused 5 _ _ five);
            on-grid = on-grid _ _ w (not_refused 2 _ _ two);
            fits = record { grid_long = g; support_long = s };
            rest = rest_decides (from_six (asked c)) window_rows e;
          }

  pub window_refused : (r : Row) → row_of r ≡ in_order (window_lengths (lengths_of c) w grid support) → row_of r ≡ window_refusal c w grid support
  unfolding window_refusal bad_columns bad_scans from_five
  window_refused = refused_before (from_six (asked c)) window_rows

-- ---- a screen

-- a search of its windows that finds none: they are on the grid
pub on_screen : {nx ny len : ℕ} → Shaped nx ny len → (ws : List Ends) → length ws ≤ most_windows → nowhere ≡ first_in (bad_window nx ny) (windows_in ws)
    → OnScreen most_side most_side ws
on_screen {nx} {ny} shape ws few e = record { few = few; on = λ m h. wider shape (on-grid nx ny (window_no ws m) (good m h)) }
  where
    good : Good (length ws) (λ m. bad_window nx ny (window_no ws m))
    good = first_good (length ws) _ (sym (in_table (bad_window nx ny) (length ws) (window_no ws)) ∙ sym e)

pub record ScreenPassed (c : Call) (s : Screen) (grid support : ℕ) : Type 0 where
  pub handed : Handed c
  pub columns : EqualScreen s
  pub on-grid : (k : ℕ) → k < length s.left → OnGrid c.nx c.ny (window_on s k)
  pub fits : FitsScreen (windows_of s) grid support
  pub rest : screen_refusal c s grid support ≡ in_order (from_six (asked c))

module _ (c : Call) (s : Screen) (grid support : ℕ) where
  abbrev column_rows : List Refusal
  column_rows = screen_columns (lengths_of c) (length s.left) (length s.right) (length s.top) (length s.bottom)

  abbrev screen_rows : List Refusal
  screen_rows = screen_lengths (lengths_of c) (windows_of s) grid support

  -- past the first of them
  pub columns_passed : in_order column_rows ≡ accepted → Shaped c.nx c.ny (length c.first_guess) × EqualScreen s
  unfolding bad_screen
  columns_passed e = go (all_accepted column_rows e)
    where
      go : All (λ r. r ≡ accepted) column_rows → Shaped c.nx c.ny (length c.first_guess) × EqualScreen s
      go (more one (more two none)) = (shaped _ _ _ (not_refused 1 _ _ one), equal_screen s (not_refused 2 _ _ two))

  pub columns_refused : (r : Row) → row_of r ≡ in_order column_rows → row_of r ≡ screen_refusal c s grid support
  unfolding screen_refusal bad_screen bad_columns bad_scans from_five
  columns_refused = refused_before (screen_rows ++ from_six (asked c)) column_rows

  module _ (first : in_order column_rows ≡ accepted) where
    past : screen_refusal c s grid support ≡ in_order (screen_rows ++ from_six (asked c))
    unfolding screen_refusal bad_screen bad_columns bad_scans from_five
    past = rest_decides (screen_rows ++ from_six (asked c)) column_rows first

    pub screen_passed : in_order screen_rows ≡ accepted → ScreenPassed c s grid support
    unfolding windows_of
    screen_passed e = go (all_accepted screen_rows e)
      where
        go : All (λ r. r ≡ accepted) screen_rows → ScreenPassed c s grid support
        go (more two (more three (more four (more five none)))) =
            let (g, u) = long _ _ _ (not_refused 3 _ _ three) in
            record {
              handed = handed c (columns_passed first).0 (not_refused 4 _ _ four) (not_refused 5 _ _ five);
              columns = (columns_passed first).1;
              on-grid = λ k h. on-grid _ _ _ (first_good (length s.left) (λ m. bad_window c.nx c.ny (window_on s m)) (sym (in_table _ (length s.left) (window_on s)) ∙ nowhere_refused 2 _ two) k h);
              fits = record { grid_long = g; support_long = u };
              rest = past ∙ rest_decides (from_six (asked c)) screen_rows e;
            }

    pub screen_refused : (r : Row) → row_of r ≡ in_order screen_rows → row_of r ≡ screen_refusal c s grid support
    screen_refused r h = rw past (refused_before (from_six (asked c)) screen_rows r h)
