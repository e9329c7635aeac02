-- The theorems that docs/PROMISES.md names, each with its statement over the definitions, and its proof cited: a theorem that says less than it
-- says here is refused. Notions of the proved files that a statement uses are written out where they are short.
use Rattle.std.specs.Prelude.{ℕ, zero, suc, ◌+◌, ◌-◌, ◌*◌, ◌/◌, ◌%◌, ◌^◌, ◌≤◌, ◌<◌, ◌≡◌, ◌⊎◌, ◌↔◌, Bool, true, false, cond, ◌&&◌, leb, ltb, eqb, length, get_or, set, ℤ, pos, neg_ℤ, nat_abs, ◌+ℤ◌, ◌-ℤ◌, ◌*ℤ◌, Float}
use Rattle.std.proofs.Math.Path.{refl}
use Rattle.std.proofs.Common.{◌∙◌, SFits}
use mathlib.Core.List.{List, [], ◌∷◌, ◌++◌, map}
use Rattle.std.specs.Int.Signed.{le_z}
use Rattle.std.specs.Float.Ieee.Exact.{HasValue}
use Rattle.std.specs.Int.{w32}
use Rattle.lists.specs.Tab.{tab}
use Rattle.lists.specs.First.{first, first_in}
use Rattle.lists.specs.Members.{All, Some, some_also}
use Rattle.lists.specs.Keep.{keep}
use Rattle.lists.specs.Parted.{rank, each}
use Rattle.lists.specs.Each.{without}
use Rattle.lists.specs.Sums.{total, up_to}
use Rattle.scheme.specs.declared.Reading.{Reading}
use Rattle.scheme.specs.declared.Summary.{Summary}
use Rattle.scheme.specs.Units.{is_missing, stored, field_of, step, Wind, no_wind, is_no_wind, Station, most_beyond, Buddies, Plan, R, E, B, L, Request, guess, Call, asked, with_stations, asking}
use Rattle.scheme.specs.Refusals.{Refusal, accepted, refused, number_of, place_of, as_one, in_order, refused_if, refused_at, bad_shape, bad_scans, bad_scan, bad_guess, bad_station, Window, bad_window, Screen, window_at, window_on, windows_of, bad_screen, points_of, points_of_all, from_five, analysis_refusal, window_refusal, screen_refusal}
use Rattle.scheme.specs.Verdicts.{serves, on_grid, off_grid, is_accepted, before_scans}
use Rattle.scheme.specs.Rounding.{rounded}
use Rattle.scheme.specs.Value.{place, sum_at, value_at}
use Rattle.scheme.specs.Difference.{Row, tested}
use Rattle.scheme.specs.Weight.{scale, weight, square, inside, weight_at}
use Rattle.scheme.specs.Buddies.{silence, says, heard, is_odd, beside_others}
use Rattle.scheme.specs.Correction.{Sums, nothing, plus, gift, share, correction, backed_by}
use Rattle.scheme.specs.Smoothing.{smoothed}
use Rattle.scheme.specs.Scan.{State, start, differences, all_tested, all_judged, rows_judged, sums_at, corrected, scan, after_within, after, at_end, Analysis, analysis}
use Rattle.scheme.specs.Reach.{steps, reach, cut_of, on_window, counted, cut, Tile, window_of, whole_at}
use Rattle.scheme.specs.Readings.{double, positive_zero, reading, value_of, lowest, highest, summary}
use Rattle.scheme.specs.Text.{request_lines, analysis_text}
use Rattle.scheme.specs.Text.Reader.{reads}
use Rattle.scheme.specs.Text.Pieces.{ascii}
use Rattle.scheme.specs.Promises.{Analyses, tile, Queries, four_columns, QueriesEach, Reads, ReadsKind, ReadsValue, Summarises, Replies}
use Rattle.scheme.specs.Accepted.{FitsScreen}
use Rattle.scheme.specs.Calls.{call_for}
use Rattle.scheme.proofs.Calls.{asks}
use Rattle.scheme.proofs.OneOutcome as outcomes
use Rattle.scheme.proofs.Places as places
use Rattle.scheme.proofs.Nearest as nearest
use Rattle.scheme.specs.Nearest.{Nearest}
use Rattle.scheme.proofs.Weights as weights
use Rattle.scheme.proofs.Streaks as streaks
use Rattle.scheme.proofs.Finer as fineness
use Rattle.scheme.proofs.Gifts as gifts
use Rattle.scheme.proofs.Bounds as bounds
use Rattle.scheme.proofs.Support as support
use Rattle.scheme.specs.Support.{bit}
use Rattle.scheme.proofs.DeadMasts as dead
use Rattle.scheme.specs.Judging.{no_row}
use Rattle.scheme.proofs.Posts as posts
use Rattle.scheme.proofs.Winds as winds
use Rattle.scheme.proofs.Lone as lones
use Rattle.scheme.proofs.BuddyCheck as buddies
use Rattle.scheme.proofs.Entries as entries
use Rattle.scheme.specs.Laws.{Scheme}
use Rattle.scheme.specs.Near.{Side}
use Rattle.scheme.proofs.Gathered.{is_kept, Twin}
use Rattle.scheme.proofs.Locality as locality
use Rattle.scheme.proofs.Locality.{Runs, Alike}
use Rattle.scheme.proofs.Windows as windows
use Rattle.scheme.proofs.Screens as screens
use Rattle.scheme.specs.BuddyCheck as check
use Rattle.scheme.specs.Entries.{UpToCount}
use Rattle.scheme.specs.Windows.{OfWindow}
use Rattle.scheme.specs.Screens.{Singly, of_singles}
use Rattle.scheme.proofs.Exact as exactness
use Rattle.scheme.specs.Exact.{negative, IsZero, ZerosPositive}
use Rattle.scheme.proofs.Exact.{ReadsExactly, ExactUnits}
use Rattle.scheme.proofs.AnswerSize as size
use Rattle.scheme.proofs.RoundTrip as round
use Rattle.scheme.specs.RoundTrip.{request_text, shorter_text, InRange}
use Rattle.scheme.proofs.Example as examples
use Rattle.scheme.specs.Example.{level, example, lone, corner, once_text, twice_text, smooth_text, once, twice, smooth, only_smoothed, corner_once, corner_twice, corner_smooth}
use Rattle.scheme.proofs.Cheats as cheats
use Rattle.scheme.specs.Cheats.{first_two_lines, row_lines, sup_lines, ver_line, shown}
use Rattle.scheme.proofs.Table as tables
use Rattle.scheme.specs.Table.{Table}
use Rattle.scheme.proofs.Cases as computed
use Rattle.scheme.proofs.Cases.{Cases}

-- ---- DEMAND 1: one outcome of each call, and the one number tells refusal and place

pub analysis_has_one_outcome : (c : Call) (found : Analysis) (answer answer' : ℕ) (left left' : Analysis)
    → Analyses c found answer left → Analyses c found answer' left' → ◌≡◌ {A = ℕ × Analysis} (answer, left) (answer', left')
analysis_has_one_outcome = outcomes.analysis_has_one_outcome

pub window_has_one_outcome : (c : Call) (w : Window) (found : Tile) (answer answer' : ℕ) (left left' : Tile)
    → Queries c w found answer left → Queries c w found answer' left' → ◌≡◌ {A = ℕ × Tile} (answer, left) (answer', left')
window_has_one_outcome = outcomes.window_has_one_outcome

pub screen_has_one_outcome : (c : Call) (s : Screen) (found : Tile) (answer answer' : ℕ) (left left' : Tile)
    → QueriesEach c s found answer left → QueriesEach c s found answer' left' → ◌≡◌ {A = ℕ × Tile} (answer, left) (answer', left')
screen_has_one_outcome = outcomes.screen_has_one_outcome

module _ (nx ny : ℕ) (field : List ℤ) (support : List ℕ) (x y : ℤ) where
  pub reading_has_one_outcome : (answer answer' : Reading) → Reads nx ny field support x y answer → Reads nx ny field support x y answer' → answer ≡ answer'
  reading_has_one_outcome = outcomes.reading_has_one_outcome nx ny field support x y

  pub kind_has_one_outcome : (answer answer' : ℕ) → ReadsKind nx ny field support x y answer → ReadsKind nx ny field support x y answer' → answer ≡ answer'
  kind_has_one_outcome = outcomes.kind_has_one_outcome nx ny field support x y

  pub value_has_one_outcome : (answer answer' : Float) → ReadsValue nx ny field support x y answer → ReadsValue nx ny field support x y answer' → answer ≡ answer'
  value_has_one_outcome = outcomes.value_has_one_outcome nx ny field support x y

pub summary_has_one_outcome : (nx ny : ℕ) (field : List ℤ) (answer answer' : Summary)
    → Summarises nx ny field answer → Summarises nx ny field answer' → answer ≡ answer'
summary_has_one_outcome = outcomes.summary_has_one_outcome

pub text_has_one_outcome : (input found : List ℕ) (bytes bytes' : ℕ) (left left' : List ℕ)
    → Replies input found bytes left → Replies input found bytes' left' → ◌≡◌ {A = ℕ × List ℕ} (bytes, left) (bytes', left')
text_has_one_outcome = outcomes.text_has_one_outcome

pub analysis_tells_refusal_and_place : (c : Call) (grid support verdict : ℕ)
    → (let r = analysis_refusal c grid support verdict in (as_one r / 65536 ≡ number_of r) × (as_one r % 65536 ≡ place_of r))
analysis_tells_refusal_and_place = places.analysis_tells_refusal_and_place

pub window_tells_refusal_and_place : (c : Call) (w : Window) (grid support : ℕ)
    → (let r = window_refusal c w grid support in (as_one r / 65536 ≡ number_of r) × (as_one r % 65536 ≡ place_of r))
window_tells_refusal_and_place = places.window_tells_refusal_and_place

pub screen_tells_refusal_and_place : (c : Call) (s : Screen) (grid support : ℕ)
    → (let r = screen_refusal c s grid support in (as_one r / 65536 ≡ number_of r) × (as_one r % 65536 ≡ place_of r))
screen_tells_refusal_and_place = places.screen_tells_refusal_and_place

-- ---- DEMAND 2: what is not accepted has no weight from then on

-- row n after m scans, and its weight at point (i, j) in scan number m + 1
abbrev row_after : Request → (m n : ℕ) → Row
row_after q m n = get_or (after q m).rows n no_row

abbrev weight_in : Request → (m n i j : ℕ) → ℕ
weight_in q m n i j = (share q.plan.mode (R q.plan m) (differences q (after q m)) i j (get_or (rows_judged q m (after q m)) n no_row)).weights

pub rejected_for_good : (q : Request) (m n t : ℕ) → is_accepted (row_after q m n).verdict ≡ false → row_after q (m + t) n ≡ row_after q m n
rejected_for_good = dead.rejected_for_good

pub rejected_has_no_weight : (q : Request) (k n t i j : ℕ) → is_accepted (row_after q (suc k) n).verdict ≡ false → weight_in q (k + t) n i j ≡ 0
rejected_has_no_weight = dead.rejected_has_no_weight

pub dead_mast_keeps_its_verdict : (q : Request) (n t : ℕ) → is_accepted (row_after q 0 n).verdict ≡ false → (row_after q t n).verdict ≡ (row_after q 0 n).verdict
dead_mast_keeps_its_verdict = dead.dead_mast_keeps_its_verdict

pub dead_mast_has_no_weight : (q : Request) (n t i j : ℕ) → is_accepted (row_after q 0 n).verdict ≡ false → weight_in q t n i j ≡ 0
dead_mast_has_no_weight = dead.dead_mast_has_no_weight

pub taken_down_is_out_of_service : (beyond nx ny T A : ℕ) (s : Station) → is_missing s.value ≡ false → (serves s s.observed && serves s T) ≡ false
    → before_scans beyond nx ny T A s ≡ 2
taken_down_is_out_of_service = dead.taken_down_is_out_of_service

-- the request without the masts that a verdict from 1 to 5 fits
abbrev without_dead_masts : Request → Request
without_dead_masts q =
    with_stations q (keep (λ s. is_accepted (before_scans most_beyond q.nx q.ny q.T q.A s)) q.stations)

pub removing_dead_masts_changes_no_value : (q : Request) → (analysis (without_dead_masts q)).grid ≡ (analysis q).grid
removing_dead_masts_changes_no_value = dead.removing_dead_masts_changes_no_value

pub removing_dead_masts_changes_no_support : (q : Request) → (analysis (without_dead_masts q)).support ≡ (analysis q).support
removing_dead_masts_changes_no_support = dead.removing_dead_masts_changes_no_support

-- ---- posts beyond the border

-- whatever a scan finds, a post's difference is its observation less the first guess at its nearest place on the grid
pub post_differs_from_first_guess : (q : Request) (found : State) (s : Station) → on_grid q.nx q.ny s.x s.y ≡ false
    → differences q found s ≡ s.value -ℤ rounded (sum_at q.nx q.ny (guess q) (place q.nx s.x) (place q.ny s.y)) 4096
unfolding value_at
post_differs_from_first_guess = posts.post_differs_from_first_guess

-- so a post that scan number m + 1 accepts passes the E test of each later scan that it is still accepted in and that has no lower limit
pub post_passes_later_tests : (q : Request) (m n : ℕ) → on_grid q.nx q.ny (row_after q (suc m) n).station.x (row_after q (suc m) n).station.y ≡ false
    → is_accepted (row_after q (suc m) n).verdict ≡ true
    → (t : ℕ) → E q.plan m ≤ E q.plan (suc m + t) → is_accepted (row_after q (suc m + t) n).verdict ≡ true
    → tested (suc m + t + 1) (E q.plan (suc m + t)) (differences q (after q (suc m + t))) (row_after q (suc m + t) n) ≡ row_after q (suc m + t) n
post_passes_later_tests = posts.post_passes_later_tests

-- and with the buddy check off stays as it is, up to a scan with a lower limit
pub post_stays_accepted : (q : Request) (m n : ℕ) → on_grid q.nx q.ny (row_after q (suc m) n).station.x (row_after q (suc m) n).station.y ≡ false
    → is_accepted (row_after q (suc m) n).verdict ≡ true → B q.plan ≡ 0
    → (t : ℕ) → ((k : ℕ) → k < t → E q.plan m ≤ E q.plan (suc m + k)) → row_after q (suc m + t) n ≡ row_after q (suc m) n
post_stays_accepted = posts.post_stays_accepted

-- where each station is on the grid, or off it by more than `most`, it does not matter how far off, up to that, a post may be; 0 is document 01
pub without_posts_nothing_moves : (q : Request) (most b b' : ℕ) → b ≤ most → b' ≤ most
    → All (λ s. (on_grid q.nx q.ny s.x s.y ≡ true) ⊎ (off_grid most q.nx q.ny s ≡ true)) q.stations
    → (m : ℕ) → after_within b q m ≡ after_within b' q m
without_posts_nothing_moves = posts.without_posts_nothing_moves

-- ---- DEMAND 3: windows agree with the whole

module _ (c : Call) (w : Window) (grid support verdict : ℕ) (e : analysis_refusal c grid support verdict ≡ accepted) (on : bad_window c.nx c.ny w ≡ false) where
  abbrev q : Request
  q = asked c

  abbrev part : Request
  part = cut q w

  -- where point (i, j) stands in the lists of the cut's analysis, and row k in its station list
  abbrev at : (i j : ℕ) → ℕ
  at i j = (j - (cut_of q w).rows.first) * part.nx + (i - (cut_of q w).columns.first)

  abbrev row : ℕ → ℕ
  row k = rank (on_window q.nx q.ny (cut_of q w)) q.stations k

  -- the cut is itself an accepted request; each point of the window has there the whole grid's value and support; each station whose place
  -- is on the window, posts included, is kept, and has there its verdict
  pub windows_agree_with_the_whole :
      ((asked (call_for part) ≡ part) × (analysis_refusal (call_for part) (part.nx * part.ny) (part.nx * part.ny) (length part.stations) ≡ accepted))
      × ((i j : ℕ) → w.columns.first ≤ i → i ≤ w.columns.last → w.rows.first ≤ j → j ≤ w.rows.last
      → (at i j < length (analysis part).grid) × (get_or (analysis part).grid (at i j) (pos 0) ≡ get_or (analysis q).grid (j * q.nx + i) (pos 0))
      × (at i j < length (analysis part).support) × (get_or (analysis part).support (at i j) 0 ≡ get_or (analysis q).support (j * q.nx + i) 0))
      × ((k : ℕ) (o : Station) → k < length q.stations → on_window q.nx q.ny w (get_or q.stations k o) ≡ true
      → (row k < length (analysis part).verdict) × (get_or (analysis part).verdict (row k) 0 ≡ get_or (analysis q).verdict k 0)
      × (get_or part.stations (row k) (counted (cut_of q w) o) ≡ counted (cut_of q w) (get_or q.stations k o)))
  windows_agree_with_the_whole =
      let a = windows.windows_agree_with_the_whole c w grid support verdict e on in (
        (asks part, a.accepts),
        λ i j l r t b.
            let h : OfWindow w i j = record { left = l; right = r; top = t; bottom = b } in
            ((a.inside i j h).0, a.values i j h, (a.inside i j h).1, a.supports i j h),
        λ k o l h. ((a.verdicts k o l h).0, (a.verdicts k o l h).1, (a.rows k o l (a.keeps (get_or q.stations k o) h)).1),
      )

-- of every scheme that keeps the laws: on the cut a run goes as on the grid
module _ (S : Scheme) (across down : Side) (both : Runs S across down) where
  pub run_alike : (taken : ℕ → ℕ)
      → ((m : ℕ) → S.pull.range m + S.buddies.range m + step * cond S.smooth 1 0 ≤ step * taken m)
      → (m ρ : ℕ) → up_to 0 ◌+◌ m taken + ρ ≤ across.wider → up_to 0 ◌+◌ m taken + ρ ≤ down.wider → Alike S across down both ρ m
  run_alike = locality.run_alike S across down both

  pub twin_row : (m ρ : ℕ) → Alike S across down both ρ m → (o o' : S.Row) (k : ℕ) → k < length (both.whole.rows m)
      → is_kept S across down (S.station (get_or (both.whole.rows m) k o)) ≡ true
      → Twin S across down (step * ρ) (get_or (both.whole.rows m) k o) (get_or (both.part.rows m) (rank (is_kept S across down) both.stations k) o')
  twin_row = locality.twin_row S across down both

-- ---- a screen of windows, beside the single queries of its windows, each with results as long as the window

module _ (c : Call) where
  abbrev single : Window → Refusal
  single w = window_refusal c w (points_of w) (points_of w)

  abbrev for_its_window : Refusal → Bool
  for_its_window r = eqb (number_of r) 2

  -- those that are not, are refused alike
  pub singles_are_refused_alike : (w v : Window) → for_its_window (single w) ≡ false → for_its_window (single v) ≡ false → single w ≡ single v
  singles_are_refused_alike = screens.singles_are_refused_alike c

  module _ (s : Screen) (equal : bad_screen s ≡ false) where
    abbrev n : ℕ
    n = length s.left

    -- 2 names the first that is refused for its window, by its index; or else it is as the first that is refused
    abbrev in_their_order : Refusal
    in_their_order = in_order (refused_at 2 (first_in for_its_window (map single (windows_of s))) ∷ map single (windows_of s))

    pub screen_is_refused_as_its_windows : 0 < n → screen_refusal c s (points_of_all (windows_of s)) (points_of_all (windows_of s)) ≡ in_their_order
    unfolding of_singles
    screen_is_refused_as_its_windows = screens.screen_is_refused_as_its_windows c s equal

    pub screen_of_no_windows_is_tested_like_the_whole : n ≡ 0
        → screen_refusal c s 0 0 ≡ analysis_refusal c (c.nx * c.ny) (c.nx * c.ny) (length c.stations.x)
    screen_of_no_windows_is_tested_like_the_whole = screens.screen_of_no_windows_is_tested_like_the_whole c s equal

    -- an outcome of the screen, and one of each single query
    module _ (some : 0 < n) (found : Tile) (long : (length found.grid ≡ points_of_all (windows_of s)) × (length found.support ≡ points_of_all (windows_of s)))
        (answer : ℕ) (left : Tile) (asked-each : QueriesEach c s found answer left) (found' : ℕ → Tile) (answer' : ℕ → ℕ) (left' : ℕ → Tile)
        (long' : (k : ℕ) → k < n → (length (found' k).grid ≡ points_of (window_on s k)) × (length (found' k).support ≡ points_of (window_on s k)))
        (asked-singly : (k : ℕ) → k < n → Queries c (window_on s k) (found' k) (answer' k) (left' k)) where
      pub screen_answers_as_its_windows : (answer ≡ as_one in_their_order) × ((k : ℕ) → k < n → answer' k ≡ as_one (single (window_on s k)))
          × ((in_their_order ≡ accepted) ↔ ((k : ℕ) → k < n → single (window_on s k) ≡ accepted))
          × (in_their_order ≡ accepted → left ≡ tile (up_to [] ◌++◌ n (λ k. (left' k).grid)) (up_to [] ◌++◌ n (λ k. (left' k).support)))
          × ((number place : ℕ) → in_their_order ≡ refused number place → left ≡ found)
      unfolding of_singles
      screen_answers_as_its_windows =
          let fits : FitsScreen (windows_of s) (length found.grid) (length found.support) = record { grid_long = long.0; support_long = long.1 } in
          let each : Singly c s =
          record {
            found = found';
            answer = answer';
            left = left';
            fits = λ k h. record { grid_long = (long' k h).0; support_long = (long' k h).1 };
            queries = asked-singly;
          }
          in
          let a = screens.screen_answers_as_its_windows c s equal some found fits answer left asked-each each in
          (a.refusal, a.their_refusals, a.accepted_where_all_are, a.leaves_in_turn, a.or_writes_nothing)

  pub screen_of_one_window_is_the_query : (left right top bottom : ℕ) (found : Tile) (answer : ℕ) (leaves : Tile)
      → QueriesEach c (four_columns (left ∷ []) (right ∷ []) (top ∷ []) (bottom ∷ [])) found answer leaves ↔ Queries c (window_at left right top bottom) found answer leaves
  screen_of_one_window_is_the_query = screens.screen_of_one_window_is_the_query c

-- ---- one scan

pub rounded_is_nearest : (n : ℤ) (d : ℕ) → 0 < d
    → ((k : ℤ) → nat_abs (n -ℤ rounded n d *ℤ pos d) ≤ nat_abs (n -ℤ k *ℤ pos d))
    × ((k : ℤ) → nat_abs (n -ℤ k *ℤ pos d) ≡ nat_abs (n -ℤ rounded n d *ℤ pos d) → nat_abs k ≤ nat_abs (rounded n d))
rounded_is_nearest n d some = let h = nearest.rounded_is_nearest n d some in (h.near, h.away)

pub nearest_is_one : (n : ℤ) (d : ℕ) (r s : ℤ) → 0 < d → Nearest n d r → Nearest n d s → r ≡ s
nearest_is_one = nearest.nearest_is_one

pub weight_most : (r2 d2 : ℕ) → weight r2 d2 ≤ scale
weight_most = weights.weight_most

pub weight_at_station : (r2 : ℕ) → 0 < r2 → weight r2 0 ≡ scale
weight_at_station = weights.weight_at_station

pub weight_beyond : (r2 d2 : ℕ) → r2 ≤ d2 → weight r2 d2 ≡ 0
weight_beyond = weights.weight_beyond

pub weight_never_rises : (r2 d2 farther : ℕ) → d2 ≤ farther → weight r2 farther ≤ weight r2 d2
weight_never_rises = weights.weight_never_rises

-- beside document 01's weight in hundredths, the whole part of 100(R² - d2)/(R² + d2): finer, and nowhere coarser
pub weight_over_100_is_in_hundredths : (r2 d2 : ℕ) → weight r2 d2 / 100 ≡ 100 * (r2 - d2) / (r2 + d2)
weight_over_100_is_in_hundredths = fineness.weight_over_100_is_in_hundredths

pub weighed_in_hundredths_weighs : (r2 d2 : ℕ) → 0 < 100 * (r2 - d2) / (r2 + d2) → 0 < weight r2 d2
weighed_in_hundredths_weighs = fineness.weighed_in_hundredths_weighs

pub inside_70_weighs : (radius d2 : ℕ) → radius ≤ 70 → d2 < radius * radius → 0 < weight (radius * radius) d2
inside_70_weighs = fineness.inside_70_weighs

pub rim_of_64_weighs : (d2 : ℕ) → 4015 ≤ d2 → d2 ≤ 4095 → (100 * (64 * 64 - d2) / (64 * 64 + d2) ≡ 0) × (0 < weight (64 * 64) d2)
rim_of_64_weighs = fineness.rim_of_64_weighs

pub rim_of_64_is_told_apart : (100 * (64 * 64 - 3969) / (64 * 64 + 3969) ≡ 100 * (64 * 64 - 3985) / (64 * 64 + 3985))
    × (weight (64 * 64) 3985 < weight (64 * 64) 3969)
rim_of_64_is_told_apart = fineness.rim_of_64_is_told_apart

-- along the wind, in either mode: w a station's wind, dx and dy its offset from the point
module _ (mode r2 : ℕ) (w : Wind) (dx dy : ℤ) where
  pub weight_lies_in_the_scale : weight_at mode r2 w dx dy ≤ scale
  weight_lies_in_the_scale = streaks.weight_lies_in_the_scale mode r2 w dx dy

  pub wind_never_weakens : weight r2 (square dx + square dy) ≤ weight_at mode r2 w dx dy
  wind_never_weakens = streaks.wind_never_weakens mode r2 w dx dy

  pub across_the_wind_is_round : w.u *ℤ dx +ℤ w.v *ℤ dy ≡ pos 0 → weight_at mode r2 w dx dy ≡ weight r2 (square dx + square dy)
  across_the_wind_is_round = streaks.across_the_wind_is_round mode r2 w dx dy

  pub turned_wind_weighs_alike : nat_abs w.u ≤ 100 → nat_abs w.v ≤ 100
      → weight_at mode r2 (record { u = neg_ℤ w.u; v = neg_ℤ w.v }) dx dy ≡ weight_at mode r2 w dx dy
  turned_wind_weighs_alike u v = streaks.turned_wind_weighs_alike mode r2 w dx dy (u, v)

  pub stronger_wind_weighs_alike : (k : ℤ) → 0 < nat_abs k → nat_abs w.u ≤ 100 → nat_abs w.v ≤ 100
      → nat_abs (k *ℤ w.u) ≤ 100 → nat_abs (k *ℤ w.v) ≤ 100
      → weight_at mode r2 (record { u = k *ℤ w.u; v = k *ℤ w.v }) dx dy ≡ weight_at mode r2 w dx dy
  stronger_wind_weighs_alike k some u v ku kv = streaks.stronger_wind_weighs_alike k some w dx dy mode r2 (u, v) (ku, kv)

-- the request with a wind for each wind, and with that mode
abbrev with_winds : (mode : ℕ) → (Wind → Wind) → Request → Request
with_winds mode f q =
    asking q.nx q.ny q.first_guess
    (map (λ s. record { x = s.x; y = s.y; value = s.value; observed = s.observed; from = s.from; until = s.until; wind = f s.wind }) q.stations)
    q.plan.scans q.plan.radius q.plan.limit q.plan.smooth mode q.plan.rule q.plan.buddies q.T q.A

-- two requests in mode 0 that are unlike in their winds alone
module _ (p q : Request) (round : p.plan.mode ≡ 0) (round' : q.plan.mode ≡ 0) (same : with_winds 0 (λ w. no_wind) p ≡ with_winds 0 (λ w. no_wind) q) where
  pub in_mode_0_no_wind_changes_any_analysis : analysis p ≡ analysis q
  in_mode_0_no_wind_changes_any_analysis = winds.in_mode_0_no_wind_changes_any_analysis p q round round' same

  pub in_mode_0_no_wind_changes_any_window : (w : Window) → whole_at p w ≡ whole_at q w
  in_mode_0_no_wind_changes_any_window = winds.in_mode_0_no_wind_changes_any_window p q round round' same

pub without_winds_every_mode_is_round : (q : Request) (mode : ℕ) → All (λ s. is_no_wind s.wind ≡ true) q.stations
    → analysis (with_winds mode (λ w. w) q) ≡ analysis q
without_winds_every_mode_is_round = winds.without_winds_every_mode_is_round

pub stronger_winds_change_no_answer : (q : Request) (k : ℤ) → 0 < nat_abs k
    → All (λ s. is_no_wind s.wind ≡ false → ((nat_abs s.wind.u ≤ 100) × (nat_abs s.wind.v ≤ 100)) × ((nat_abs (k *ℤ s.wind.u) ≤ 100) × (nat_abs (k *ℤ s.wind.v) ≤ 100))) q.stations
    → analysis (with_winds q.plan.mode (λ w. cond (is_no_wind w) w (record { u = k *ℤ w.u; v = k *ℤ w.v })) q) ≡ analysis q
stronger_winds_change_no_answer = winds.stronger_winds_change_no_answer

pub turned_winds_change_no_answer : (c : Call) (grid support verdict : ℕ) → analysis_refusal c grid support verdict ≡ accepted
    → analysis (with_winds c.plan.mode (λ w. cond (is_no_wind w) w (record { u = neg_ℤ w.u; v = neg_ℤ w.v })) (asked c)) ≡ analysis (asked c)
turned_winds_change_no_answer = winds.turned_winds_change_no_answer

-- ---- the lone-station rule, old and new: in every mode

pub rule_1_is_document_01 : (s : Sums) → correction 1 s ≡ cond (eqb s.weights 0) (pos 0) (rounded s.pulls s.weights)
rule_1_is_document_01 = lones.rule_1_is_document_01

-- the same request under another rule
abbrev with_rule : ℕ → Request → Request
with_rule rule q =
    asking q.nx q.ny q.first_guess q.stations q.plan.scans q.plan.radius q.plan.limit q.plan.smooth q.plan.mode rule q.plan.buddies q.T q.A

-- from the state that a scan finds
module _ (q : Request) (rule m : ℕ) (found : State) where
  pub rules_judge_alike : rows_judged (with_rule rule q) m found ≡ rows_judged q m found
  rules_judge_alike = lones.rules_judge_alike q rule m found

  pub rules_support_alike : (scan (with_rule rule q) m found).support ≡ (scan q m found).support
  rules_support_alike = lones.rules_support_alike q rule m found

  -- of an accepted row: its station strictly inside the radius at point (i, j), and its weight there
  abbrev inside_at : (i j : ℕ) → Row → Bool
  inside_at i j r = is_accepted r.verdict && inside (R q.plan m * R q.plan m) (r.station.x -ℤ pos (step * i)) (r.station.y -ℤ pos (step * j))

  abbrev weighs : (i j : ℕ) → Row → ℕ
  weighs i j r =
      weight_at q.plan.mode (R q.plan m * R q.plan m) r.station.wind (r.station.x -ℤ pos (step * i)) (r.station.y -ℤ pos (step * j))

  -- the accepted stations strictly inside, whatever their weight
  pub inside_is_how_many : (i j : ℕ) → (sums_at q m found i j).inside ≡ length (keep (inside_at i j) (rows_judged q m found))
  unfolding sums_at
  inside_is_how_many i j = lones.inside_is_how_many q.plan.mode (R q.plan m) (differences q found) i j (rows_judged q m found)

  -- before smoothing the rules differ only where exactly one is inside
  pub rules_differ_only_where_one_is_inside : (i j : ℕ) → eqb (sums_at q m found i j).inside 1 ≡ false → corrected (with_rule rule q) m found i j ≡ corrected q m found i j
  rules_differ_only_where_one_is_inside = lones.rules_differ_only_where_one_is_inside q rule m found

  -- there under rule 2 the point moves by that station's weight·D over the scale, which has the sign of D and at most its size, and under rule 1 by all
  -- of D, if it has weight
  pub lone_station_moves_alone : (i j : ℕ) → eqb (sums_at q m found i j).inside 1 ≡ true
      → Some (λ r. let D = differences q found r.station in let c = correction 2 (sums_at q m found i j) in
      (inside_at i j r ≡ true) × ((sums_at q m found i j).weights ≡ weighs i j r) × (c ≡ rounded (pos (weighs i j r) *ℤ D) 10000)
      × ((le_z (pos 0) D ≡ true → (le_z (pos 0) c && le_z c D) ≡ true) × (le_z D (pos 0) ≡ true → (le_z D c && le_z c (pos 0)) ≡ true))
      × (0 < weighs i j r → correction 1 (sums_at q m found i j) ≡ D)) (rows_judged q m found)
  lone_station_moves_alone i j e =
      some_also (lones.MovesAlone q rule m found i j) _ (λ r a. (a.accepted_inside, a.weight, a.by_its_weight, a.toward_D, a.by_all_of_D))
      (lones.lone_station_moves_alone q rule m found i j e)

-- at the station itself its weight is the whole scale, and there the rules agree
pub at_the_station_weighs_all : (mode r2 : ℕ) (w : Wind) → 0 < r2 → weight_at mode r2 w (pos 0) (pos 0) ≡ scale
at_the_station_weighs_all = streaks.at_the_station_weighs_all

pub rules_agree_at_the_whole_scale : (rule rule' : ℕ) (s : Sums) → s.weights ≡ scale → correction rule s ≡ correction rule' s
rules_agree_at_the_whole_scale = lones.rules_agree_at_the_whole_scale

pub of_one_scan_the_rules_support_and_judge_alike : (q : Request) (rule : ℕ) → q.plan.scans ≡ 1
    → ((analysis (with_rule rule q)).support ≡ (analysis q).support) × ((analysis (with_rule rule q)).verdict ≡ (analysis q).verdict)
of_one_scan_the_rules_support_and_judge_alike = lones.of_one_scan_the_rules_support_and_judge_alike

pub where_no_station_is_lone_the_rules_answer_alike : (q : Request) (rule : ℕ) → 2 ≤ q.nx → 2 ≤ q.ny
    → ((m i j : ℕ) → m < q.plan.scans → i < q.nx → j < q.ny → eqb (sums_at q m (after q m) i j).inside 1 ≡ false)
    → analysis (with_rule rule q) ≡ analysis q
where_no_station_is_lone_the_rules_answer_alike = lones.where_no_station_is_lone_the_rules_answer_alike

-- ---- the buddy check

-- judged at once: the rows after the stations of a list have been judged one by one, each against the same survivors, its last first
module _ (p : Plan) (m : ℕ) (D : Station → ℤ) (rows : List Row) where
  unfoldable pub one_by_one : List ℕ → List Row
  one_by_one [] = all_tested p m D rows
  one_by_one (n ∷ ns) =
      set (one_by_one ns) n (beside_others (m + 1) (B p) (L p) D (get_or (all_tested p m D rows) n no_row) (without n (all_tested p m D rows)))

  same_one_by_one : (ns : List ℕ) → one_by_one ns ≡ buddies.one_by_one p m D rows ns
  unfolding one_by_one buddies.one_by_one
  same_one_by_one [] = refl
  same_one_by_one (n ∷ ns) = rw (same_one_by_one ns)

  -- in whatever order all are judged, it comes to the same
  pub judged_at_once : (ns : List ℕ) → ((k : ℕ) → k < length rows → Some (λ n. n ≡ k) ns) → one_by_one ns ≡ all_judged p m D rows
  judged_at_once ns all = same_one_by_one ns ∙ buddies.judged_at_once p m D rows ns all

-- a scan and a run as the landing before had them, by the E test alone
unfoldable pub scan_before : Request → (m : ℕ) → State → State
scan_before q m found =
    let D = differences q found in
    let rows = all_tested q.plan m D found.rows in
    let at : ℕ → ℕ → Sums = λ i j. total nothing plus (share q.plan.mode (R q.plan m) D i j) rows in
    let z : ℕ → ℕ → ℤ = λ i j. found.field i j +ℤ correction q.plan.rule (at i j) in
    record { field = cond q.plan.smooth (smoothed q.nx q.ny z) z; support = λ i j. backed_by m (at i j) (found.support i j); rows = rows }

unfoldable pub before : Request → ℕ → State
before q zero = start most_beyond q
before q (suc m) = scan_before q m (before q m)

same_before : (q : Request) (m : ℕ) → check.before q m ≡ before q m
unfolding before check.before scan_before check.scan_before
same_before q zero = refl
same_before q (suc m) = rw (same_before q m)

-- with the check off every answer is that of the landing before: of the analysis, of a window, refused, and how far a window is widened
module _ (q : Request) (off : q.plan.buddies.on ≡ false) where
  pub off_analyses_as_before : analysis q
      ≡ (let s = before q q.plan.scans in record { grid = stored q.nx q.ny s.field; support = stored q.nx q.ny s.support; verdict = map (λ r. r.verdict) s.rows })
  off_analyses_as_before = rw (← same_before q q.plan.scans) (buddies.off_analyses_as_before q off)

  pub off_answers_windows_as_before : (w : Window) → whole_at q w
      ≡ (let s = before q q.plan.scans in record { grid = window_of w s.field; support = window_of w s.support })
  off_answers_windows_as_before w = rw (← same_before q q.plan.scans) (buddies.off_answers_windows_as_before q off w)

  pub off_refuses_as_before : in_order (from_five q)
      ≡ in_order (refused_if 5 (bad_scans q.plan) ∷ refused_at 6 (first q.plan.scans (bad_scan q.plan)) ∷ refused_at 7 (first_in bad_guess q.first_guess) ∷ refused_at 8 (first_in bad_station q.stations) ∷ [])
  off_refuses_as_before = buddies.off_refuses_as_before q off

  pub off_reaches_as_before : (m : ℕ) → steps q.plan m ≡ (R q.plan m + (step - 1)) / step + cond q.plan.smooth 1 0
  off_reaches_as_before = buddies.off_reaches_as_before q off

-- and neither B nor L is read
pub off_neither_is_read : (q : Request) → q.plan.buddies.on ≡ false → (b : Buddies) → b.on ≡ false
    → analysis (asking q.nx q.ny q.first_guess q.stations q.plan.scans q.plan.radius q.plan.limit q.plan.smooth q.plan.mode q.plan.rule b q.T q.A) ≡ analysis q
off_neither_is_read = buddies.off_neither_is_read

-- row n and the others, as the E test of scan number m + 1 leaves them
abbrev tested_after : Request → (m n : ℕ) → Row
tested_after q m n = tested (m + 1) (E q.plan m) (differences q (after q m)) (row_after q m n)

abbrev others_of : Request → (m n : ℕ) → List Row
others_of q m n = without n (all_tested q.plan m (differences q (after q m)) (after q m).rows)

-- a survivor is set aside exactly if it has two neighbours at least, n of them, and n·D differs from their sum by more than n·L
pub set_aside_exactly_when_odd : (q : Request) (m n : ℕ) → (let D = differences q (after q m) in let s = (row_after q m n).station in let h = heard (B q.plan) D s (others_of q m n) in
    is_accepted (tested_after q m n).verdict ≡ true
    → (row_after q (suc m) n).verdict ≡ cond (leb 2 h.count && ltb (h.count * L q.plan) (nat_abs (pos h.count *ℤ D s -ℤ h.sum))) (20 + (m + 1)) 0)
unfolding is_odd
set_aside_exactly_when_odd = buddies.set_aside_exactly_when_odd

-- with fewer than two it is never set aside: the E test alone judges it
pub fewer_than_two_are_left_to_the_test : (q : Request) (m n : ℕ) → (heard (B q.plan) (differences q (after q m)) (row_after q m n).station (others_of q m n)).count < 2
    → row_after q (suc m) n ≡ tested_after q m n
fewer_than_two_are_left_to_the_test = buddies.fewer_than_two_are_left_to_the_test

-- who is set aside stays so and has no weight, in that scan and later, as every station that is rejected; and is no neighbour in later ones
pub set_aside_is_no_neighbour : (q : Request) (k n t : ℕ) → is_accepted (row_after q (suc k) n).verdict ≡ false → (radius scan limit : ℕ) (D : Station → ℤ) (s : Station)
    → says radius D s (tested scan limit D (row_after q (suc k + t) n)) ≡ silence
set_aside_is_no_neighbour = buddies.set_aside_is_no_neighbour

-- two survivors that agree, alone with a third, each within B of the others: the third is set aside if it differs by more than L, and the two if by more than 2L
module _ (scan radius limit : ℕ) (D : Station → ℤ) (a b c : Row) where
  abbrev IsNear : Row → Row → Type 0
  IsNear r o = (is_accepted o.verdict ≡ true) × (inside (radius * radius) (o.station.x -ℤ r.station.x) (o.station.y -ℤ r.station.y) ≡ true)

  pub two_that_agree_and_a_third : D a.station ≡ D b.station → IsNear a b → IsNear a c → IsNear b a → IsNear b c → IsNear c a → IsNear c b
      → (let apart = nat_abs (D a.station -ℤ D c.station) in
      map (λ r. r.verdict) (each (beside_others scan radius limit D) (a ∷ b ∷ c ∷ []))
      ≡ cond (ltb (2 * limit) apart) (20 + scan) 0 ∷ cond (ltb (2 * limit) apart) (20 + scan) 0 ∷ cond (ltb limit apart) (20 + scan) 0 ∷ [])
  two_that_agree_and_a_third = buddies.two_that_agree_and_a_third scan radius limit D a b c

pub gift_far : (mode radius : ℕ) (wind : Wind) (D dx dy : ℤ) → (radius ≤ nat_abs dx) ⊎ (radius ≤ nat_abs dy)
    → gift mode (radius * radius) wind D dx dy ≡ nothing
gift_far = gifts.gift_far

pub correction_at_most_E : (q : Request) (m : ℕ) (found : State) (i j : ℕ) → nat_abs (correction q.plan.rule (sums_at q m found i j)) ≤ E q.plan m
correction_at_most_E = bounds.correction_at_most_E

pub run_stays_within : (q : Request) (most limit : ℕ) → ((i j : ℕ) → nat_abs (guess q i j) ≤ most) → (n : ℕ) → ((m : ℕ) → m < n → E q.plan m ≤ limit)
    → (i j : ℕ) → nat_abs ((after q n).field i j) ≤ most + n * limit
run_stays_within = bounds.run_stays_within

pub accepted_run_stays_within : (c : Call) (grid support verdict : ℕ) → analysis_refusal c grid support verdict ≡ accepted
    → (m : ℕ) → m ≤ c.plan.scans → (i j : ℕ) → nat_abs ((after (asked c) m).field i j) ≤ 13000000
accepted_run_stays_within = bounds.accepted_run_stays_within

pub supported_exactly_where_a_mast_weighs : (q : Request) (m k i j : ℕ) → k < m
    → (eqb ((after q m).support i j / 2 ^ k % 2) 1 ≡ true)
    ↔ Some (λ r. (is_accepted r.verdict ≡ true) × (0 < weight_at q.plan.mode (R q.plan k * R q.plan k) r.station.wind (r.station.x -ℤ pos (step * i)) (r.station.y -ℤ pos (step * j))))
    (rows_judged q k (after q k))
unfolding bit
supported_exactly_where_a_mast_weighs = support.supported_exactly_where_a_mast_weighs

pub supported_in_hundredths_is_supported : (q : Request) (m k i j : ℕ) → k < m
    → Some (λ r. (is_accepted r.verdict ≡ true) × (0 < (let r2 = R q.plan k * R q.plan k in
    let d2 = square (r.station.x -ℤ pos (step * i)) + square (r.station.y -ℤ pos (step * j)) in 100 * (r2 - d2) / (r2 + d2))))
    (rows_judged q k (after q k))
    → eqb ((after q m).support i j / 2 ^ k % 2) 1 ≡ true
unfolding bit
supported_in_hundredths_is_supported = fineness.supported_in_hundredths_is_supported

pub unsupported_point_keeps_first_guess : (q : Request) → q.plan.smooth ≡ false → (i j m : ℕ) → (after q m).support i j ≡ 0 → (after q m).field i j ≡ guess q i j
unsupported_point_keeps_first_guess = support.unsupported_point_keeps_first_guess

pub smoothing_may_move_an_unsupported_point : ((at_end lone).support 1 1 ≡ 0) × (guess lone 1 1 ≡ pos 640) × ((at_end lone).field 1 1 ≡ pos 636)
smoothing_may_move_an_unsupported_point = examples.smoothing_may_move_an_unsupported_point

-- entries past the scan count: two plans that count as many scans and are equal up to there
module _ (q : Request) (p' : Plan) (scans : p'.scans ≡ q.plan.scans) (smooth : p'.smooth ≡ q.plan.smooth)
    (mode : p'.mode ≡ q.plan.mode) (rule : p'.rule ≡ q.plan.rule) (buddies : p'.buddies ≡ q.plan.buddies)
    (radii : (m : ℕ) → m < q.plan.scans → get_or p'.radius m (pos 0) ≡ get_or q.plan.radius m (pos 0))
    (limits : (m : ℕ) → m < q.plan.scans → get_or p'.limit m (pos 0) ≡ get_or q.plan.limit m (pos 0)) where
  abbrev other : Request
  other = asking q.nx q.ny q.first_guess q.stations p'.scans p'.radius p'.limit p'.smooth p'.mode p'.rule p'.buddies q.T q.A

  abbrev same : UpToCount q.plan p'
  same = record { scans = scans; smooth = smooth; mode = mode; rule = rule; buddies = buddies; radii = radii; limits = limits }

  pub entries_past_the_count_change_no_analysis : analysis other ≡ analysis q
  entries_past_the_count_change_no_analysis = entries.entries_past_the_count_change_no_analysis q p' same

  pub entries_past_the_count_change_no_reach : reach p' ≡ reach q.plan
  entries_past_the_count_change_no_reach = entries.entries_past_the_count_change_no_reach q p' same

  pub entries_past_the_count_change_no_refusal : q.plan.scans ≤ length q.plan.radius → q.plan.scans ≤ length q.plan.limit
      → q.plan.scans ≤ length p'.radius → q.plan.scans ≤ length p'.limit → from_five other ≡ from_five q
  entries_past_the_count_change_no_refusal = entries.entries_past_the_count_change_no_refusal q p' same

-- ---- readings and summaries: of any field of i32

module _ (nx ny : ℕ) (field : List ℤ) (x y : ℤ) (i32 : All (SFits w32) field) where
  abbrev sum : ℤ
  sum = sum_at nx ny (field_of (pos 0) nx field) (place nx x) (place ny y)

  pub reading_sum_size : 2 ≤ nx → 2 ≤ ny → nat_abs sum ≤ 2 ^ 43
  reading_sum_size = exactness.reading_sum_size nx ny field x y i32

  pub reading_value_exact : 2 ≤ nx → 2 ≤ ny → HasValue (double sum 262144) (negative sum) (nat_abs sum) 262144
  reading_value_exact h k = (exactness.reading_value_exact nx ny field x y i32 h k).value

  pub reading_exact : (support : List ℕ) → ReadsExactly (reading nx ny field support x y) sum
  reading_exact = exactness.reading_exact nx ny field x y i32

  pub zero_reading_is_positive : (support : List ℕ) → IsZero (value_of (reading nx ny field support x y)) → value_of (reading nx ny field support x y) ≡ positive_zero
  zero_reading_is_positive support = exactness.zero_reading_is_positive nx ny field support x y i32

module _ (nx ny : ℕ) (v : ℤ) (rest : List ℤ) (f : SFits w32 v) (r : All (SFits w32) rest) where
  pub summary_exact : bad_shape nx ny (length (v ∷ rest)) ≡ false
      → ((summary nx ny (v ∷ rest)).refusal ≡ 0) × ((summary nx ny (v ∷ rest)).place ≡ 0) × ExactUnits (summary nx ny (v ∷ rest)).units (lowest v rest) (highest v rest)
  summary_exact = exactness.summary_exact nx ny v f r

  pub span_size : (let span = highest v rest -ℤ lowest v rest in (span ≡ pos (nat_abs span)) × (nat_abs span ≤ 4294967295))
  span_size = exactness.span_size v f r

pub refused_summary_is_zeros : (nx ny : ℕ) (field : List ℤ) → bad_shape nx ny (length field) ≡ true
    → summary nx ny field ≡ record { refusal = 1; place = 0; units = record { lowest = positive_zero; highest = positive_zero; span = positive_zero } }
refused_summary_is_zeros = exactness.refused_summary_is_zeros

pub zero_summary_is_positive : (nx ny : ℕ) (field : List ℤ) → All (SFits w32) field → ZerosPositive (summary nx ny field).units
zero_summary_is_positive = exactness.zero_summary_is_positive

pub lowest_is_least : (v : ℤ) (rest : List ℤ) → All (λ w. le_z (lowest v rest) w ≡ true) (v ∷ rest)
lowest_is_least = exactness.lowest_is_least

pub highest_is_greatest : (v : ℤ) (rest : List ℤ) → All (λ w. le_z w (highest v rest) ≡ true) (v ∷ rest)
highest_is_greatest = exactness.highest_is_greatest

-- ---- texts

pub accepted_answer_is_short : (c : Call) (grid support verdict : ℕ) → analysis_refusal c grid support verdict ≡ accepted
    → length (analysis_text c.nx c.ny (analysis (asked c))) < 56000
accepted_answer_is_short = size.accepted_answer_is_short

pub printed_reads_back : (q : Request) → InRange q → request_lines (1, request_text q) ≡ reads q (suc (7 + q.plan.scans + cond q.plan.buddies.on 1 0 + q.ny) + length q.stations, [])
printed_reads_back = round.printed_reads_back

pub rule_1_may_be_left_out : (q : Request) → InRange q → q.plan.rule ≡ 1
    → request_lines (1, shorter_text q) ≡ reads q (suc (6 + q.plan.scans + cond q.plan.buddies.on 1 0 + q.ny) + length q.stations, [])
rule_1_may_be_left_out = round.rule_1_may_be_left_out

pub no_two_print_alike : (p q : Request) → InRange p → InRange q → request_text p ≡ request_text q → p ≡ q
no_two_print_alike = round.no_two_print_alike

-- ---- the paper's own cases, and the table of refusals, verdicts, readings and edges; what is taken out of these is noticed by the edits that they refuse

pub table : Table
table = tables.table

pub cases : Cases
cases = computed.cases

-- ---- the four cheats, on the paper's example with its scan once, twice, and twice with smoothing on, under either rule

module _ (rule : ℕ) (ruled : (1 ≤ rule) × (rule ≤ 2)) (found : Analysis) (long : (length found.grid ≡ 9) × (length found.support ≡ 9) × (length found.verdict ≡ 3))
    (answer answer' answer'' : ℕ) (left left' left'' : Analysis) (asked_once : Analyses (call_for (example rule 1 false)) found answer left)
    (asked_twice : Analyses (call_for (example rule 2 false)) found answer' left') (asked_smooth : Analyses (call_for (example rule 2 true)) found answer'' left'') where
  pub no_refusal : (answer ≡ 0) × (answer' ≡ 0) × (answer'' ≡ 0)
  no_refusal = cheats.no_refusal rule ruled found long answer answer' answer'' left left' left'' asked_once asked_twice asked_smooth

  pub not_the_first_guess : left.grid ≡ level → ⊥
  not_the_first_guess = cheats.not_the_first_guess rule ruled found long answer answer' answer'' left left' left'' asked_once asked_twice asked_smooth

  pub not_one_fixed_grid : left'.grid ≡ left.grid → ⊥
  not_one_fixed_grid = cheats.not_one_fixed_grid rule ruled found long answer answer' answer'' left left' left'' asked_once asked_twice asked_smooth

  pub not_one_scan_only : left'.grid ≡ stored 3 3 (after (example rule 2 false) 1).field → ⊥
  not_one_scan_only = cheats.not_one_scan_only rule ruled found long answer answer' answer'' left left' left'' asked_once asked_twice asked_smooth

  pub not_only_smoothed : left''.grid ≡ stored 3 3 (only_smoothed rule) → ⊥
  not_only_smoothed = cheats.not_only_smoothed rule ruled found long answer answer' answer'' left left' left'' asked_once asked_twice asked_smooth

  pub no_other_support : (left.support ≡ (once rule).support) × (left'.support ≡ (twice rule).support) × (left''.support ≡ (smooth rule).support)
  no_other_support = cheats.no_other_support rule ruled found long answer answer' answer'' left left' left'' asked_once asked_twice asked_smooth

  pub no_other_verdicts : (left.verdict ≡ (once rule).verdict) × (left'.verdict ≡ (twice rule).verdict) × (left''.verdict ≡ (smooth rule).verdict)
  no_other_verdicts = cheats.no_other_verdicts rule ruled found long answer answer' answer'' left left' left'' asked_once asked_twice asked_smooth

module _ (rule : ℕ) (ruled : (1 ≤ rule) × (rule ≤ 2)) (found : Tile) (long : (length found.grid ≡ 4) × (length found.support ≡ 4)) (answer answer' answer'' : ℕ) (left left' left'' : Tile)
    (asked_once : Queries (call_for (example rule 1 false)) corner found answer left) (asked_twice : Queries (call_for (example rule 2 false)) corner found answer' left')
    (asked_smooth : Queries (call_for (example rule 2 true)) corner found answer'' left'') where
  pub window_no_refusal : (answer ≡ 0) × (answer' ≡ 0) × (answer'' ≡ 0)
  window_no_refusal = cheats.window_no_refusal rule ruled found long answer answer' answer'' left left' left'' asked_once asked_twice asked_smooth

  pub window_not_the_first_guess : left.grid ≡ tab 4 (λ p. pos 640) → ⊥
  window_not_the_first_guess = cheats.window_not_the_first_guess rule ruled found long answer answer' answer'' left left' left'' asked_once asked_twice asked_smooth

  pub window_not_one_fixed_grid : left'.grid ≡ left.grid → ⊥
  window_not_one_fixed_grid = cheats.window_not_one_fixed_grid rule ruled found long answer answer' answer'' left left' left'' asked_once asked_twice asked_smooth

  pub window_not_one_scan_only : left'.grid ≡ window_of corner (after (example rule 2 false) 1).field → ⊥
  window_not_one_scan_only = cheats.window_not_one_scan_only rule ruled found long answer answer' answer'' left left' left'' asked_once asked_twice asked_smooth

  pub window_not_only_smoothed : left''.grid ≡ window_of corner (only_smoothed rule) → ⊥
  window_not_only_smoothed = cheats.window_not_only_smoothed rule ruled found long answer answer' answer'' left left' left'' asked_once asked_twice asked_smooth

  pub window_no_other_support : (left.support ≡ corner_once.support) × (left'.support ≡ corner_twice.support) × (left''.support ≡ (corner_smooth rule).support)
  window_no_other_support = cheats.window_no_other_support rule ruled found long answer answer' answer'' left left' left'' asked_once asked_twice asked_smooth

module _ (rule : ℕ) (ruled : (1 ≤ rule) × (rule ≤ 2)) (found left left' left'' : List ℕ) (bytes bytes' bytes'' : ℕ) (asked_once : Replies (once_text rule) found bytes left)
    (asked_twice : Replies (twice_text rule) found bytes' left') (asked_smooth : Replies (smooth_text rule) found bytes'' left'') where
  pub text_no_refusal : (first_two_lines left ≡ ascii "refusal=0\nplace=0\n") × (first_two_lines left' ≡ ascii "refusal=0\nplace=0\n") × (first_two_lines left'' ≡ ascii "refusal=0\nplace=0\n")
  text_no_refusal = cheats.text_no_refusal rule ruled found left left' left'' bytes bytes' bytes'' asked_once asked_twice asked_smooth

  pub text_not_the_first_guess : row_lines left ≡ shown level → ⊥
  text_not_the_first_guess = cheats.text_not_the_first_guess rule ruled found left left' left'' bytes bytes' bytes'' asked_once asked_twice asked_smooth

  pub text_not_one_fixed_grid : row_lines left' ≡ row_lines left → ⊥
  text_not_one_fixed_grid = cheats.text_not_one_fixed_grid rule ruled found left left' left'' bytes bytes' bytes'' asked_once asked_twice asked_smooth

  pub text_not_one_scan_only : row_lines left' ≡ shown (stored 3 3 (after (example rule 2 false) 1).field) → ⊥
  text_not_one_scan_only = cheats.text_not_one_scan_only rule ruled found left left' left'' bytes bytes' bytes'' asked_once asked_twice asked_smooth

  pub text_not_only_smoothed : row_lines left'' ≡ shown (stored 3 3 (only_smoothed rule)) → ⊥
  text_not_only_smoothed = cheats.text_not_only_smoothed rule ruled found left left' left'' bytes bytes' bytes'' asked_once asked_twice asked_smooth

  pub text_no_other_support : (sup_lines left ≡ ascii "sup=1,1,1\nsup=1,1,1\nsup=1,1,1\n") × (sup_lines left' ≡ ascii "sup=3,3,3\nsup=3,3,3\nsup=3,3,3\n")
      × (sup_lines left'' ≡ ascii "sup=3,3,3\nsup=3,3,3\nsup=3,3,3\n")
  text_no_other_support = cheats.text_no_other_support rule ruled found left left' left'' bytes bytes' bytes'' asked_once asked_twice asked_smooth

  pub text_no_other_verdicts : (ver_line left ≡ ascii "ver=0,0,2\n") × (ver_line left' ≡ ascii "ver=0,0,2\n") × (ver_line left'' ≡ ascii "ver=0,0,2\n")
  text_no_other_verdicts = cheats.text_no_other_verdicts rule ruled found left left' left'' bytes bytes' bytes'' asked_once asked_twice asked_smooth
