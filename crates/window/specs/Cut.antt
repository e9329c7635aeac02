-- The cut as a request of its own, and the window on it.
use Rattle.std.specs.Prelude.{ℕ, ◌+◌, ◌-◌, ◌*◌, ◌≤◌, ◌<◌, ◌≡◌, refl, List, length, map, ℤ, pos}
use Rattle.std.proofs.Common.{arith, sym, ap, ap₂, subst, ◌∙◌}
use Rattle.lists.specs.Tab.{length-tab, get_or_tab}
use Rattle.lists.specs.Keep.{keep}
use Rattle.scheme.specs.Units.{most_side, most_stations, Field, stored, guess, Request}
use Rattle.scheme.specs.Refusals.{Span, Window, points_along}
use Rattle.scheme.specs.Scan.{at_end}
use Rattle.scheme.specs.Reach.{reach, widened, cut_of, window_of, on_window, counted, cut, whole_at}
use Rattle.scheme.specs.Accepted.{Stationed, no_station, Sound, FitsWindow, OnGrid}
use Rattle.scheme.proofs.Accepted.{same_shape}
use Rattle.scheme.proofs.Stored.{stored_same}
use Rattle.scheme.proofs.Cut.{cut_sound}
use Rattle.scheme.specs.Windows.{OfWindow}
use Rattle.scheme.proofs.Windows.{window_value, window_support}
use Rattle.request.specs.declared.Terms.{Terms}
use Rattle.request.specs.declared.Station.{Station as Row}
use Rattle.request.specs.Tables.{station_in, stations_in, request_in}
use Rattle.window_spans.specs.Spans.{Placed}
use Rattle.window_cut.specs.Kept.{KeepReady}
use Rattle.window_cut.specs.Part.{part_at, part_of, PartReady, part_ready}

-- ---- along one axis of n points: the window lies on the cut, and the cut on the grid

pub record Along (n : ℕ) (window cut : Span) : Type 0 where
  pub first : cut.first ≤ window.first
  pub ordered : window.first ≤ window.last
  pub last : window.last ≤ cut.last
  pub inside : cut.last < n

along : (wider n : ℕ) (window : Span) → window.first ≤ window.last → window.last < n → Along n window (widened wider n window)
unfolding widened
along wider n window o h = record { first = omega arith; ordered = o; last = omega arith; inside = omega arith }

-- the window, from the cut's first point on
abbrev pub moved : Span → Span → Span
moved cut window = record { first = window.first - cut.first; last = window.last - cut.first }

abbrev pub moved_on : Window → Window → Window
moved_on cut w = record { columns = moved cut.columns w.columns; rows = moved cut.rows w.rows }

-- it is as long
same_points : {n : ℕ} {window cut : Span} → Along n window cut → points_along (moved cut window) ≡ points_along window
same_points a = omega (arith, a.first, a.ordered)

-- ---- the cut of a sound request: what the work needs on the way

module _ {q : Request} (sound : Sound q) {w : Window} (on : OnGrid q.nx q.ny w) {here : Window} (e : here ≡ cut_of q w) where
  pub across : Along q.nx w.columns here.columns
  across = rw e (along (reach q.plan) q.nx w.columns on.across on.right)

  pub down : Along q.ny w.rows here.rows
  down = rw e (along (reach q.plan) q.ny w.rows on.down on.bottom)

  pub small : OnGrid most_side most_side here
  small =
      record {
        across = omega (arith, across.first, across.ordered, across.last);
        down = omega (arith, down.first, down.ordered, down.last);
        right = omega (arith, across.inside, sound.shape.few_columns);
        bottom = omega (arith, down.inside, sound.shape.few_rows);
      }

  pub guess_part : (m : ℕ) → m ≡ points_along here.columns * points_along here.rows
      → PartReady m (length q.first_guess) q.nx (part_at here)
  guess_part m long =
      part_ready sound.shape (omega (arith, across.first, across.ordered, across.last, across.inside))
      (omega (arith, down.first, down.ordered, down.last, down.inside)) m long

-- ---- the window on it

module _ (q : Request) (w : Window) (sound : Sound q) (on : OnGrid q.nx q.ny w) where
  abbrev x : Along q.nx w.columns (cut_of q w).columns
  x = along (reach q.plan) q.nx w.columns on.across on.right

  abbrev y : Along q.ny w.rows (cut_of q w).rows
  y = along (reach q.plan) q.ny w.rows on.down on.bottom

  window_same : {A : Type 0} (f g : Field A) → ((i j : ℕ) → OfWindow w i j → f (i - (cut_of q w).columns.first) (j - (cut_of q w).rows.first) ≡ g i j)
      → window_of (moved_on (cut_of q w) w) f ≡ window_of w g
  unfolding window_of
  window_same f g h = rw (same_points x, same_points y) (stored_same (points_along w.columns) (points_along w.rows) _ _ go)
    where
      go : (i j : ℕ) → i < points_along w.columns → j < points_along w.rows
          → f (i + (moved (cut_of q w).columns w.columns).first) (j + (moved (cut_of q w).rows w.rows).first) ≡ g (i + w.columns.first) (j + w.rows.first)
      go i j hi hj =
          let a : i + (w.columns.first - (cut_of q w).columns.first) ≡ i + w.columns.first - (cut_of q w).columns.first = omega (arith, x.first) in
          let b : j + (w.rows.first - (cut_of q w).rows.first) ≡ j + w.rows.first - (cut_of q w).rows.first = omega (arith, y.first) in
          rw (a, b)
          (h (i + w.columns.first) (j + w.rows.first)
          (record { left = omega arith; right = omega (arith, on.across); top = omega arith; bottom = omega (arith, on.down) }))

  -- DEMAND 3: the analysis of the cut gives the window the numbers of the whole grid
  pub cut_whole : whole_at (cut q w) (moved_on (cut_of q w) w) ≡ whole_at q w
  unfolding whole_at
  cut_whole =
      let v = window_same (at_end (cut q w)).field (at_end q).field (unfold cut in window_value q w sound on) in
      let b = window_same (at_end (cut q w)).support (at_end q).support (unfold cut in window_support q w sound on) in
      cc

-- ---- the cut as the code has it: its terms, a first guess, and stations

abbrev pub cut_terms : Terms → Window → Terms
cut_terms t c =
    record {
      nx = points_along c.columns;
      ny = points_along c.rows;
      scans = t.scans;
      entries = t.entries;
      smooth = t.smooth;
      mode = t.mode;
      rule = t.rule;
      buddies = t.buddies;
      time = t.time;
      age = t.age;
    }

module _ (t : Terms) (guessed : List ℤ) (stations : List Row) where
  abbrev whole : Request
  whole = request_in t guessed stations

  module _ (sound : Sound whole) {w : Window} (on : OnGrid t.nx t.ny w) {here : Window} (e : here ≡ cut_of whole w) where
    rows_long : length whole.stations ≡ length stations
    rows_long = length-tab (length stations) (station_in stations)

    pub keep_ready : KeepReady t.nx t.ny here stations
    keep_ready = record { shape = same_shape sound.shape _ refl; on = small sound on e; placed = placed }
      where
        station : (k : ℕ) → k < length stations → Stationed (station_in stations k)
        station k h = rw (← get_or_tab (length stations) (station_in stations) k no_station h) (sound.stations k (omega (arith, rows_long)))

        placed : (k : ℕ) → k < length stations → Placed (station_in stations k)
        placed k h = record { x = (station k h).x; y = (station k h).y }

    pub few_rows : length stations ≤ most_stations
    few_rows = omega (arith, rows_long, sound.few_stations)

    -- the request that the code makes of it, and the window on it
    module _ (kept : List Row) {part : List ℤ} {t' : Terms} {w' : Window}
        (first_guess : part ≡ stored (points_along here.columns) (points_along here.rows) (part_of (pos 0) t.nx (part_at here) guessed))
        (stays : stations_in kept ≡ map (counted here) (keep (on_window t.nx t.ny here) (stations_in stations)))
        (terms : t' ≡ cut_terms t here) (window : w' ≡ moved_on here w) where
      is_cut : request_in t' part kept ≡ cut whole w
      unfolding cut window_of guess
      is_cut = rw (terms, stays, first_guess, e)

      -- it is accepted, and answers the numbers of the whole grid
      pub cut_accepted : {grid support : ℕ} → FitsWindow w grid support
          → Sound (request_in t' part kept) × OnGrid t'.nx t'.ny w' × FitsWindow w' grid support
      cut_accepted fits =
          let x = across sound on e in
          let y = down sound on e in (
            subst Sound (sym is_cut) (cut_sound whole w sound on),
            rw (terms, window)
                (record {
                  across = omega (arith, x.ordered);
                  down = omega (arith, y.ordered);
                  right = omega (arith, x.first, x.ordered, x.last);
                  bottom = omega (arith, y.first, y.ordered, y.last);
                }),
            rw window
                (record { grid_long = rw (same_points x, same_points y) fits.grid_long; support_long = rw (same_points x, same_points y) fits.support_long }),
          )

      pub cut_answers : whole_at (request_in t' part kept) w' ≡ whole_at whole w
      cut_answers = ap₂ whole_at is_cut (window ∙ ap (λ (v : Window). moved_on v w) e) ∙ cut_whole whole w sound on
