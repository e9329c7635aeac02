-- The cut of an accepted request: which of its rows is which, and that it is itself an accepted request, with two columns and rows at least.
use Rattle.std.specs.Prelude.{ℕ, zero, suc, ◌+◌, ◌-◌, ◌*◌, ◌≤◌, ◌<◌, min, ◌≡◌, true, List, length, get_or, ℤ, pos, negsuc, ◌-ℤ◌}
use Rattle.std.proofs.Common.{arith, ap, ◌∙◌, leb-true}
use Rattle.std.proofs.Math.ListN.{length-map, get_or-map}
use Rattle.std.proofs.Math.IntN.{nat_abs}
use Rattle.integers.specs.Ring.{pos_minus}
use Rattle.integers.specs.Sizes.{size_minus}
use Rattle.lists.specs.Tests.{and_true}
use Rattle.lists.specs.Tab.{get_d_any}
use Rattle.lists.specs.Sums.{up_to}
use Rattle.lists.specs.Keep.{keep, length-keep, kept_from}
use Rattle.lists.proofs.Parted.{keep_at}
use Rattle.scheme.specs.Units.{most_value, step, Station, most_position, Plan, Request, guess}
use Rattle.scheme.specs.Refusals.{Span, Window, points_along}
use Rattle.scheme.specs.Value.{place}
use Rattle.scheme.specs.Reach.{steps, reach, cut_of, on_span, on_window, counted, window_of, cut}
use Rattle.scheme.specs.Accepted.{Shaped, Stationed, Planned, Sound, no_station, OnGrid}
use Rattle.scheme.specs.Calls.{Accepts}
use Rattle.scheme.proofs.Calls.{sound_accepted}
use Rattle.scheme.proofs.Stored.{length-stored, stored_all}
use Rattle.scheme.proofs.Bounds.{guess_within}
use Rattle.scheme.specs.Near.{Side}
use Rattle.scheme.proofs.Near.{cut_two, cut_inside}
use Rattle.scheme.specs.Cut.{row_in_cut}

-- ---- along each axis: the window, widened by the reach

-- the steps of the first scan are among the total
first_steps : (p : Plan) (n : ℕ) → 1 ≤ n → steps p 0 ≤ up_to 0 ◌+◌ n (steps p)
unfolding up_to
first_steps p zero l = absurd (omega arith)
first_steps p (suc zero) l = omega arith
first_steps p (suc (suc n)) l = omega (arith, first_steps p (suc n) (omega arith))

-- an accepted plan has a scan, and its radius is at least 1
pub reach_some : (p : Plan) → Planned p → 1 ≤ reach p
unfolding reach steps
reach_some p s = omega (arith, (s.scan 0 s.scans_some).radius_some, first_steps p p.scans s.scans_some)

module _ (q : Request) (w : Window) (sound : Sound q) (on : OnGrid q.nx q.ny w) where
  abbrev pub across : Side
  across =
      record {
        n = q.nx;
        window = w.columns;
        wider = reach q.plan;
        two = sound.shape.two_columns;
        ordered = on.across;
        inside = on.right;
        some = reach_some q.plan sound.plan;
      }

  abbrev pub down : Side
  down =
      record {
        n = q.ny;
        window = w.rows;
        wider = reach q.plan;
        two = sound.shape.two_rows;
        ordered = on.down;
        inside = on.bottom;
        some = reach_some q.plan sound.plan;
      }

-- ---- row k of the request, if the cut keeps it, is this row of the cut: as many of the rows before it are kept

module _ (q : Request) (w : Window) where
  abbrev pub kept_here : List Station
  kept_here = keep (on_window q.nx q.ny (cut_of q w)) q.stations

  -- the cut has a row for each kept station
  pub rows_cut : length (cut q w).stations ≡ length kept_here
  unfolding cut
  rows_cut = length-map kept_here (counted (cut_of q w))

  pub row_cut : (r : ℕ) (o : Station) → get_or (cut q w).stations r (counted (cut_of q w) o) ≡ counted (cut_of q w) (get_or kept_here r o)
  unfolding cut
  row_cut r o = get_or-map (counted (cut_of q w)) kept_here r o

  pub window_row : (k : ℕ) (o : Station) → k < length q.stations → on_window q.nx q.ny (cut_of q w) (get_or q.stations k o) ≡ true
      → (row_in_cut q w k < length (cut q w).stations)
      × (get_or (cut q w).stations (row_in_cut q w k) (counted (cut_of q w) o) ≡ counted (cut_of q w) (get_or q.stations k o))
  window_row k o l e =
      let (r, same) = keep_at (on_window q.nx q.ny (cut_of q w)) o q.stations k l e in
      (omega (arith, rows_cut), row_cut (row_in_cut q w k) o ∙ ap (counted (cut_of q w)) same)

-- ---- the cut of an accepted request is itself sound

-- a kept station stays in range
counted_small : (most n : ℕ) (c : Span) (x : ℤ) → on_span n c x ≡ true → nat_abs x ≤ most → nat_abs (x -ℤ pos (step * c.first)) ≤ most
unfolding on_span place
counted_small most n c (pos x) e h =
    let low = leb-true (step * c.first) (min x (step * (n - 1))) (and_true _ _ e).0 in
    rw (pos_minus x (step * c.first) (omega (arith, low))) (omega arith)
counted_small most n c (negsuc x) e h =
    let low = leb-true (step * c.first) 0 (and_true _ _ e).0 in
    omega (arith, low, size_minus (negsuc x) (pos (step * c.first)))

counted_stationed : (nx ny : ℕ) (w : Window) (s : Station) → on_window nx ny w s ≡ true → Stationed s → Stationed (counted w s)
unfolding counted
counted_stationed nx ny w s e t =
    let (x, y) = and_true _ _ e in
    record {
      value = t.value;
      x = counted_small most_position nx w.columns s.x x t.x;
      y = counted_small most_position ny w.rows s.y y t.y;
      served = t.served;
      wind = t.wind;
    }

module _ (q : Request) (w : Window) (sound : Sound q) (on : OnGrid q.nx q.ny w) where
  cut_shape : Shaped (cut q w).nx (cut q w).ny (length (cut q w).first_guess)
  cut_shape =
      let x = cut_two (across q w sound on) in
      let x' = cut_inside (across q w sound on) in
      let y = cut_two (down q w sound on) in
      let y' = cut_inside (down q w sound on) in
      unfold cut window_of in
      record {
        two_columns = omega arith;
        few_columns = omega (arith, sound.shape.few_columns);
        two_rows = omega arith;
        few_rows = omega (arith, sound.shape.few_rows);
        whole = length-stored (points_along (cut_of q w).columns) (points_along (cut_of q w).rows) _;
      }

  cut_guess : (k : ℕ) → nat_abs (get_or (cut q w).first_guess k (pos 0)) ≤ most_value
  unfolding cut window_of
  cut_guess k =
      stored_all (λ (v : ℤ). nat_abs v ≤ most_value) (pos 0) (points_along (cut_of q w).columns) (points_along (cut_of q w).rows)
      (λ i j. guess q (i + (cut_of q w).columns.first) (j + (cut_of q w).rows.first)) (omega arith) (λ i j. guess_within q sound _ _) k

  cut_station : (r : ℕ) → r < length (cut q w).stations → Stationed (get_or (cut q w).stations r no_station)
  cut_station r l =
      let f = kept_from (on_window q.nx q.ny (cut_of q w)) no_station q.stations r (omega (arith, rows_cut q w)) in
      rw (get_d_any (cut q w).stations r no_station (counted (cut_of q w) no_station) l, row_cut q w r no_station, f.same)
      (counted_stationed q.nx q.ny (cut_of q w) (get_or q.stations f.place no_station) f.kept (sound.stations f.place f.inside))

  pub cut_sound : Sound (cut q w)
  cut_sound =
      record {
        shape = cut_shape;
        few_stations = omega (arith, rows_cut q w, length-keep (on_window q.nx q.ny (cut_of q w)) q.stations, sound.few_stations);
        plan = unfold cut in sound.plan;
        first_guess = λ k h. cut_guess k;
        stations = cut_station;
      }

  -- and so an accepted request
  pub cut_accepted : Accepts (cut q w)
  cut_accepted = sound_accepted (cut q w) cut_sound
