-- DEMAND 3: windows agree with the whole. The window theorem (Locality), of the scheme of documents 01 and 02 (Cressman), for every accepted
-- request and every window on its grid.
use Rattle.std.specs.Prelude.{ℕ, ◌+◌, ◌-◌, ◌*◌, ◌≤◌, ◌<◌, ◌≡◌, true, false, cond, List, map, length, get_or, ℤ, pos}
use Rattle.std.proofs.Common.{arith, ap, ◌∙◌, leb-true}
use Rattle.std.proofs.Math.Path.{sym}
use Rattle.std.proofs.lemmas.List.{length-map}
use Rattle.std.proofs.Math.ListN.{get_or-map}
use Rattle.lists.specs.Tests.{and_true}
use Rattle.scheme.specs.Units.{Field, stored, field_of, step, Station, Plan, R, B, Request, guess, Call, asked}
use Rattle.scheme.specs.Refusals.{accepted, Window, bad_window, points_along, analysis_refusal}
use Rattle.scheme.specs.Value.{place}
use Rattle.scheme.specs.Difference.{Row}
use Rattle.scheme.specs.Scan.{sums_at, after, analysis}
use Rattle.scheme.specs.Reach.{steps, reach, widened, cut_of, on_span, on_window, window_of, cut}
use Rattle.scheme.specs.Accepted.{Sound, OnGrid}
use Rattle.scheme.proofs.Accepted.{on-grid, analysis_sound}
use Rattle.scheme.proofs.Stored.{place_in, length-stored, field_stored}
use Rattle.scheme.proofs.Lengths.{verdict_long}
use Rattle.scheme.specs.Axes.{off, len}
use Rattle.scheme.proofs.Laws.{States, Run}
use Rattle.scheme.specs.Near.{Side, Spot}
use Rattle.scheme.proofs.Near.{cut_along, spot_on}
use Rattle.scheme.proofs.Gathered.{Near, Twin}
use Rattle.scheme.proofs.Locality.{agree_inside, Runs, Alike, run_alike, twin_row, stations_stay}
use Rattle.scheme.specs.Cut.{row_in_cut}
use Rattle.scheme.proofs.Cut.{across, down, window_row, cut_sound, cut_accepted}
use Rattle.scheme.proofs.Cressman.{cressman, states, run, span_on, cressman_laws}
use Rattle.scheme.specs.Windows.{Agrees, OfWindow, place_in_cut}

-- ---- what it says

-- ---- how it follows

-- the steps of a scan cover its radius, and one more for smoothing
steps_enough : (p : Plan) (m : ℕ) → R p m + B p + step * cond p.smooth 1 0 ≤ step * steps p m
unfolding steps
steps_enough p m = omega arith

-- a place on the window is at no distance from it
span_spot : (v : Side) (x : ℤ) → on_span v.n v.window x ≡ true → Spot v 0 (place v.n x)
unfolding on_span
span_spot v x e =
    let (l, h) = and_true _ _ e in
    let low = leb-true (step * v.window.first) (place v.n x) l in
    let high = leb-true (place v.n x) (step * v.window.last) h in
    record { low = omega (arith, low); high = omega (arith, high) }

-- and so on the cut
span_keeps : (v : Side) (x : ℤ) → on_span v.n v.window x ≡ true → on_span v.n (widened v.wider v.n v.window) x ≡ true
span_keeps v x e = span_on (cut_along v) x (spot_on v 0 x (omega arith) (span_spot v x e))

module _ (q : Request) (w : Window) (sound : Sound q) (on : OnGrid q.nx q.ny w) where
  abbrev wide : Side
  wide = across q w sound on

  abbrev tall : Side
  tall = down q w sound on

  -- the run of the cut is one of the same scheme
  abbrev part : States (cressman q)
  part =
      record {
        field = λ m. (after (cut q w) m).field;
        support = λ m. (after (cut q w) m).support;
        rows = λ m. (after (cut q w) m).rows;
        sums = λ m. sums_at (cut q w) m (after (cut q w) m);
      }

  cut_runs : Run (cressman q) (len (cut_along wide)) (len (cut_along tall)) (guess (cut q w)) (cut q w).stations part
  cut_runs = unfold cut in run (cut q w)

  same_guess : (i j : ℕ) → i < len (cut_along wide) → j < len (cut_along tall)
      → guess q (i + off (cut_along wide)) (j + off (cut_along tall)) ≡ guess (cut q w) i j
  same_guess i j hi hj =
      unfold guess cut window_of in
      sym (field_stored (points_along (cut_of q w).columns) (points_along (cut_of q w).rows) (pos 0)
      (λ i j. guess q (i + (cut_of q w).columns.first) (j + (cut_of q w).rows.first)) i j hi hj)

  abbrev both : Runs (cressman q) wide tall
  both =
      record {
        law = cressman_laws q;
        guess = guess q;
        guess' = guess (cut q w);
        same_guess = same_guess;
        stations = q.stations;
        whole = states q;
        whole_runs = run q;
        part = part;
        part_runs = unfold cut in cut_runs;
      }

  alike : Alike (cressman q) wide tall both 0 q.plan.scans
  alike =
      run_alike (cressman q) wide tall both (steps q.plan) (steps_enough q.plan) q.plan.scans 0
      (unfold reach in omega arith) (unfold reach in omega arith)

  pub window_value : (i j : ℕ) → OfWindow w i j
      → (after (cut q w) q.plan.scans).field (i - (cut_of q w).columns.first) (j - (cut_of q w).rows.first) ≡ (after q q.plan.scans).field i j
  window_value i j h =
      agree_inside wide tall (after q q.plan.scans).field (after (cut q w) q.plan.scans).field alike.fields i j
      (record { low = h.left; high = h.right }) (record { low = h.top; high = h.bottom })

  pub window_support : (i j : ℕ) → OfWindow w i j
      → (after (cut q w) q.plan.scans).support (i - (cut_of q w).columns.first) (j - (cut_of q w).rows.first) ≡ (after q q.plan.scans).support i j
  window_support i j h =
      agree_inside wide tall (after q q.plan.scans).support (after (cut q w) q.plan.scans).support alike.supports i j
      (record { low = h.left; high = h.right }) (record { low = h.top; high = h.bottom })

  -- ---- the same of the stored lists

  on_cut : (i j : ℕ) → OfWindow w i j → (i - (cut_of q w).columns.first < (cut q w).nx) × (j - (cut_of q w).rows.first < (cut q w).ny)
  unfolding cut widened
  on_cut i j h = (omega (arith, h.left, h.right, on.right), omega (arith, h.top, h.bottom, on.bottom))

  on_whole : (i j : ℕ) → OfWindow w i j → (i < q.nx) × (j < q.ny)
  on_whole i j h = (omega (arith, h.right, on.right), omega (arith, h.bottom, on.bottom))

  stored_inside : {A : Type 0} (f : Field A) (i j : ℕ) → OfWindow w i j → place_in_cut q w i j < length (stored (cut q w).nx (cut q w).ny f)
  stored_inside f i j h =
      let (x, y) = on_cut i j h in
      rw (length-stored (cut q w).nx (cut q w).ny f) (place_in (cut q w).nx (cut q w).ny (i - (cut_of q w).columns.first) (j - (cut_of q w).rows.first) x y)

  stored_agrees : {A : Type 0} (past : A) (f g : Field A) (i j : ℕ) → OfWindow w i j → f (i - (cut_of q w).columns.first) (j - (cut_of q w).rows.first) ≡ g i j
      → get_or (stored (cut q w).nx (cut q w).ny f) (place_in_cut q w i j) past ≡ get_or (stored q.nx q.ny g) (j * q.nx + i) past
  unfolding field_of
  stored_agrees past f g i j h e =
      let (x, y) = on_cut i j h in
      let (x', y') = on_whole i j h in
      field_stored (cut q w).nx (cut q w).ny past f (i - (cut_of q w).columns.first) (j - (cut_of q w).rows.first) x y
      ∙ e ∙ sym (field_stored q.nx q.ny past g i j x' y')

  -- ---- stations

  -- the cut keeps the stations of the window
  pub window_keeps : (s : Station) → on_window q.nx q.ny w s ≡ true → on_window q.nx q.ny (cut_of q w) s ≡ true
  window_keeps s e =
      let (x, y) = and_true _ _ e in
      rw (span_keeps wide s.x x, span_keeps tall s.y y)

  window_verdict : (k : ℕ) (o : Station) → k < length q.stations → on_window q.nx q.ny w (get_or q.stations k o) ≡ true
      → get_or (analysis (cut q w)).verdict (row_in_cut q w k) 0 ≡ get_or (analysis q).verdict k 0
  window_verdict k o l e =
      unfold analysis cut in
      (get_or-map (λ (r : Row). r.verdict) (after (cut q w) q.plan.scans).rows (row_in_cut q w k) past
      ∙ sym (twin.verdicts near)
      ∙ sym (get_or-map (λ (r : Row). r.verdict) (after q q.plan.scans).rows k past))
    where
      past : Row
      past = record { station = o; verdict = 0 }

      same : map (λ (r : Row). r.station) (after q q.plan.scans).rows ≡ q.stations
      same = stations_stay (cressman q) wide tall both q.plan.scans

      station_is : (get_or (after q q.plan.scans).rows k past).station ≡ get_or q.stations k o
      station_is =
          sym (get_or-map (λ (r : Row). r.station) (after q q.plan.scans).rows k past)
          ∙ ap (λ (ss : List Station). get_or ss k o) same

      here : on_window q.nx q.ny w (get_or (after q q.plan.scans).rows k past).station ≡ true
      here = rw station_is e

      near : Near (cressman q) wide tall (step * 0) (get_or (after q q.plan.scans).rows k past).station
      near = let (x, y) = and_true _ _ here in record { along_x = span_spot wide _ x; along_y = span_spot tall _ y }

      twin : Twin (cressman q) wide tall (step * 0) (get_or (after q q.plan.scans).rows k past) (get_or (after (cut q w) q.plan.scans).rows (row_in_cut q w k) past)
      twin =
          twin_row (cressman q) wide tall both q.plan.scans 0 alike past past k
          (omega (arith, sym (length-map (after q q.plan.scans).rows (λ (r : Row). r.station)) ∙ ap length same))
          (window_keeps (get_or (after q q.plan.scans).rows k past).station here)

-- ---- the theorem

pub agrees : (q : Request) (w : Window) → Sound q → OnGrid q.nx q.ny w → Agrees q w
unfolding analysis
agrees q w sound on =
    record {
      accepts = cut_accepted q w sound on;
      two_columns = (cut_sound q w sound on).shape.two_columns;
      two_rows = (cut_sound q w sound on).shape.two_rows;
      inside = λ i j h. (stored_inside q w sound on _ i j h, stored_inside q w sound on _ i j h);
      values = λ i j h. unfold cut in stored_agrees q w sound on (pos 0) _ _ i j h (window_value q w sound on i j h);
      supports = λ i j h. unfold cut in stored_agrees q w sound on 0 _ _ i j h (window_support q w sound on i j h);
      keeps = window_keeps q w sound on;
      rows = window_row q w;
      verdicts = λ k o l e. (
        rw (verdict_long (cut q w)) (window_row q w k o l (window_keeps q w sound on (get_or q.stations k o) e)).0,
        window_verdict q w sound on k o l e,
      );
    }

pub windows_agree_with_the_whole : (c : Call) (w : Window) (grid support verdict : ℕ) → analysis_refusal c grid support verdict ≡ accepted
    → bad_window c.nx c.ny w ≡ false → Agrees (asked c) w
windows_agree_with_the_whole c w grid support verdict e b = agrees (asked c) w (analysis_sound c grid support verdict e) (on-grid c.nx c.ny w b)
