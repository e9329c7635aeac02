-- One scan in code, on stored grids and stations, is one scan of the definitions.
use Rattle.std.specs.Prelude.{ℕ, ◌+◌, ◌*◌, ◌<◌, ◌^◌, ◌≡◌, ◌⊎◌, Bool, cond, List, map, eqb, ℤ, pos, ◌-ℤ◌}
use Rattle.std.proofs.Math.Path.{refl, sym, ap}
use Rattle.std.proofs.Common.{◌∙◌, inl, inr, eqb-true, eq-eqb}
use Rattle.std.proofs.Math.Logic.{⊎_elim}
use Rattle.std.proofs.Math.Bool.{true, false}
use Rattle.std.proofs.Math.ListN.{length, get_or}
use Rattle.lists.specs.Tests.{true_or_false}
use Rattle.lists.specs.Tab.{tab, length-tab, get_or_tab, map-tab, tab_same}
use Rattle.lists.specs.Sums.{up_to_same, total, total_tab}
use Rattle.lists.specs.Parted.{each}
use Rattle.lists.specs.Each.{without}
use Rattle.lists.proofs.Each.{each-tab, total_without}
use Rattle.scheme.specs.Units.{Field, stored, field_of, Station, R, E, B, L, Request}
use Rattle.scheme.specs.Units as units
use Rattle.scheme.specs.Verdicts.{on_grid, is_accepted}
use Rattle.scheme.specs.Rounding.{rounded}
use Rattle.scheme.specs.Value.{value_at}
use Rattle.scheme.specs.Difference.{difference, after_test, tested}
use Rattle.scheme.specs.Buddies.{Heard, silence, both, says, heard, after_buddies, beside_others}
use Rattle.scheme.proofs.Adding.{nothing_plus, plus_nothing, plus_assoc, silence_both, both_silence, both_assoc}
use Rattle.scheme.specs.Correction.{nothing, plus, share, backed_by}
use Rattle.scheme.specs.Smoothing.{smoothed}
use Rattle.scheme.specs.Scan.{State, differences, all_tested, all_judged, rows_judged, sums_at, scan}
use Rattle.scheme.specs.Scan as paper
use Rattle.scheme.specs.Accepted.{Shaped}
use Rattle.scheme.specs.Judging.{no_row}
use Rattle.scheme.proofs.Judging.{was_accepted, was_survivor}
use Rattle.scheme.specs.Stored.{Same}
use Rattle.scheme.proofs.Stored.{field_stored, stored_same, sum_same}
use Rattle.request.specs.declared.Terms.{Terms}
use Rattle.request.specs.declared.Station.{Station as Row}
use Rattle.request.specs.Tables.{station_in, plan_in, request_in}
use Rattle.scan_start.specs.Reached.{row_in, Holds}
use Rattle.scan_station.specs.Judge.{AcceptedHeard, differs, diff_of, diff_at, verdict_at}
use Rattle.scan_buddies.specs.Aside.{said, heard_at, aside_at}
use Rattle.scan_point.specs.Near.{Stations, stations_with, share_at, sums_over}
use Rattle.scan_point.specs.Pass.{corrected, backed}

-- the squared radius of scan m + 1
abbrev pub r2_in : Terms → ℕ → ℕ
r2_in t m = R (plan_in t) m * R (plan_in t) m

-- the verdicts after its E test
abbrev pub tested_in : Terms → List ℤ → List Row → (m : ℕ) → List ℤ → List ℕ → List ℕ
tested_in t guess stations m z st = tab (length stations) (verdict_at guess z t.nx t.ny stations st (m + 1) (E (plan_in t) m))

-- what that scan leaves in the slices, as its parts compute it
pub record Scanned (t : Terms) (guess : List ℤ) (stations : List Row) (m : ℕ) (z : List ℤ) (sup st : List ℕ) (z' : List ℤ) (sup' st' : List ℕ) (ds : List ℤ) : Type 0 where
  pub verdicts : st' ≡ tab (length stations) (aside_at (m + 1) (B (plan_in t)) (L (plan_in t)) stations (tested_in t guess stations m z st) ds)
  pub differences : (k : ℕ) → k < length stations → get_or ds k (pos 0) ≡ diff_at guess z t.nx t.ny stations st k
  pub supports : sup' ≡ stored t.nx t.ny (backed sup t.nx (stations_with t.mode stations st' ds) (r2_in t m) (2 ^ m))
  pub values : (f : Field ℤ) → Same t.nx t.ny (corrected t.rule z t.nx (stations_with t.mode stations st' ds) (r2_in t m)) f
      → z' ≡ stored t.nx t.ny (cond t.smooth (smoothed t.nx t.ny f) f)

-- ---- the tie

module _ (t : Terms) (guess : List ℤ) (stations : List Row) {len : ℕ} (shape : Shaped t.nx t.ny len) (m : ℕ) (s : State)
    (z : List ℤ) (sup st : List ℕ) (holds : Holds t stations s z sup st) (z' : List ℤ) (sup' st' : List ℕ) (ds : List ℤ)
    (did : Scanned t guess stations m z sup st z' sup' st' ds) where
  abbrev q : Request
  q = request_in t guess stations

  abbrev all : Stations
  all = stations_with t.mode stations st' ds

  abbrev D : ℕ → ℤ
  D k = differences q s (station_in stations k)

  same_field : Same t.nx t.ny (field_of (pos 0) t.nx z) s.field
  same_field i j hi hj = ap (λ (l : List ℤ). field_of (pos 0) t.nx l i j) holds.field ∙ field_stored t.nx t.ny (pos 0) s.field i j hi hj

  same_support : Same t.nx t.ny (field_of 0 t.nx sup) s.support
  same_support i j hi hj = ap (λ (l : List ℕ). field_of 0 t.nx l i j) holds.support ∙ field_stored t.nx t.ny 0 s.support i j hi hj

  -- any field that holds the same on the grid has the same value at a station
  same_value : (f g : Field ℤ) → Same t.nx t.ny f g → (o : Station) → value_at t.nx t.ny f o ≡ value_at t.nx t.ny g o
  unfolding value_at
  same_value f g h o = ap (λ (v : ℤ). rounded v 4096) (sum_same t.nx t.ny f g shape.two_columns shape.two_rows h _ _)

  same_difference : (k : ℕ) → differs guess z t.nx t.ny (station_in stations k) ≡ D k
  unfolding difference value_at units.guess
  same_difference k = ap (λ (v : ℤ). (station_in stations k).value -ℤ v) (go (on_grid t.nx t.ny _ _))
    where
      go : (on : Bool) → value_at t.nx t.ny (cond on (field_of (pos 0) t.nx z) (field_of (pos 0) t.nx guess)) (station_in stations k)
          ≡ value_at t.nx t.ny (cond on s.field (field_of (pos 0) t.nx guess)) (station_in stations k)
      go true = same_value (field_of (pos 0) t.nx z) s.field same_field (station_in stations k)
      go false = refl

  -- the rows after the E test
  abbrev st1 : List ℕ
  st1 = tested_in t guess stations m z st

  tested_verdict : (k : ℕ) → k < length stations → get_or st1 k 0 ≡ after_test (m + 1) (E (plan_in t) m) (D k) (get_or st k 0)
  tested_verdict k h = get_or_tab (length stations) _ k 0 h ∙ ap (λ (d : ℤ). after_test (m + 1) (E (plan_in t) m) d (get_or st k 0)) (same_difference k)

  tested_rows : all_tested (plan_in t) m (differences q s) s.rows ≡ tab (length stations) (row_in stations st1)
  tested_rows =
      ap (map (tested (m + 1) (E (plan_in t) m) (differences q s))) holds.rows
      ∙ map-tab (tested (m + 1) (E (plan_in t) m) (differences q s)) (length stations) (row_in stations st)
      ∙ tab_same (length stations) _ (row_in stations st1) (λ k h. unfold tested in (cc (tested_verdict k h)))

  -- a survivor was accepted before, and its difference is the paper's
  survived : (k : ℕ) → k < length stations → is_accepted (get_or st1 k 0) ≡ true → is_accepted (get_or st k 0) ≡ true
  survived k h e = was_accepted (m + 1) (E (plan_in t) m) (D k) (get_or st k 0) (sym (ap is_accepted (tested_verdict k h)) ∙ e)

  d_of : (k : ℕ) → k < length stations → is_accepted (get_or st1 k 0) ≡ true → get_or ds k (pos 0) ≡ D k
  unfolding diff_of
  d_of k h e = did.differences k h ∙ rw (survived k h e) (same_difference k)

  -- what it hears of the others
  same_said : (k j : ℕ) → j < length stations → cond (eqb j k) silence (says (B (plan_in t)) (differences q s) (station_in stations k) (row_in stations st1 j))
      ≡ said (B (plan_in t)) stations st1 ds k j
  unfolding says said
  same_said k j h = ⊎_elim (λ e. rw (d_of j h e)) (λ e. rw e) (true_or_false (is_accepted (get_or st1 j 0)))

  same_heard : (k : ℕ) → heard (B (plan_in t)) (differences q s) (station_in stations k) (without k (tab (length stations) (row_in stations st1)))
      ≡ heard_at (B (plan_in t)) stations st1 ds k
  unfolding heard heard_at
  same_heard k =
      total_without silence both silence_both both_silence both_assoc (says (B (plan_in t)) (differences q s) (station_in stations k)) (length stations) k (row_in stations st1)
      ∙ up_to_same silence both (length stations) _ _ (same_said k)

  -- the rows after the buddy check
  new_verdict : (k : ℕ) → k < length stations → get_or st' k 0 ≡ after_buddies (m + 1) (L (plan_in t)) (D k) (heard_at (B (plan_in t)) stations st1 ds k) (get_or st1 k 0)
  new_verdict k h = ap (λ (l : List ℕ). get_or l k 0) did.verdicts ∙ get_or_tab (length stations) _ k 0 h ∙ unfold aside_at in go (true_or_false (is_accepted (get_or st1 k 0)))
    where
      neighbours : Heard
      neighbours = heard_at (B (plan_in t)) stations st1 ds k

      go : (is_accepted (get_or st1 k 0) ≡ true) ⊎ (is_accepted (get_or st1 k 0) ≡ false)
          → after_buddies (m + 1) (L (plan_in t)) (get_or ds k (pos 0)) neighbours (get_or st1 k 0) ≡ after_buddies (m + 1) (L (plan_in t)) (D k) neighbours (get_or st1 k 0)
      go (inl e) = rw (d_of k h e)
      go (inr e) = unfold after_buddies in rw e

  same_rows : rows_judged q m s ≡ tab (length stations) (row_in stations st')
  unfolding rows_judged all_judged
  same_rows =
      ap (each (beside_others (m + 1) (B (plan_in t)) (L (plan_in t)) (differences q s))) tested_rows
      ∙ each-tab (beside_others (m + 1) (B (plan_in t)) (L (plan_in t)) (differences q s)) no_row (length stations) (row_in stations st1)
      ∙ tab_same (length stations) _ (row_in stations st') (λ k h. unfold beside_others in (cc (same_heard k, new_verdict k h)))

  -- an accepted row was accepted before
  still : (k : ℕ) → k < length stations → is_accepted (get_or st' k 0) ≡ true → is_accepted (get_or st1 k 0) ≡ true
  still k h e = was_survivor (m + 1) (L (plan_in t)) (D k) _ (get_or st1 k 0) (sym (ap is_accepted (new_verdict k h)) ∙ e)

  pub scan_heard : AcceptedHeard stations st → AcceptedHeard stations st'
  scan_heard heard k h e = heard k h (eqb-true (get_or st k 0) 0 (survived k h (still k h (eq-eqb (get_or st' k 0) 0 e))))

  -- what a row gives to a point of the grid
  d_is : (k : ℕ) → k < length stations → is_accepted (get_or st' k 0) ≡ true → get_or ds k (pos 0) ≡ D k
  d_is k h e = d_of k h (still k h e)

  same_share : (i j k : ℕ) → k < length stations → share_at all (r2_in t m) i j k ≡ share t.mode (R (plan_in t) m) (differences q s) i j (row_in stations st' k)
  unfolding share_at share
  same_share i j k h = ⊎_elim (λ e. rw (d_is k h e)) (λ e. rw e) (true_or_false (is_accepted (get_or st' k 0)))

  same_sums : (i j : ℕ) → sums_over all (r2_in t m) i j ≡ sums_at q m s i j
  unfolding sums_over sums_at
  same_sums i j =
      up_to_same nothing plus (length stations) _ _ (same_share i j)
      ∙ sym (ap (total nothing plus (share t.mode (R (plan_in t) m) (differences q s) i j)) same_rows
      ∙ total_tab nothing plus nothing_plus plus_nothing plus_assoc (share t.mode (R (plan_in t) m) (differences q s) i j) (length stations) (row_in stations st'))

  same_corrected : Same t.nx t.ny (corrected t.rule z t.nx all (r2_in t m)) (paper.corrected q m s)
  unfolding corrected paper.corrected
  same_corrected i j hi hj = cc (same_field i j hi hj, same_sums i j)

  same_backed : Same t.nx t.ny (backed sup t.nx all (r2_in t m) (2 ^ m)) (λ i j. backed_by m (sums_at q m s i j) (s.support i j))
  unfolding backed backed_by
  same_backed i j hi hj = cc (same_support i j hi hj, same_sums i j)

  -- the slices hold the next state
  pub scan_holds : Holds t stations (scan q m s) z' sup' st'
  unfolding scan
  scan_holds =
      record {
        field = did.values (paper.corrected q m s) same_corrected;
        support = did.supports ∙ stored_same t.nx t.ny _ _ same_backed;
        rows = same_rows;
        long = ap length did.verdicts ∙ length-tab (length stations) _;
      }
