-- Entries past the scan count are not read: two plans that count as many scans and are equal up to there are refused, run and reach alike.
use Prim.Native.Nat.{ℕ, zero, suc, ◌+◌, ◌≤◌, ◌<◌}
use Rattle.std.proofs.Common.{arith, ◌∙◌}
use Rattle.std.specs.Prelude.{◌≡◌, Bool, List, map, length, ℤ, ◌+ℤ◌}
use Rattle.std.proofs.Math.Path.{refl, ap}
use Rattle.std.proofs.Math.Bool.{cond}
use borrow.Author.Tests.{le-ltb}
use Rattle.std.proofs.Math.IntN.{nat_abs}
use Rattle.lists.specs.Sums.{total, up_to, up_to_same}
use Rattle.lists.specs.Parted.{each}
use Rattle.lists.specs.First.{first, first_same}
use Rattle.scheme.specs.Units.{Field, stored, Buddies, Plan, R, E, B, L, Request, guess}
use Rattle.scheme.specs.Refusals.{bad_scans, rising, bad_scan, bad_buddies, Window, from_five}
use Rattle.scheme.specs.Difference.{Row, tested}
use Rattle.scheme.specs.Buddies.{beside_others}
use Rattle.scheme.specs.Correction.{Sums, nothing, plus, share, correction, backed_by}
use Rattle.scheme.specs.Smoothing.{smoothed}
use Rattle.scheme.specs.Scan.{State, start, differences, all_judged, rows_judged, sums_at, corrected, scan, after_within, after, Analysis, analysis}
use Rattle.scheme.specs.Reach.{steps, reach, window_of, Tile, whole_at}
use Rattle.scheme.specs.Accepted.{from_six}
use Rattle.scheme.specs.Entries.{UpToCount, with_plan}

module _ (q : Request) (p' : Plan) (same : UpToCount q.plan p') where
  same_R : (m : ℕ) → m < q.plan.scans → R p' m ≡ R q.plan m
  unfolding R
  same_R m h = ap nat_abs (same.radii m h)

  same_E : (m : ℕ) → m < q.plan.scans → E p' m ≡ E q.plan m
  unfolding E
  same_E m h = ap nat_abs (same.limits m h)

  same_B : B p' ≡ B q.plan
  unfolding B
  same_B = ap (λ (c : Buddies). cond c.on (nat_abs c.radius) 0) same.buddies

  same_L : L p' ≡ L q.plan
  unfolding L
  same_L = ap (λ (c : Buddies). nat_abs c.limit) same.buddies

  -- a scan that is made: it takes R, E, the switch, the mode, the rule, B and L of the plan
  module _ (m : ℕ) (found : State) (radius limit : ℕ) (smooth : Bool) (mode rule near apart : ℕ) where
    abbrev rows_by : List Row
    rows_by = each (beside_others (m + 1) near apart (differences q found)) (map (tested (m + 1) limit (differences q found)) found.rows)

    abbrev sums_by : Field Sums
    sums_by i j = total nothing plus (share mode radius (differences q found) i j) rows_by

    abbrev corrected_by : Field ℤ
    corrected_by i j = found.field i j +ℤ correction rule (sums_by i j)

    abbrev scan_by : State
    scan_by =
        record {
          field = cond smooth (smoothed q.nx q.ny corrected_by) corrected_by;
          support = λ i j. backed_by m (sums_by i j) (found.support i j);
          rows = rows_by;
        }

  scan_same : (m : ℕ) → m < q.plan.scans → (found : State) → scan (with_plan q p') m found ≡ scan q m found
  unfolding scan corrected sums_at rows_judged all_judged guess
  scan_same m h found =
      ap (λ (r : ℕ). scan_by m found r (E p' m) p'.smooth p'.mode p'.rule (B p') (L p')) (same_R m h)
      ∙ ap (λ (e : ℕ). scan_by m found (R q.plan m) e p'.smooth p'.mode p'.rule (B p') (L p')) (same_E m h)
      ∙ ap (λ (b : Bool). scan_by m found (R q.plan m) (E q.plan m) b p'.mode p'.rule (B p') (L p')) same.smooth
      ∙ ap (λ (n : ℕ). scan_by m found (R q.plan m) (E q.plan m) q.plan.smooth n p'.rule (B p') (L p')) same.mode
      ∙ ap (λ (n : ℕ). scan_by m found (R q.plan m) (E q.plan m) q.plan.smooth q.plan.mode n (B p') (L p')) same.rule
      ∙ ap (λ (n : ℕ). scan_by m found (R q.plan m) (E q.plan m) q.plan.smooth q.plan.mode q.plan.rule n (L p')) same_B
      ∙ ap (scan_by m found (R q.plan m) (E q.plan m) q.plan.smooth q.plan.mode q.plan.rule (B q.plan)) same_L

  after_same : (m : ℕ) → m ≤ q.plan.scans → after (with_plan q p') m ≡ after q m
  unfolding after_within
  after_same zero h = unfold start guess in refl
  after_same (suc m) h = scan_same m h (after (with_plan q p') m) ∙ ap (scan q m) (after_same m (omega arith))

  -- what an analysis stores of the last state
  abbrev stored_of : State → Analysis
  stored_of s = record { grid = stored q.nx q.ny s.field; support = stored q.nx q.ny s.support; verdict = map (λ r. r.verdict) s.rows }

  pub entries_past_the_count_change_no_analysis : analysis (with_plan q p') ≡ analysis q
  unfolding analysis
  entries_past_the_count_change_no_analysis =
      ap (λ (n : ℕ). stored_of (after (with_plan q p') n)) same.scans ∙ ap stored_of (after_same q.plan.scans (omega arith))

  -- nor what the window query answers
  pub entries_past_the_count_change_no_window : (w : Window) → whole_at (with_plan q p') w ≡ whole_at q w
  unfolding whole_at
  entries_past_the_count_change_no_window w =
      ap (λ (n : ℕ). tile_of (after (with_plan q p') n)) same.scans ∙ ap tile_of (after_same q.plan.scans (omega arith))
    where
      tile_of : State → Tile
      tile_of s = record { grid = window_of w s.field; support = window_of w s.support }

  pub entries_past_the_count_change_no_reach : reach p' ≡ reach q.plan
  unfolding reach steps
  entries_past_the_count_change_no_reach =
      ap (λ (n : ℕ). up_to 0 ◌+◌ n (steps p')) same.scans
      ∙ up_to_same 0 ◌+◌ q.plan.scans (steps p') (steps q.plan) (λ m h. unfold steps in rw (same_R m h, same_B, same.smooth))

  -- nor a refusal, where all columns are as long as the count
  same_rising : (m : ℕ) → m < q.plan.scans → rising p' m ≡ rising q.plan m
  unfolding rising
  same_rising zero h = refl
  same_rising (suc m) h = rw (same.radii m (omega arith), same.radii (suc m) h)

  same_bad : (m : ℕ) → m < q.plan.scans → bad_scan p' m ≡ bad_scan q.plan m
  unfolding bad_scan
  same_bad m h = rw (same.radii m h, same.limits m h, same_rising m h)

  same_first : first p'.scans (bad_scan p') ≡ first q.plan.scans (bad_scan q.plan)
  same_first = ap (λ (n : ℕ). first n (bad_scan p')) same.scans ∙ first_same q.plan.scans (bad_scan p') (bad_scan q.plan) same_bad

  same_check : bad_buddies p' ≡ bad_buddies q.plan
  unfolding bad_buddies
  same_check = rw same.buddies

  pub same_from_six : from_six (with_plan q p') ≡ from_six q
  same_from_six = rw (same_first, same_check)

  module _ (r : q.plan.scans ≤ length q.plan.radius) (l : q.plan.scans ≤ length q.plan.limit)
      (r' : q.plan.scans ≤ length p'.radius) (l' : q.plan.scans ≤ length p'.limit) where
    same_count : bad_scans p' ≡ bad_scans q.plan
    unfolding bad_scans
    same_count =
        rw (
          same.scans,
          same.mode,
          same.rule,
          le-ltb (length p'.radius) q.plan.scans r',
          le-ltb (length p'.limit) q.plan.scans l',
          le-ltb (length q.plan.radius) q.plan.scans r,
          le-ltb (length q.plan.limit) q.plan.scans l,
        )

    pub entries_past_the_count_change_no_refusal : from_five (with_plan q p') ≡ from_five q
    unfolding from_five
    entries_past_the_count_change_no_refusal = rw (same_count, same_first, same_check)
