-- Demand 2's word on dead masts: a mast out of service, a missing, stale or rejected reading has no weight in any scan from then on.
use Rattle.std.specs.Prelude.{ℕ, zero, suc, ◌+◌, refl, Bool, false, ◌&&◌, List, get_or, ℤ, ◌+ℤ◌}
use Rattle.std.proofs.Common.{arith, zero-add, add-zero, ◌∙◌}
use Rattle.std.proofs.Math.Path.{◌≡◌, sym, ap, fun_ext}
use Rattle.std.proofs.Math.Bool.{cond}
use Rattle.lists.specs.Sums.{total, total_map}
use Rattle.lists.specs.Keep.{keep}
use Rattle.lists.specs.Parted.{Parted}
use Rattle.lists.proofs.Parted.{keep_parted, total_parted, each_parted}
use Rattle.lists.proofs.Each.{each_of_map}
use Rattle.scheme.specs.Units.{is_missing, Field, stored, Station, most_beyond, R, E, B, L, Request, guess, with_stations}
use Rattle.scheme.specs.Verdicts.{is_accepted, serves, out_of_service, first_that_fits, before_scans}
use Rattle.scheme.specs.Difference.{Row, difference, tested}
use Rattle.scheme.specs.Buddies.{Heard, silence, both, says, heard, after_buddies, beside_others}
use Rattle.scheme.specs.Correction.{Sums, nothing, plus, share, correction, backed_by}
use Rattle.scheme.specs.Smoothing.{smoothed}
use Rattle.scheme.specs.Scan.{begins, start, differences, all_tested, all_judged, rows_judged, sums_at, corrected, scan, after_within, after, analysis}
use Rattle.scheme.specs.Judging.{no_row}
use Rattle.scheme.proofs.Judging.{judged_beside, rejected_passes_test, rejected_stays, judged_row, judged_station}
use Rattle.scheme.proofs.Adding.{nothing_plus, silence_both}
use Rattle.scheme.specs.Gifts.{sums}
use Rattle.scheme.proofs.Gifts.{rejected_gives_nothing}
use Rattle.scheme.specs.DeadMasts.{row_after, survivors, weight_in}

-- ---- row n of a run

abbrev pub judged_in : Request → (m n : ℕ) → Row → Row
judged_in q m n r = judged_beside q.plan m (differences q (after q m)) r (survivors q m n)

stays_in : (q : Request) (m n : ℕ) (r : Row) → is_accepted r.verdict ≡ false → judged_in q m n r ≡ r
stays_in q m n r = rejected_stays q.plan m (differences q (after q m)) r (survivors q m n)

pub row_next : (q : Request) (m n : ℕ) → row_after q (suc m) n ≡ judged_in q m n (row_after q m n)
unfolding after_within scan rows_judged
row_next q m n = judged_row q.plan m (differences q (after q m)) (after q m).rows n

-- no scan moves a station
pub station_stays : (q : Request) (m n t : ℕ) → (row_after q (m + t) n).station ≡ (row_after q m n).station
station_stays q m n zero = ap (λ (k : ℕ). (row_after q k n).station) (add-zero m)
station_stays q m n (suc t) =
    let s : m + suc t ≡ suc (m + t) = omega arith in
    ap (λ (k : ℕ). (row_after q k n).station) s
    ∙ ap (λ (r : Row). r.station) (row_next q (m + t) n)
    ∙ judged_station q.plan (m + t) (differences q (after q (m + t))) (row_after q (m + t) n) (survivors q (m + t) n)
    ∙ station_stays q m n t

row_judged : (q : Request) (m n : ℕ) → get_or (rows_judged q m (after q m)) n no_row ≡ row_after q (suc m) n
unfolding after_within scan
row_judged q m n = refl

-- a row that is not accepted after m scans is the same after t more
pub rejected_for_good : (q : Request) (m n t : ℕ) → is_accepted (row_after q m n).verdict ≡ false → row_after q (m + t) n ≡ row_after q m n
rejected_for_good q m n zero e = ap (λ (k : ℕ). row_after q k n) (add-zero m)
rejected_for_good q m n (suc t) e =
    let s : m + suc t ≡ suc (m + t) = omega arith in
    let same = rejected_for_good q m n t e in
    ap (λ (k : ℕ). row_after q k n) s
    ∙ row_next q (m + t) n
    ∙ ap (judged_in q (m + t) n) same
    ∙ stays_in q (m + t) n (row_after q m n) e

-- so a row that is not accepted after the judging of scan number k + 1 has no weight in that scan and in every later one
pub rejected_has_no_weight : (q : Request) (k n t i j : ℕ) → is_accepted (row_after q (suc k) n).verdict ≡ false → weight_in q (k + t) n i j ≡ 0
rejected_has_no_weight q k n t i j e =
    let s : suc (k + t) ≡ suc k + t = omega arith in
    let same : get_or (rows_judged q (k + t) (after q (k + t))) n no_row ≡ row_after q (suc k) n =
    row_judged q (k + t) n ∙ ap (λ (m : ℕ). row_after q m n) s ∙ rejected_for_good q (suc k) n t e in
    let gone : is_accepted (get_or (rows_judged q (k + t) (after q (k + t))) n no_row).verdict ≡ false = rw same e in
    rw (rejected_gives_nothing q.plan.mode (R q.plan (k + t)) (differences q (after q (k + t))) i j (get_or (rows_judged q (k + t) (after q (k + t))) n no_row) gone, weight_in)

-- ---- a mast that is dead before the first scan: verdicts 1 to 5

pub dead_mast_keeps_its_verdict : (q : Request) (n t : ℕ) → is_accepted (row_after q 0 n).verdict ≡ false
    → (row_after q t n).verdict ≡ (row_after q 0 n).verdict
dead_mast_keeps_its_verdict q n t e =
    ap (λ (k : ℕ). (row_after q k n).verdict) (sym (zero-add t)) ∙ ap (λ (r : Row). r.verdict) (rejected_for_good q 0 n t e)

pub dead_mast_has_no_weight : (q : Request) (n t i j : ℕ) → is_accepted (row_after q 0 n).verdict ≡ false → weight_in q t n i j ≡ 0
dead_mast_has_no_weight q n t i j e =
    ap (λ (k : ℕ). weight_in q k n i j) (sym (zero-add t))
    ∙ rejected_has_no_weight q 0 n t i j (ap (λ (r : Row). is_accepted r.verdict) (rejected_for_good q 0 n 1 e) ∙ e)

-- a mast that was taken down by T, or was by the minute of its reading, is out of service whatever else holds of its reading
pub taken_down_is_out_of_service : (beyond nx ny T A : ℕ) (s : Station) → is_missing s.value ≡ false → (serves s s.observed && serves s T) ≡ false
    → before_scans beyond nx ny T A s ≡ 2
unfolding before_scans first_that_fits out_of_service
taken_down_is_out_of_service beyond nx ny T A s there gone = rw (there, gone)

-- ---- deleting every dead mast changes no value and no support

module _ (q : Request) where
  -- a mast that none of the verdicts 1 to 5 fits
  abbrev pub alive : Station → Bool
  alive s = is_accepted (before_scans most_beyond q.nx q.ny q.T q.A s)

  abbrev pub without_dead_masts : Request
  without_dead_masts = with_stations q (keep alive q.stations)

  -- a row that is left out is not accepted
  abbrev Dead : Row → Type 0
  Dead r = is_accepted r.verdict ≡ false

  -- what the two runs have in common after m scans
  record Alike (m : ℕ) : Type 0 where
    field : (after without_dead_masts m).field ≡ (after q m).field
    support : (after without_dead_masts m).support ≡ (after q m).support
    rows : Parted ◌≡◌ Dead (after q m).rows (after without_dead_masts m).rows

  abbrev begun : Station → Row
  begun = begins most_beyond q.nx q.ny q.T q.A

  alike_start : Alike 0
  unfolding after_within start guess
  alike_start = record { field = refl; support = refl; rows = keep_parted alive begun begun (λ s e. refl) (λ s e. e) q.stations }

  module _ (m : ℕ) (h : Alike m) where
    abbrev D : Station → ℤ
    D = differences q (after q m)

    same_D : differences without_dead_masts (after without_dead_masts m) ≡ D
    unfolding guess
    same_D = ap (difference q.nx q.ny (guess q)) h.field

    -- the judging of a row beside others as the scan finds them
    abbrev judging : Row → List Row → Row
    judging r others = judged_beside q.plan m D r (all_tested q.plan m D others)

    -- a dead mast says nothing to another
    same_judging : (r c : Row) (rs cs : List Row) → r ≡ c → Parted ◌≡◌ Dead rs cs → judging r rs ≡ judging c cs
    unfolding beside_others heard
    same_judging r c rs cs e p = rw e (ap (λ (x : Heard). record { station = (tested (m + 1) (E q.plan m) D c).station; verdict = after_buddies (m + 1) (L q.plan) (D (tested (m + 1) (E q.plan m) D c).station) x (tested (m + 1) (E q.plan m) D c).verdict }) same_heard)
      where
        s : Station
        s = (tested (m + 1) (E q.plan m) D c).station

        said : Row → Heard
        said r = says (B q.plan) D s (tested (m + 1) (E q.plan m) D r)

        silent : (r : Row) → Dead r → said r ≡ silence
        silent r e = rw (rejected_passes_test (m + 1) (E q.plan m) D r e) (unfold says in rw e)

        same_heard : total silence both (says (B q.plan) D s) (all_tested q.plan m D rs) ≡ total silence both (says (B q.plan) D s) (all_tested q.plan m D cs)
        same_heard =
            total_map silence both (says (B q.plan) D s) (tested (m + 1) (E q.plan m) D) rs
            ∙ total_parted silence both said said silence_both (λ a b e. ap said e) silent p
            ∙ sym (total_map silence both (says (B q.plan) D s) (tested (m + 1) (E q.plan m) D) cs)

    judged_rows : Parted ◌≡◌ Dead (rows_judged q m (after q m)) (rows_judged without_dead_masts m (after without_dead_masts m))
    unfolding rows_judged all_judged
    judged_rows =
        rw (same_D, each_of_map (beside_others (m + 1) (B q.plan) (L q.plan) D) (tested (m + 1) (E q.plan m) D) (after q m).rows, each_of_map (beside_others (m + 1) (B q.plan) (L q.plan) D) (tested (m + 1) (E q.plan m) D) (after without_dead_masts m).rows)
        (each_parted ◌≡◌ Dead judging judging same_judging (λ r rs e. ap (λ (o : Row). is_accepted o.verdict) (rejected_stays q.plan m D r (all_tested q.plan m D rs) e) ∙ e) h.rows)

    same_sums_at : (i j : ℕ) → sums_at without_dead_masts m (after without_dead_masts m) i j ≡ sums_at q m (after q m) i j
    unfolding sums_at
    same_sums_at i j =
        ap (λ (F : Station → ℤ). sums q.plan.mode (R q.plan m) F (rows_judged without_dead_masts m (after without_dead_masts m)) i j) same_D
        ∙ sym (total_parted nothing plus _ _ nothing_plus (λ r c e. ap (share q.plan.mode (R q.plan m) D i j) e)
        (rejected_gives_nothing q.plan.mode (R q.plan m) D i j) judged_rows)

    same_sums : sums_at without_dead_masts m (after without_dead_masts m) ≡ sums_at q m (after q m)
    same_sums = fun_ext (λ i. fun_ext (same_sums_at i))

    alike_next : Alike (suc m)
    unfolding after_within scan corrected
    alike_next =
        record {
          field = ap (λ (z : Field ℤ). cond q.plan.smooth (smoothed q.nx q.ny z) z) same_corrected;
          support =
              ap (λ (f : Field Sums). λ i j. backed_by m (f i j) ((after without_dead_masts m).support i j)) same_sums
              ∙ ap (λ (f : Field ℕ). λ i j. backed_by m (sums_at q m (after q m) i j) (f i j)) h.support;
          rows = judged_rows;
        }
      where
        same_corrected : corrected without_dead_masts m (after without_dead_masts m) ≡ corrected q m (after q m)
        same_corrected =
            unfold corrected in
            (ap (λ (f : Field Sums). λ i j. (after without_dead_masts m).field i j +ℤ correction q.plan.rule (f i j)) same_sums
            ∙ ap (λ (z : Field ℤ). λ i j. z i j +ℤ correction q.plan.rule (sums_at q m (after q m) i j)) h.field)

  alike : (m : ℕ) → Alike m
  alike zero = alike_start
  alike (suc m) = alike_next m (alike m)

  pub removing_dead_masts_changes_no_value : (analysis without_dead_masts).grid ≡ (analysis q).grid
  unfolding analysis
  removing_dead_masts_changes_no_value = ap (stored q.nx q.ny) (alike q.plan.scans).field

  pub removing_dead_masts_changes_no_support : (analysis without_dead_masts).support ≡ (analysis q).support
  unfolding analysis
  removing_dead_masts_changes_no_support = ap (stored q.nx q.ny) (alike q.plan.scans).support
