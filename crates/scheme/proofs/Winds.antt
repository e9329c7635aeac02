-- What winds change in the answer to a request (document 02, 5): nothing in mode 0, nor where they are missing; in mode 1 neither turning all of
-- them about nor making all of them stronger or weaker alike.
use Rattle.std.specs.Prelude.{ℕ, zero, suc, ◌+◌, ◌*◌, ◌<◌, ◌≡◌, ◌⊎◌, true, false, List, [], ◌∷◌, map, get_or, ℤ, negsuc, nat_abs, ◌+ℤ◌, ◌-ℤ◌}
use Rattle.std.proofs.Common.{arith, sym, ◌∙◌, inl, inr}
use Rattle.std.proofs.Math.Path.{refl, ap, fun_ext}
use Rattle.std.proofs.Math.Bool.{cond}
use Rattle.std.proofs.Math.IntN.{pos}
use Rattle.lists.specs.Sums.{total, total_map}
use Rattle.lists.specs.Parted.{each}
use Rattle.lists.proofs.Each.{each_turned}
use Rattle.lists.specs.Tests.{true_or_false}
use Rattle.lists.specs.Members.{All, none, more, all_map, all_also, all_of, all_get_d}
use Rattle.scheme.specs.Units.{Field, step, Wind, no_wind, is_no_wind, Station, most_beyond, round_mode, R, E, B, L, Request, Call, asked, guess}
use Rattle.scheme.specs.Refusals.{accepted, Window, analysis_refusal}
use Rattle.scheme.specs.Verdicts.{before_scans, serves, out_of_service, off_grid}
use Rattle.scheme.specs.Value.{value_at}
use Rattle.scheme.specs.Difference.{Row, difference, tested}
use Rattle.scheme.specs.Weight.{weight_at}
use Rattle.scheme.specs.Buddies.{Heard, silence, both, says, heard, beside_others}
use Rattle.scheme.specs.Correction.{Sums, nothing, plus, gift, share, correction, backed_by}
use Rattle.scheme.specs.Smoothing.{smoothed}
use Rattle.scheme.specs.Scan.{begins, start, differences, all_tested, all_judged, rows_judged, sums_at, corrected, scan, after_within, after, analysis}
use Rattle.scheme.specs.Reach.{whole_at}
use Rattle.scheme.specs.Accepted.{Sound, no_station}
use Rattle.scheme.proofs.Accepted.{analysis_sound}
use Rattle.scheme.proofs.Judging.{all-judged, judged_station}
use Rattle.scheme.specs.Streaks.{times, Fair}
use Rattle.scheme.proofs.Streaks.{round_if_still, still_in_mode_0, still_if_missing, stronger_wind_weighs_alike, turned_is, turned_fair}
use Rattle.scheme.specs.Winds.{FairBoth, stilled, strengthened, turned_about, with_wind, with_winds}

-- ---- the same request with other winds, and with another mode

-- two ways over a list that go alike at each element
maps_agree : {A B C E : Type 0} (f : B → C) (g : A → B) (f' : E → C) (g' : A → E) → ((a : A) → f (g a) ≡ f' (g' a)) → (xs : List A)
    → map f (map g xs) ≡ map f' (map g' xs)
maps_agree f g f' g' h [] = refl
maps_agree f g f' g' h (a ∷ xs) = cc (h a, maps_agree f g f' g' h xs)

totals_agree : (turn : Row → Row) (give give' : Row → Sums) {rows : List Row} → All (λ r. give (turn r) ≡ give' r) rows
    → total nothing plus give (map turn rows) ≡ total nothing plus give' rows
unfolding total
totals_agree turn give give' none = refl
totals_agree turn give give' (more {a = r} {xs = rows} h rest) = rw (h, totals_agree turn give give' rest)

-- ---- where every weight stays, so does every answer

module _ (q : Request) (mode : ℕ) (f : Wind → Wind) where
  abbrev other : Request
  other = with_winds mode f q

  -- what the two winds of a station weigh
  abbrev pub Alike : Station → Type 0
  Alike s = (r2 : ℕ) (dx dy : ℤ) → weight_at mode r2 (f s.wind) dx dy ≡ weight_at q.plan.mode r2 s.wind dx dy

  abbrev AlikeRow : Row → Type 0
  AlikeRow r = Alike r.station

  abbrev row_with : Row → Row
  row_with r = record { station = with_wind f r.station; verdict = r.verdict }

  -- what the two runs have in common after m scans
  record Same (m : ℕ) : Type 0 where
    field : (after other m).field ≡ (after q m).field
    support : (after other m).support ≡ (after q m).support
    rows : (after other m).rows ≡ map row_with (after q m).rows
    alike : All AlikeRow (after q m).rows

  same_begins : (s : Station) → begins most_beyond q.nx q.ny q.T q.A (with_wind f s) ≡ row_with (begins most_beyond q.nx q.ny q.T q.A s)
  unfolding before_scans serves out_of_service off_grid
  same_begins s = refl

  same_start : All Alike q.stations → Same 0
  unfolding after_within start guess
  same_start h =
      record {
        field = refl;
        support = refl;
        rows = maps_agree _ (with_wind f) row_with _ same_begins q.stations;
        alike = all_map Alike AlikeRow (begins most_beyond q.nx q.ny q.T q.A) (λ s a. a) h;
      }

  module _ (m : ℕ) (h : Same m) where
    abbrev D : Station → ℤ
    D = differences q (after q m)

    -- no wind is read for a difference
    same_D : (s : Station) → differences other (after other m) (with_wind f s) ≡ D s
    unfolding difference value_at guess
    same_D s = rw h.field

    abbrev D' : Station → ℤ
    D' = differences other (after other m)

    -- nor for the E test
    same_tested : (r : Row) → tested (m + 1) (E other.plan m) D' (row_with r) ≡ row_with (tested (m + 1) (E q.plan m) D r)
    unfolding tested E
    same_tested r = rw (same_D r.station)

    -- nor among buddies
    same_said : (s : Station) (o : Row) → says (B q.plan) D' (with_wind f s) (row_with o) ≡ says (B q.plan) D s o
    unfolding says
    same_said s o = rw (same_D o.station)

    same_heard : (s : Station) (others : List Row) → heard (B q.plan) D' (with_wind f s) (map row_with others) ≡ heard (B q.plan) D s others
    unfolding heard
    same_heard s others =
        total_map silence both (says (B q.plan) D' (with_wind f s)) row_with others
        ∙ ap (λ (g : Row → Heard). total silence both g others) (fun_ext (same_said s))

    same_beside : (r : Row) (others : List Row) → beside_others (m + 1) (B other.plan) (L other.plan) D' (row_with r) (map row_with others)
        ≡ row_with (beside_others (m + 1) (B q.plan) (L q.plan) D r others)
    unfolding beside_others B L
    same_beside r others = rw (same_D r.station, same_heard r.station others)

    judged_rows : rows_judged other m (after other m) ≡ map row_with (rows_judged q m (after q m))
    unfolding rows_judged all_judged
    judged_rows =
        ap (all_judged other.plan m D') h.rows
        ∙ ap (each (beside_others (m + 1) (B other.plan) (L other.plan) D')) (maps_agree (tested (m + 1) (E other.plan m) D') row_with row_with (tested (m + 1) (E q.plan m) D) same_tested (after q m).rows)
        ∙ each_turned row_with (beside_others (m + 1) (B q.plan) (L q.plan) D) (beside_others (m + 1) (B other.plan) (L other.plan) D') same_beside (all_tested q.plan m D (after q m).rows)

    judged_alike : All AlikeRow (rows_judged q m (after q m))
    unfolding rows_judged
    judged_alike = all-judged q.plan m D AlikeRow AlikeRow (λ r survivors a. rw (judged_station q.plan m D r survivors) a) h.alike

    same_share : (i j : ℕ) (r : Row) → AlikeRow r
        → share mode (R q.plan m) (differences other (after other m)) i j (row_with r) ≡ share q.plan.mode (R q.plan m) D i j r
    unfolding share gift
    same_share i j r a = rw (same_D r.station, a (R q.plan m * R q.plan m) (r.station.x -ℤ pos (step * i)) (r.station.y -ℤ pos (step * j)))

    same_sums_at : (i j : ℕ) → sums_at other m (after other m) i j ≡ sums_at q m (after q m) i j
    unfolding sums_at R
    same_sums_at i j =
        let there : Row → Sums = share mode (R q.plan m) (differences other (after other m)) i j in
        let here : Row → Sums = share q.plan.mode (R q.plan m) D i j in
        ap (total nothing plus there) judged_rows
        ∙ totals_agree row_with there here (all_also AlikeRow (λ r. there (row_with r) ≡ here r) (same_share i j) judged_alike)

    same_sums : sums_at other m (after other m) ≡ sums_at q m (after q m)
    same_sums = fun_ext (λ i. fun_ext (same_sums_at i))

    same_next : Same (suc m)
    unfolding after_within scan
    same_next =
        record {
          field = ap (λ (z : Field ℤ). cond q.plan.smooth (smoothed q.nx q.ny z) z) same_corrected;
          support =
              ap (λ (g : Field Sums). λ i j. backed_by m (g i j) ((after other m).support i j)) same_sums
              ∙ ap (λ (g : Field ℕ). λ i j. backed_by m (sums_at q m (after q m) i j) (g i j)) h.support;
          rows = judged_rows;
          alike = judged_alike;
        }
      where
        same_corrected : corrected other m (after other m) ≡ corrected q m (after q m)
        same_corrected =
            unfold corrected in
            (ap (λ (g : Field Sums). λ i j. (after other m).field i j +ℤ correction q.plan.rule (g i j)) same_sums
            ∙ ap (λ (z : Field ℤ). λ i j. z i j +ℤ correction q.plan.rule (sums_at q m (after q m) i j)) h.field)

  module _ (alike : All Alike q.stations) where
    same : (m : ℕ) → Same m
    same zero = same_start alike
    same (suc m) = same_next m (same m)

    verdicts : (rows : List Row) → map (λ (r : Row). r.verdict) (map row_with rows) ≡ map (λ (r : Row). r.verdict) rows
    verdicts [] = refl
    verdicts (r ∷ rows) = cc (verdicts rows)

    pub weights_alike_answers_alike : analysis other ≡ analysis q
    unfolding analysis
    weights_alike_answers_alike =
        let s = same q.plan.scans in
        rw (s.field, s.support, s.rows, verdicts (after q q.plan.scans).rows)

    pub weights_alike_windows_alike : (w : Window) → whole_at other w ≡ whole_at q w
    unfolding whole_at
    weights_alike_windows_alike w = let s = same q.plan.scans in rw (s.field, s.support)

-- ---- in mode 0 no wind changes any answer: two requests that are unlike in their winds alone

module _ (q : Request) (round : q.plan.mode ≡ round_mode) where
  all_round : All (Alike q round_mode (λ w. no_wind)) q.stations
  all_round =
      all_of (Alike q round_mode (λ w. no_wind))
      (λ s r2 dx dy. round_if_still round_mode r2 no_wind dx dy (still_in_mode_0 no_wind dx dy)
      ∙ sym (rw round (round_if_still round_mode r2 s.wind dx dy (still_in_mode_0 s.wind dx dy))))
      q.stations

  still_analysis : analysis (stilled q) ≡ analysis q
  still_analysis = weights_alike_answers_alike q round_mode (λ w. no_wind) all_round

  still_window : (w : Window) → whole_at (stilled q) w ≡ whole_at q w
  still_window = weights_alike_windows_alike q round_mode (λ w. no_wind) all_round

module _ (p q : Request) (round : p.plan.mode ≡ round_mode) (round' : q.plan.mode ≡ round_mode) (same : stilled p ≡ stilled q) where
  pub in_mode_0_no_wind_changes_any_analysis : analysis p ≡ analysis q
  in_mode_0_no_wind_changes_any_analysis = sym (still_analysis p round) ∙ ap analysis same ∙ still_analysis q round'

  pub in_mode_0_no_wind_changes_any_window : (w : Window) → whole_at p w ≡ whole_at q w
  in_mode_0_no_wind_changes_any_window w = sym (still_window p round w) ∙ ap (λ (r : Request). whole_at r w) same ∙ still_window q round' w

-- ---- without winds every mode is round

pub without_winds_every_mode_is_round : (q : Request) (mode : ℕ) → All (λ s. is_no_wind s.wind ≡ true) q.stations
    → analysis (with_winds mode (λ w. w) q) ≡ analysis q
without_winds_every_mode_is_round q mode still =
    weights_alike_answers_alike q mode (λ w. w)
    (all_also (λ s. is_no_wind s.wind ≡ true) (Alike q mode (λ w. w))
    (λ s e r2 dx dy. round_if_still mode r2 s.wind dx dy (still_if_missing mode s.wind dx dy e)
    ∙ sym (round_if_still q.plan.mode r2 s.wind dx dy (still_if_missing q.plan.mode s.wind dx dy e))) still)

-- ---- all winds k times as strong, or turned about; a missing one stays so

pub stronger_winds_change_no_answer : (q : Request) (k : ℤ) → 0 < nat_abs k → All (FairBoth k) q.stations
    → analysis (with_winds q.plan.mode (strengthened k) q) ≡ analysis q
stronger_winds_change_no_answer q k some fair =
    weights_alike_answers_alike q q.plan.mode (strengthened k)
    (all_also (FairBoth k) (Alike q q.plan.mode (strengthened k)) (λ s h r2 dx dy. one s.wind h r2 dx dy) fair)
  where
    one : (w : Wind) → (is_no_wind w ≡ false → Fair w × Fair (times k w)) → (r2 : ℕ) (dx dy : ℤ)
        → weight_at q.plan.mode r2 (strengthened k w) dx dy ≡ weight_at q.plan.mode r2 w dx dy
    one w h r2 dx dy =
        go (true_or_false (is_no_wind w))
      where
        go : (is_no_wind w ≡ true) ⊎ (is_no_wind w ≡ false) → weight_at q.plan.mode r2 (strengthened k w) dx dy ≡ weight_at q.plan.mode r2 w dx dy
        go (inl e) = rw e
        go (inr e) = rw e (stronger_wind_weighs_alike k some w dx dy q.plan.mode r2 (h e).0 (h e).1)

sound_turned : (q : Request) → Sound q → analysis (with_winds q.plan.mode turned_about q) ≡ analysis q
sound_turned q sound =
    rw (fun_ext same)
    (stronger_winds_change_no_answer q (negsuc 0) (omega arith)
    (all_get_d (FairBoth (negsuc 0)) no_station q.stations (λ k h e. let f = (sound.stations k h).wind e in (f, turned_fair (get_or q.stations k no_station).wind f))))
  where
    same : (w : Wind) → turned_about w ≡ strengthened (negsuc 0) w
    same w = rw (turned_is w)

-- of an accepted call
pub turned_winds_change_no_answer : (c : Call) (grid support verdict : ℕ) → analysis_refusal c grid support verdict ≡ accepted
    → analysis (with_winds c.plan.mode turned_about (asked c)) ≡ analysis (asked c)
turned_winds_change_no_answer c grid support verdict e = sound_turned (asked c) (analysis_sound c grid support verdict e)
