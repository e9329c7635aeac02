-- The judging of a scan: the E test of each row, and then the buddy check of all at once. Laws that serve wherever rows are judged.
use Rattle.std.specs.Prelude.{ℕ, ◌+◌, ◌≤◌, ◌<◌, ◌≡◌, ◌⊎◌, Bool, true, false, cond, ◌&&◌, ltb, length, ℤ, nat_abs, ◌-ℤ◌}
use Rattle.std.proofs.Common.{arith, ◌∙◌, inl, inr, ltb-false, le-ltb, eqb-true}
use Rattle.std.proofs.Math.Path.{refl, sym, ap}
use mathlib.Core.List.{List, [], ◌∷◌}
use Rattle.std.proofs.lemmas.Bool.{lt-leb}
use Rattle.std.proofs.Math.ListN.{length-map, get_or, get_or-map, get_or-eq_default}
use Rattle.lists.specs.Tests.{lt_or_le, true_or_false, not_both}
use Rattle.lists.specs.Sums.{total}
use Rattle.lists.specs.Members.{All, all_map}
use Rattle.lists.specs.Each.{without}
use Rattle.lists.proofs.Each.{length-each, each_at, all_each}
use Rattle.scheme.specs.Units.{Station, Plan, E, B, L}
use Rattle.scheme.specs.Verdicts.{is_accepted}
use Rattle.scheme.specs.Difference.{Row, after_test, tested}
use Rattle.scheme.specs.Weight.{squares, inside}
use Rattle.scheme.specs.Buddies.{Heard, silence, both, says, heard, is_odd, after_buddies, beside_others}
use Rattle.scheme.specs.Scan.{all_tested, all_judged}
use Rattle.scheme.proofs.Adding.{silence_both}
use Rattle.scheme.specs.Judging.{no_row}

-- ---- an accepted row has passed the E test, and was accepted before it

pub passed : (scan limit : ℕ) (D : ℤ) (verdict : ℕ) → is_accepted (after_test scan limit D verdict) ≡ true → nat_abs D ≤ limit
unfolding after_test
passed scan limit D verdict = go (true_or_false (is_accepted verdict)) (true_or_false (ltb limit (nat_abs D)))
  where
    go : (is_accepted verdict ≡ true) ⊎ (is_accepted verdict ≡ false) → (ltb limit (nat_abs D) ≡ true) ⊎ (ltb limit (nat_abs D) ≡ false)
        → is_accepted (cond (is_accepted verdict) (cond (ltb limit (nat_abs D)) (10 + scan) 0) verdict) ≡ true → nat_abs D ≤ limit
    go (inr v) t e = absurd (not_both (sym (rw (v) at e) ∙ v))
    go (inl v) (inr t) e = ltb-false limit (nat_abs D) t
    go (inl v) (inl t) e = absurd (let n : 10 + scan ≡ 0 = eqb-true (10 + scan) 0 (rw (v, t) at e) in omega arith)

pub was_accepted : (scan limit : ℕ) (D : ℤ) (verdict : ℕ) → is_accepted (after_test scan limit D verdict) ≡ true → is_accepted verdict ≡ true
unfolding after_test
was_accepted scan limit D verdict e = go (true_or_false (is_accepted verdict))
  where
    go : (is_accepted verdict ≡ true) ⊎ (is_accepted verdict ≡ false) → is_accepted verdict ≡ true
    go (inl v) = v
    go (inr v) = absurd (not_both (sym (rw v at e) ∙ v))

-- ---- and a survivor of the buddy check has survived the E test

pub was_survivor : (scan limit : ℕ) (D : ℤ) (h : Heard) (verdict : ℕ) → is_accepted (after_buddies scan limit D h verdict) ≡ true → is_accepted verdict ≡ true
unfolding after_buddies
was_survivor scan limit D h verdict e = go (true_or_false (is_accepted verdict))
  where
    go : (is_accepted verdict ≡ true) ⊎ (is_accepted verdict ≡ false) → is_accepted verdict ≡ true
    go (inl v) = v
    go (inr v) = absurd (not_both (sym (rw v at e) ∙ v))

-- ---- a row that is not accepted stays as it is, whatever it is judged by and beside whom

pub rejected_passes_test : (scan limit : ℕ) (D : Station → ℤ) (r : Row) → is_accepted r.verdict ≡ false → tested scan limit D r ≡ r
unfolding tested after_test
rejected_passes_test scan limit D r e = rw e

pub rejected_passes_buddies : (scan radius limit : ℕ) (D : Station → ℤ) (r : Row) (others : List Row) → is_accepted r.verdict ≡ false
    → beside_others scan radius limit D r others ≡ r
unfolding beside_others after_buddies
rejected_passes_buddies scan radius limit D r others e = rw e

-- ---- with B = 0 nobody is near, and nobody is set aside

heard_nobody : (D : Station → ℤ) (s : Station) (others : List Row) → heard 0 D s others ≡ silence
unfolding heard total says
heard_nobody D s [] = refl
heard_nobody D s (o ∷ others) = go (is_accepted o.verdict) (inside 0 (o.station.x -ℤ s.x) (o.station.y -ℤ s.y)) (le-ltb (squares (o.station.x -ℤ s.x) (o.station.y -ℤ s.y)) 0 (omega arith)) (heard_nobody D s others)
  where
    go : (a near : Bool) → near ≡ false → heard 0 D s others ≡ silence → both (cond (a && near) (record { count = 1; sum = D o.station }) silence) (heard 0 D s others) ≡ silence
    go false near e rest = silence_both (heard 0 D s others) ∙ rest
    go true near e rest = rw e (silence_both (heard 0 D s others) ∙ rest)

-- nor is anyone with fewer than two neighbours
pub few_neighbours_stay : (scan radius limit : ℕ) (D : Station → ℤ) (r : Row) (others : List Row) → (heard radius D r.station others).count < 2
    → beside_others scan radius limit D r others ≡ r
unfolding beside_others after_buddies is_odd
few_neighbours_stay scan radius limit D r others few = rw (lt-leb 2 (heard radius D r.station others).count few) (go (is_accepted r.verdict))
  where
    go : (a : Bool) → ◌≡◌ {A = Row} (record { station = r.station; verdict = cond (a && false) (20 + scan) r.verdict }) r
    go true = refl
    go false = refl

pub alone_stays : (scan limit : ℕ) (D : Station → ℤ) (r : Row) (others : List Row) → beside_others scan 0 limit D r others ≡ r
alone_stays scan limit D r others =
    few_neighbours_stay scan 0 limit D r others (omega (arith, ap (λ (h : Heard). h.count) (heard_nobody D r.station others)))

-- ---- all rows

module _ (p : Plan) (m : ℕ) (D : Station → ℤ) where
  -- how the scan judges a row beside others, as the E test has left them
  abbrev pub judged_beside : Row → List Row → Row
  judged_beside r survivors = beside_others (m + 1) (B p) (L p) D (tested (m + 1) (E p m) D r) survivors

  pub judged_length : (rows : List Row) → length (all_judged p m D rows) ≡ length rows
  unfolding all_judged
  judged_length rows = length-each _ (all_tested p m D rows) ∙ length-map rows (tested (m + 1) (E p m) D)

  pub rejected_stays : (r : Row) (survivors : List Row) → is_accepted r.verdict ≡ false → judged_beside r survivors ≡ r
  rejected_stays r survivors e =
      ap (λ (t : Row). beside_others (m + 1) (B p) (L p) D t survivors) (rejected_passes_test (m + 1) (E p m) D r e)
      ∙ rejected_passes_buddies (m + 1) (B p) (L p) D r survivors e

  -- row n is judged beside the survivors of the E test, and nothing else
  pub judged_row : (rows : List Row) (n : ℕ) → get_or (all_judged p m D rows) n no_row ≡ judged_beside (get_or rows n no_row) (without n (all_tested p m D rows))
  judged_row rows n = go (lt_or_le n (length rows))
    where
      go : (n < length rows) ⊎ (length rows ≤ n) → get_or (all_judged p m D rows) n no_row ≡ judged_beside (get_or rows n no_row) (without n (all_tested p m D rows))
      go (inl h) =
          unfold all_judged in
          (each_at (beside_others (m + 1) (B p) (L p) D) no_row no_row (all_tested p m D rows) n (rw (length-map rows (tested (m + 1) (E p m) D)) h)
          ∙ ap (λ (r : Row). beside_others (m + 1) (B p) (L p) D r (without n (all_tested p m D rows))) tested_row)
        where
          tested_row : get_or (all_tested p m D rows) n no_row ≡ tested (m + 1) (E p m) D (get_or rows n no_row)
          tested_row =
              ap (get_or (all_tested p m D rows) n) (sym (rejected_passes_test (m + 1) (E p m) D no_row refl))
              ∙ get_or-map (tested (m + 1) (E p m) D) rows n no_row
      go (inr h) =
          get_or-eq_default (all_judged p m D rows) no_row (rw (judged_length rows) h)
          ∙ sym (ap (λ (r : Row). judged_beside r (without n (all_tested p m D rows))) (get_or-eq_default rows no_row h)
          ∙ rejected_stays no_row (without n (all_tested p m D rows)) refl)

  -- what holds of a row however it is judged
  pub all-judged : (P Q : Row → Type 0) → ((r : Row) (survivors : List Row) → P r → Q (judged_beside r survivors)) → {rows : List Row} → All P rows → All Q (all_judged p m D rows)
  unfolding all_judged
  all-judged P Q so rows =
      all_each (beside_others (m + 1) (B p) (L p) D) (λ t. (survivors : List Row) → Q (beside_others (m + 1) (B p) (L p) D t survivors)) Q (λ t survivors f. f survivors)
      (all_map P (λ t. (survivors : List Row) → Q (beside_others (m + 1) (B p) (L p) D t survivors)) (tested (m + 1) (E p m) D) (λ r h survivors. so r survivors h) rows)

  -- with the buddy check off the E test alone judges
  pub alone_as_tested : B p ≡ 0 → (r : Row) (survivors : List Row) → judged_beside r survivors ≡ tested (m + 1) (E p m) D r
  alone_as_tested none r survivors = rw none (alone_stays (m + 1) (L p) D (tested (m + 1) (E p m) D r) survivors)

  -- judging moves no station
  pub judged_station : (r : Row) (survivors : List Row) → (judged_beside r survivors).station ≡ r.station
  unfolding beside_others tested
  judged_station r survivors = refl

  -- who is accepted then was before, and has passed the E test
  pub accepted_before : (r : Row) (survivors : List Row) → is_accepted (judged_beside r survivors).verdict ≡ true → is_accepted r.verdict ≡ true
  unfolding beside_others tested
  accepted_before r survivors e =
      was_accepted (m + 1) (E p m) (D r.station) r.verdict (was_survivor (m + 1) (L p) (D r.station) _ _ e)

  pub accepted_passed : (r : Row) (survivors : List Row) → is_accepted (judged_beside r survivors).verdict ≡ true → nat_abs (D r.station) ≤ E p m
  unfolding beside_others tested
  accepted_passed r survivors e =
      passed (m + 1) (E p m) (D r.station) r.verdict (was_survivor (m + 1) (L p) (D r.station) _ _ e)
