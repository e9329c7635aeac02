-- The buddy check (document 02, 7): all are judged at once; off, it is as if it were not there; who has fewer than two neighbours stays; who is set
-- aside has no weight and is no neighbour from then on; and what two that agree do to a third.
use Prim.Native.Nat.{ℕ, zero, suc, ◌+◌, ◌-◌, ◌*◌, ◌/◌, ◌<◌}
use native.Mathlib.Omega.{arith}
use Rattle.std.specs.Prelude.{◌≡◌, ◌⊎◌, Bool, false, ltb, eqb, length, set, ℤ, pos, nat_abs, ◌+ℤ◌, ◌-ℤ◌, ◌*ℤ◌}
use Rattle.std.proofs.Math.Path.{refl, ap, fun_ext}
use Rattle.std.proofs.Common.{sym, ◌∙◌, inl, inr}
use Rattle.std.proofs.Math.Bool.{true, cond}
use mathlib.Core.List.{List, [], ◌∷◌, map}
use borrow.Author.Tests.{eq-eqb, eqb-true}
use Rattle.std.proofs.Math.ListN.{get_or, length-set, length-map}
use Rattle.std.proofs.Math.Seq.{get_or-set_same, get_or-set_other}
use Rattle.std.proofs.Math.IntN.{+ℤ_idr}
use Rattle.integers.specs.Parts.{up, dn, eq_parts, add_parts, minus_parts, mul_parts}
use Rattle.integers.specs.Sizes.{size_gap}
use Rattle.lists.specs.Tests.{true_or_false, not_both, ltb_same}
use Rattle.lists.specs.Tab.{is_tab}
use Rattle.lists.specs.Sums.{total}
use Rattle.lists.specs.First.{first, first_in}
use Rattle.lists.specs.Members.{Some, here, later}
use Rattle.lists.specs.Parted.{each_from, each}
use Rattle.lists.proofs.Parted.{each_map}
use Rattle.lists.specs.Each.{without}
use Rattle.lists.proofs.Each.{each_at}
use Rattle.scheme.specs.Units.{step, Station, most_scans, Buddies, Plan, R, E, B, L, Request, guess}
use Rattle.scheme.specs.Refusals.{Refusal, accepted, refused, in_order, refused_if, refused_with, refused_at, bad_scans, bad_scan, bad_buddies, bad_guess, bad_station, Window, from_five}
use Rattle.scheme.specs.Verdicts.{is_accepted}
use Rattle.scheme.specs.Difference.{Row, after_test, tested}
use Rattle.scheme.specs.Weight.{inside}
use Rattle.scheme.specs.Buddies.{Heard, silence, says, heard, is_odd, after_buddies, beside_others}
use Rattle.scheme.specs.Scan.{State, start, differences, all_tested, all_judged, rows_judged, sums_at, corrected, scan, after_within, after, analysis}
use Rattle.scheme.specs.Reach.{steps, whole_at}
use Rattle.scheme.specs.Judging.{no_row}
use Rattle.scheme.proofs.Judging.{few_neighbours_stay, alone_stays, rejected_passes_test, judged_length}
use Rattle.scheme.specs.DeadMasts.{row_after, survivors}
use Rattle.scheme.proofs.DeadMasts.{row_next, rejected_for_good}
use Rattle.scheme.specs.BuddyCheck.{before, scan_before, scan_of, stored_of, tile_of, with_buddies}

-- ---- all are judged at once: in whatever order, one by one, against the same survivors

module _ (p : Plan) (m : ℕ) (D : Station → ℤ) (rows : List Row) where
  -- station n is judged, and its row set
  abbrev judged_at : ℕ → Row
  judged_at n = beside_others (m + 1) (B p) (L p) D (get_or (all_tested p m D rows) n no_row) (without n (all_tested p m D rows))

  -- the rows, after the stations of a list have been judged one after the other, its last first
  unfoldable pub one_by_one : List ℕ → List Row
  one_by_one [] = all_tested p m D rows
  one_by_one (n ∷ ns) = set (one_by_one ns) n (judged_at n)

  one_by_one_length : (ns : List ℕ) → length (one_by_one ns) ≡ length rows
  unfolding one_by_one
  one_by_one_length [] = length-map rows (tested (m + 1) (E p m) D)
  one_by_one_length (n ∷ ns) = length-set (one_by_one ns) n (judged_at n) ∙ one_by_one_length ns

  -- who is on the list has been judged
  is_judged : (k : ℕ) → k < length rows → {ns : List ℕ} → Some (λ n. n ≡ k) ns → get_or (one_by_one ns) k no_row ≡ judged_at k
  unfolding one_by_one
  is_judged k h (here {a = n} {xs = ns} e) =
      rw e (get_or-set_same (one_by_one ns) k (judged_at k) no_row (omega (arith, one_by_one_length ns)))
  is_judged k h (later {a = n} {xs = ns} s) = go (true_or_false (eqb k n)) (is_judged k h s)
    where
      go : (eqb k n ≡ true) ⊎ (eqb k n ≡ false) → get_or (one_by_one ns) k no_row ≡ judged_at k → get_or (set (one_by_one ns) n (judged_at n)) k no_row ≡ judged_at k
      go (inl e) r =
          let same = eqb-true k n e in
          ap (λ (i : ℕ). get_or (set (one_by_one ns) i (judged_at i)) k no_row) (sym same) ∙ get_or-set_same (one_by_one ns) k (judged_at k) no_row (omega (arith, one_by_one_length ns))
      go (inr e) r = get_or-set_other (one_by_one ns) n k (judged_at n) no_row (λ same. not_both (sym (eq-eqb k n same) ∙ e)) ∙ r

  pub judged_at_once : (ns : List ℕ) → ((k : ℕ) → k < length rows → Some (λ n. n ≡ k) ns) → one_by_one ns ≡ all_judged p m D rows
  judged_at_once ns all =
      is_tab no_row (length rows) judged_at (one_by_one ns) (one_by_one_length ns) (λ k h. is_judged k h (all k h))
      ∙ sym (is_tab no_row (length rows) judged_at (all_judged p m D rows) (judged_length p m D rows) at)
    where
      at : (k : ℕ) → k < length rows → get_or (all_judged p m D rows) k no_row ≡ judged_at k
      at k h =
          unfold all_judged in
          each_at (beside_others (m + 1) (B p) (L p) D) no_row no_row (all_tested p m D rows) k (rw (length-map rows (tested (m + 1) (E p m) D)) h)

-- ---- the check off

map_same : {A : Type 0} (xs : List A) → map (λ (a : A). a) xs ≡ xs
map_same [] = refl
map_same {A = A} (a ∷ xs) = ap (λ (r : List A). a ∷ r) (map_same xs)

-- with B = 0 the E test alone judges
alone_judged : (p : Plan) (m : ℕ) (D : Station → ℤ) (rows : List Row) → B p ≡ 0 → all_judged p m D rows ≡ all_tested p m D rows
unfolding all_judged
alone_judged p m D rows e =
    ap (λ (b : ℕ). each (beside_others (m + 1) b (L p) D) (all_tested p m D rows)) e
    ∙ ap (λ (f : Row → List Row → Row). each f (all_tested p m D rows)) (fun_ext (λ r. fun_ext (alone_stays (m + 1) (L p) D r)))
    ∙ each_map (λ r. r) (all_tested p m D rows)
    ∙ map_same (all_tested p m D rows)

module _ (q : Request) (off : q.plan.buddies.on ≡ false) where
  no_B : B q.plan ≡ 0
  unfolding B
  no_B = rw off

  scan_as_before : (m : ℕ) (found : State) → scan q m found ≡ scan_before q m found
  unfolding scan scan_before corrected sums_at rows_judged
  scan_as_before m found = ap (scan_of q m found) (alone_judged q.plan m (differences q found) found.rows no_B)

  pub off_runs_as_before : (m : ℕ) → after q m ≡ before q m
  unfolding after_within before
  off_runs_as_before zero = refl
  off_runs_as_before (suc m) = ap (scan q m) (off_runs_as_before m) ∙ scan_as_before m (before q m)

  pub off_analyses_as_before : analysis q ≡ stored_of q (before q q.plan.scans)
  unfolding analysis
  off_analyses_as_before = ap (stored_of q) (off_runs_as_before q.plan.scans)

  pub off_answers_windows_as_before : (w : Window) → whole_at q w ≡ tile_of w (before q q.plan.scans)
  unfolding whole_at
  off_answers_windows_as_before w = ap (tile_of w) (off_runs_as_before q.plan.scans)

  -- nor does it refuse, or widen a window
  pub off_refuses_as_before : in_order (from_five q)
      ≡ in_order (refused_if 5 (bad_scans q.plan) ∷ refused_at 6 (first q.plan.scans (bad_scan q.plan)) ∷ refused_at 7 (first_in bad_guess q.first_guess) ∷ refused_at 8 (first_in bad_station q.stations) ∷ [])
  unfolding from_five
  off_refuses_as_before =
      rw (none_refused)
      (go (refused_if 5 (bad_scans q.plan)) (refused_at 6 (first q.plan.scans (bad_scan q.plan))) (refused_at 7 (first_in bad_guess q.first_guess) ∷ refused_at 8 (first_in bad_station q.stations) ∷ []))
    where
      none_refused : refused_with 6 most_scans (bad_buddies q.plan) ≡ accepted
      none_refused = unfold bad_buddies refused_with in rw off

      go : (five six : Refusal) (rest : List Refusal) → in_order (five ∷ six ∷ accepted ∷ rest) ≡ in_order (five ∷ six ∷ rest)
      go accepted accepted rest = unfold in_order in refl
      go accepted (refused n k) rest = unfold in_order in refl
      go (refused n k) six rest = unfold in_order in refl

  pub off_reaches_as_before : (m : ℕ) → steps q.plan m ≡ (R q.plan m + (step - 1)) / step + cond q.plan.smooth 1 0
  unfolding steps
  off_reaches_as_before m = let e : R q.plan m + 0 ≡ R q.plan m = omega arith in rw (no_B, e)

module _ (q : Request) (off : q.plan.buddies.on ≡ false) (b : Buddies) (off' : b.on ≡ false) where
  same_before : (m : ℕ) → before (with_buddies b q) m ≡ before q m
  unfolding before scan_before start R E guess
  same_before zero = refl
  same_before (suc m) = ap (scan_before q m) (same_before m)

  pub off_neither_is_read : analysis (with_buddies b q) ≡ analysis q
  off_neither_is_read =
      off_analyses_as_before (with_buddies b q) off'
      ∙ ap (stored_of q) (same_before q.plan.scans)
      ∙ sym (off_analyses_as_before q off)

-- ---- who has fewer than two neighbours is never set aside

pub fewer_than_two_are_left_to_the_test : (q : Request) (m n : ℕ)
    → (heard (B q.plan) (differences q (after q m)) (row_after q m n).station (survivors q m n)).count < 2
    → row_after q (suc m) n ≡ tested (m + 1) (E q.plan m) (differences q (after q m)) (row_after q m n)
fewer_than_two_are_left_to_the_test q m n few =
    row_next q m n
    ∙ few_neighbours_stay (m + 1) (B q.plan) (L q.plan) (differences q (after q m)) (tested (m + 1) (E q.plan m) (differences q (after q m)) (row_after q m n)) (survivors q m n)
    (unfold tested in few)

-- ---- set aside for good

-- a survivor of the E test that has two neighbours at least, from whose sum n·D differs by more than n·L
pub set_aside_exactly_when_odd : (q : Request) (m n : ℕ) → (let D = differences q (after q m) in
    let t = tested (m + 1) (E q.plan m) D (row_after q m n) in
    is_accepted t.verdict ≡ true
    → (row_after q (suc m) n).verdict ≡ cond (is_odd (L q.plan) (D (row_after q m n).station) (heard (B q.plan) D (row_after q m n).station (survivors q m n))) (20 + (m + 1)) 0)
unfolding beside_others after_buddies tested
set_aside_exactly_when_odd q m n a = ap (λ (r : Row). r.verdict) (row_next q m n) ∙ go (after_test (m + 1) (E q.plan m) (differences q (after q m) (row_after q m n).station) (row_after q m n).verdict) a
  where
    D : ℤ
    D = differences q (after q m) (row_after q m n).station

    neighbours : Heard
    neighbours = heard (B q.plan) (differences q (after q m)) (row_after q m n).station (survivors q m n)

    go : (v : ℕ) → is_accepted v ≡ true → after_buddies (m + 1) (L q.plan) D neighbours v ≡ cond (is_odd (L q.plan) D neighbours) (20 + (m + 1)) 0
    go v e = unfold after_buddies in rw e (ap (cond (is_odd (L q.plan) D neighbours) (20 + (m + 1))) (eqb-true v 0 e))

-- it says nothing to anyone in the scans after: it is no neighbour there
pub set_aside_is_no_neighbour : (q : Request) (k n t : ℕ) → is_accepted (row_after q (suc k) n).verdict ≡ false → (radius scan limit : ℕ) (D : Station → ℤ) (s : Station)
    → says radius D s (tested scan limit D (row_after q (suc k + t) n)) ≡ silence
set_aside_is_no_neighbour q k n t e radius scan limit D s =
    rw (rejected_for_good q (suc k) n t e, rejected_passes_test scan limit D (row_after q (suc k) n) e) (unfold says in rw e)

-- ---- two that agree with each other, alone with a third

-- of difference D, beside one of D and one of D': n·D and the sum differ as D and D' do
odd_of_two : (limit : ℕ) (D D' : ℤ) → is_odd limit D (record { count = 2; sum = D +ℤ D' }) ≡ ltb (2 * limit) (nat_abs (D -ℤ D'))
unfolding is_odd
odd_of_two limit D D' = ap (λ (n : ℕ). ltb (2 * limit) n) (same_size (pos 2 *ℤ D -ℤ (D +ℤ D')) (D -ℤ D') (omega (arith, minus_parts (pos 2 *ℤ D) (D +ℤ D'), mul_parts (pos 2) D, add_parts D D', minus_parts D D')))
  where
    same_size : (a b : ℤ) → up a + dn b ≡ up b + dn a → nat_abs a ≡ nat_abs b
    same_size a b e = ap nat_abs (eq_parts a b e)

-- of difference D', beside two of D: twice as much
odd_third : (limit : ℕ) (D D' : ℤ) → is_odd limit D' (record { count = 2; sum = D +ℤ D }) ≡ ltb limit (nat_abs (D -ℤ D'))
unfolding is_odd
odd_third limit D D' =
    let twice : nat_abs (pos 2 *ℤ D' -ℤ (D +ℤ D)) ≡ 2 * nat_abs (D -ℤ D') =
    omega (
      arith,
      size_gap (pos 2 *ℤ D' -ℤ (D +ℤ D)) (2 * dn D' + 2 * up D) (2 * up D' + 2 * dn D) (omega (arith, minus_parts (pos 2 *ℤ D') (D +ℤ D), mul_parts (pos 2) D', add_parts D D)),
      size_gap (D -ℤ D') (dn D + up D') (up D + dn D') (minus_parts D D'),
    ) in
    rw twice (ltb_same (2 * limit) (2 * nat_abs (D -ℤ D')) limit (nat_abs (D -ℤ D')) (λ h. omega arith) (λ h. omega arith))

-- three survivors, each within B of the others
module _ (scan radius limit : ℕ) (D : Station → ℤ) (a b c : Row) where
  -- o is a survivor, nearer than B to the station of r
  abbrev pub IsNear : Row → Row → Type 0
  IsNear r o = (is_accepted o.verdict ≡ true) × (inside (radius * radius) (o.station.x -ℤ r.station.x) (o.station.y -ℤ r.station.y) ≡ true)

  hears_both : (r o o' : Row) → IsNear r o → IsNear r o' → heard radius D r.station (o ∷ o' ∷ []) ≡ record { count = 2; sum = D o.station +ℤ D o'.station }
  unfolding heard total says
  hears_both r o o' (v, n) (v', n') = rw (v, n, v', n') (simp +ℤ_idr)

  -- the third is set aside if it differs by more than L, and the two that agree if by more than 2L
  pub two_that_agree_and_a_third : D a.station ≡ D b.station → IsNear a b → IsNear a c → IsNear b a → IsNear b c → IsNear c a → IsNear c b
      → (let apart = nat_abs (D a.station -ℤ D c.station) in
      map (λ (r : Row). r.verdict) (each (beside_others scan radius limit D) (a ∷ b ∷ c ∷ []))
      ≡ cond (ltb (2 * limit) apart) (20 + scan) 0 ∷ cond (ltb (2 * limit) apart) (20 + scan) 0 ∷ cond (ltb limit apart) (20 + scan) 0 ∷ [])
  unfolding each each_from beside_others
  two_that_agree_and_a_third same ab ac ba bc ca cb =
      let of_two = odd_of_two limit (D a.station) (D c.station) in
      let first = ap (λ (d : ℤ). is_odd limit (D a.station) (record { count = 2; sum = d +ℤ D c.station })) (sym same) ∙ of_two in
      let second = ap (λ (d : ℤ). is_odd limit d (record { count = 2; sum = D a.station +ℤ D c.station })) (sym same) ∙ of_two in
      let third = ap (λ (d : ℤ). is_odd limit (D c.station) (record { count = 2; sum = D a.station +ℤ d })) (sym same) ∙ odd_third limit (D a.station) (D c.station) in
      cc (
        survives a (b ∷ c ∷ []) ba.0 (hears_both a b c ab ac) ∙ chosen first,
        survives b (a ∷ c ∷ []) ab.0 (hears_both b a c ba bc) ∙ chosen second,
        survives c (a ∷ b ∷ []) ac.0 (hears_both c a b ca cb) ∙ chosen third,
      )
    where
      survives : (r : Row) (others : List Row) → is_accepted r.verdict ≡ true → {h : Heard} → heard radius D r.station others ≡ h
          → after_buddies scan limit (D r.station) (heard radius D r.station others) r.verdict ≡ cond (is_odd limit (D r.station) h) (20 + scan) 0
      survives r others v {h = h} e = unfold after_buddies in rw (e, v) (ap (cond (is_odd limit (D r.station) h) (20 + scan)) (eqb-true r.verdict 0 v))

      chosen : {t u : Bool} → t ≡ u → cond t (20 + scan) 0 ≡ cond u (20 + scan) 0
      chosen e = ap (λ (t : Bool). cond t (20 + scan) 0) e
