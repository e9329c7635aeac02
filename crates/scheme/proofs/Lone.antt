-- The lone-station rule, old and new (document 02, 6). The two rules judge and support alike, and differ only at points with exactly one accepted
-- station inside the radius: there rule 1 moves the point by all of D, and rule 2 by its weight of it, the same at the station itself.
use Prim.Native.Nat.{ℕ, zero, suc, ◌+◌, ◌*◌, ◌/◌, ◌≤◌, ◌<◌}
use Rattle.std.proofs.Common.{arith, mul-le-mul_right, zero-add, sym, ◌∙◌, inl, inr, le-leb, leb-true, ne_eqb, eqb-true}
use Rattle.std.proofs.Math.Nat.{add-mul-div_right, div-eq_of_lt}
use Rattle.std.specs.Prelude.{◌≡◌, ◌⊎◌, Bool, ◌&&◌, eqb, ℤ, negsuc, ◌+ℤ◌, ◌-ℤ◌, ◌*ℤ◌}
use Rattle.std.proofs.Math.Path.{refl, ap, fun_ext}
use Rattle.std.proofs.Math.Bool.{true, false, cond}
use mathlib.Core.List.{List, [], ◌∷◌, map}
use Rattle.std.proofs.Math.ListN.{length}
use Rattle.std.proofs.Math.IntN.{pos, neg_ℤ, zero-*ℤ}
use Rattle.lists.specs.Tests.{true_or_false, not_both, cond_same}
use Rattle.lists.specs.Sums.{total}
use Rattle.lists.specs.Members.{Some, here, later, some_also}
use Rattle.lists.specs.Keep.{keep}
use Rattle.scheme.specs.Units.{Field, stored, Station, equation_rule, listing_rule, R, E, B, L, Request, guess}
use Rattle.scheme.specs.Verdicts.{is_accepted, on_grid}
use Rattle.scheme.specs.Rounding.{half_up, rounded}
use Rattle.scheme.specs.Value.{value_at}
use Rattle.scheme.specs.Difference.{Row, difference}
use Rattle.scheme.specs.Weight.{scale}
use Rattle.scheme.specs.Correction.{Sums, nothing, plus, share, is_lone, divisor, correction, backed_by}
use Rattle.scheme.specs.Smoothing.{smoothed}
use Rattle.scheme.specs.Scan.{State, start, differences, all_judged, rows_judged, sums_at, corrected, scan, after_within, after, analysis}
use Rattle.scheme.proofs.Adding.{nothing_plus, plus_nothing}
use Rattle.scheme.proofs.Nearest.{rounded_turned, half_size}
use Rattle.scheme.proofs.Streaks.{weight_lies_in_the_scale}
use Rattle.scheme.specs.Gifts.{weighed, sums, inside_there, weight_there}
use Rattle.scheme.proofs.Gifts.{accepted_gives, rejected_gives_nothing, outside_gives_nothing}
use Rattle.scheme.specs.Stored.{Same}
use Rattle.scheme.proofs.Stored.{stored_same, sum_same, smoothed_same}
use Rattle.scheme.specs.Lone.{Toward, is_heard, with_rule}

-- ---- the sums of a point, under either rule

-- rule 1 is document 01's
pub rule_1_is_document_01 : (s : Sums) → correction equation_rule s ≡ cond (eqb s.weights 0) (pos 0) (rounded s.pulls s.weights)
unfolding correction divisor
rule_1_is_document_01 s = refl

-- they differ only with exactly one station inside
pub rules_agree_unless_lone : (rule rule' : ℕ) (s : Sums) → is_lone s ≡ false → correction rule s ≡ correction rule' s
unfolding correction
rules_agree_unless_lone rule rule' s e = ap (λ (d : ℕ). cond (eqb s.weights 0) (pos 0) (rounded s.pulls d)) (by_weights rule ∙ sym (by_weights rule'))
  where
    by_weights : (rule : ℕ) → divisor rule s ≡ s.weights
    by_weights rule = unfold divisor in (rw e (go (eqb rule listing_rule)))
      where
        go : (b : Bool) → cond (b && false) scale s.weights ≡ s.weights
        go true = refl
        go false = refl

-- and not where its weight is the whole scale, as it is at the station itself
pub rules_agree_at_the_whole_scale : (rule rule' : ℕ) (s : Sums) → s.weights ≡ scale → correction rule s ≡ correction rule' s
unfolding correction
rules_agree_at_the_whole_scale rule rule' s e = ap (λ (d : ℕ). cond (eqb s.weights 0) (pos 0) (rounded s.pulls d)) (by_scale rule ∙ sym (by_scale rule'))
  where
    by_scale : (rule : ℕ) → divisor rule s ≡ scale
    by_scale rule = unfold divisor in cond_same (eqb rule listing_rule && is_lone s) scale s.weights scale (λ b. refl) (λ b. e)

-- ---- a lone station of weight w and difference D

-- under rule 2 it moves the point by weight·D over the scale, also without any weight
pub lone_moves_by_its_weight : (w : ℕ) (D : ℤ) → correction listing_rule (weighed true w D) ≡ rounded (pos w *ℤ D) scale
unfolding correction divisor rounded
lone_moves_by_its_weight zero D = sym (ap (λ (z : ℤ). rounded z scale) (zero-*ℤ D))
lone_moves_by_its_weight (suc w) D = rw (ne_eqb (suc w) 0 (λ e. omega arith))

-- under rule 1 by all of D, if it has any
pub lone_moves_by_all_of_D : (w : ℕ) (D : ℤ) → 0 < w → correction equation_rule (weighed true w D) ≡ D
unfolding correction divisor
lone_moves_by_all_of_D zero D h = absurd (omega arith)
lone_moves_by_all_of_D (suc w) D h = rw (ne_eqb (suc w) 0 (λ e. omega arith)) (go D)
  where
    whole : (n : ℕ) → half_up (suc w * n) (suc w) ≡ n
    whole n =
        let e : 2 * (suc w * n) + suc w ≡ suc w + n * (2 * suc w) = omega arith in
        let none : suc w / (2 * suc w) ≡ 0 = div-eq_of_lt (omega arith) in
        ap (λ (t : ℕ). t / (2 * suc w)) e ∙ add-mul-div_right (suc w) n (omega arith) ∙ ap (λ (t : ℕ). t + n) none ∙ zero-add n

    go : (D : ℤ) → rounded (pos (suc w) *ℤ D) (suc w) ≡ D
    go (pos n) = unfold rounded in ap pos (whole n)
    go (negsuc n) = rounded_turned (suc w * suc n) (suc w) (omega arith) ∙ ap (λ (t : ℕ). neg_ℤ (pos t)) (whole (suc n))

module _ (w : ℕ) (within : w ≤ scale) where
  size : (n : ℕ) → half_up (w * n) scale ≤ n
  size n = half_size (w * n) scale n (omega (arith, mul-le-mul_right n within))

  up_to : (n h : ℕ) → h ≤ n → Toward (pos n) (pos h)
  up_to n h l = (λ e. rw (le-leb 0 h (omega arith), le-leb h n l), λ e. (let none : n ≤ 0 = leb-true n 0 e in rw (le-leb n h (omega arith), le-leb h 0 (omega arith))))

  down_to : (n h : ℕ) → h ≤ suc n → Toward (negsuc n) (neg_ℤ (pos h))
  down_to n zero l = (λ e. absurd (not_both (sym e)), λ e. refl)
  down_to n (suc h) l = (λ e. absurd (not_both (sym e)), λ e. rw (le-leb h n (omega arith)))

  toward : (D : ℤ) → Toward D (rounded (pos w *ℤ D) scale)
  toward (pos n) = unfold rounded in up_to n (half_up (w * n) scale) (size n)
  toward (negsuc n) = rw (rounded_turned (w * suc n) scale (omega arith)) (down_to n (half_up (w * suc n) scale) (size (suc n)))

  -- so that under rule 2 a lone station never moves a point away from its reading, nor past it
  pub lone_moves_toward_D : (D : ℤ) → Toward D (correction listing_rule (weighed true w D))
  lone_moves_toward_D D = rw (lone_moves_by_its_weight w D) (toward D)

-- ---- how many are inside, and which one a lone station is

module _ (mode radius : ℕ) (D : Station → ℤ) (i j : ℕ) where
  abbrev heard : Row → Bool
  heard = is_heard radius i j

  -- what one inside gives
  abbrev gives : Row → Sums
  gives r = weighed true (weight_there mode radius i j r) (D r.station)

  -- a row gives as an accepted station inside, or nothing
  share_is : (r : Row) → ((heard r ≡ true) × (share mode radius D i j r ≡ gives r)) ⊎ ((heard r ≡ false) × (share mode radius D i j r ≡ nothing))
  share_is r = go (true_or_false (is_accepted r.verdict)) (true_or_false (inside_there radius i j r))
    where
      go : (is_accepted r.verdict ≡ true) ⊎ (is_accepted r.verdict ≡ false) → (inside_there radius i j r ≡ true) ⊎ (inside_there radius i j r ≡ false)
          → ((heard r ≡ true) × (share mode radius D i j r ≡ gives r)) ⊎ ((heard r ≡ false) × (share mode radius D i j r ≡ nothing))
      go (inr v) b = inr (rw v, rejected_gives_nothing mode radius D i j r v)
      go (inl v) (inr b) = inr (rw (v, b), outside_gives_nothing mode radius D i j r b)
      go (inl v) (inl b) =
          inl (rw (v, b), accepted_gives mode radius D i j r v ∙ ap (λ (t : Bool). weighed t (weight_there mode radius i j r) (D r.station)) b)

  -- the count is that of the accepted stations strictly inside, whatever their weight
  pub inside_is_how_many : (rows : List Row) → (sums mode radius D rows i j).inside ≡ length (keep (is_heard radius i j) rows)
  unfolding total keep
  inside_is_how_many [] = refl
  inside_is_how_many (r ∷ rows) = go (share_is r) (inside_is_how_many rows)
    where
      go : ((heard r ≡ true) × (share mode radius D i j r ≡ gives r)) ⊎ ((heard r ≡ false) × (share mode radius D i j r ≡ nothing))
          → (sums mode radius D rows i j).inside ≡ length (keep heard rows)
          → (share mode radius D i j r).inside + (sums mode radius D rows i j).inside ≡ length (cond (heard r) (r ∷ keep heard rows) (keep heard rows))
      go (inl (h, e)) k = rw (e, h, k) (omega arith)
      go (inr (h, e)) k = rw (e, h, k) (omega arith)

  none_inside : (rows : List Row) → (sums mode radius D rows i j).inside ≡ 0 → sums mode radius D rows i j ≡ nothing
  unfolding total
  none_inside [] e = refl
  none_inside (r ∷ rows) e = go (share_is r) (none_inside rows)
    where
      go : ((heard r ≡ true) × (share mode radius D i j r ≡ gives r)) ⊎ ((heard r ≡ false) × (share mode radius D i j r ≡ nothing))
          → ((sums mode radius D rows i j).inside ≡ 0 → sums mode radius D rows i j ≡ nothing)
          → plus (share mode radius D i j r) (sums mode radius D rows i j) ≡ nothing
      go (inl (h, s)) rest = absurd (let n = ap (λ (t : Sums). t.inside) s in omega arith)
      go (inr (h, s)) rest =
          let n = ap (λ (t : Sums). t.inside) s in
          rw (s, rest (omega arith)) (nothing_plus nothing)

  -- exactly one is inside: it alone is what the point hears
  pub lone_is_heard_alone : (rows : List Row) → (sums mode radius D rows i j).inside ≡ 1
      → Some (λ r. (is_heard radius i j r ≡ true) × (sums mode radius D rows i j ≡ weighed true (weight_there mode radius i j r) (D r.station))) rows
  unfolding total
  lone_is_heard_alone [] e = absurd (omega arith)
  lone_is_heard_alone (r ∷ rows) e = go (share_is r) (lone_is_heard_alone rows)
    where
      go : ((heard r ≡ true) × (share mode radius D i j r ≡ gives r)) ⊎ ((heard r ≡ false) × (share mode radius D i j r ≡ nothing))
          → ((sums mode radius D rows i j).inside ≡ 1 → Some (λ o. (heard o ≡ true) × (sums mode radius D rows i j ≡ gives o)) rows)
          → Some (λ o. (heard o ≡ true) × (plus (share mode radius D i j r) (sums mode radius D rows i j) ≡ gives o)) (r ∷ rows)
      go (inl (h, s)) rest =
          let n = ap (λ (t : Sums). t.inside) s in
          here {a = r} (h, rw (s, none_inside rows (omega arith)) (plus_nothing (gives r)))
      go (inr (h, s)) rest =
          let n = ap (λ (t : Sums). t.inside) s in
          later (some_also _ (λ o. (heard o ≡ true) × (plus (share mode radius D i j r) (sums mode radius D rows i j) ≡ gives o))
          (λ o k. (k.0, rw s (nothing_plus (sums mode radius D rows i j) ∙ k.1))) (rest (omega arith)))

-- ---- a scan, from the same state

module _ (q : Request) (rule m : ℕ) (found : State) where
  pub rules_judge_alike : rows_judged (with_rule rule q) m found ≡ rows_judged q m found
  unfolding rows_judged all_judged E B L guess
  rules_judge_alike = refl

  pub rules_sum_alike : sums_at (with_rule rule q) m found ≡ sums_at q m found
  unfolding sums_at rows_judged all_judged R E B L guess
  rules_sum_alike = refl

  pub rules_support_alike : (scan (with_rule rule q) m found).support ≡ (scan q m found).support
  unfolding scan
  rules_support_alike = ap (λ (s : Field Sums). λ i j. backed_by m (s i j) (found.support i j)) rules_sum_alike

  -- before smoothing, a point moves otherwise only where exactly one station is inside, and not where that one stands
  pub rules_differ_only_where_one_is_inside : (i j : ℕ) → is_lone (sums_at q m found i j) ≡ false → corrected (with_rule rule q) m found i j ≡ corrected q m found i j
  unfolding corrected
  rules_differ_only_where_one_is_inside i j e =
      rw rules_sum_alike (ap (λ (c : ℤ). found.field i j +ℤ c) (rules_agree_unless_lone rule q.plan.rule (sums_at q m found i j) e))

  -- where exactly one is inside, it is a row whose weight and difference settle the correction under each rule
  pub record MovesAlone (i j : ℕ) (r : Row) : Type 0 where
    pub accepted_inside : is_heard (R q.plan m) i j r ≡ true
    pub weight : (sums_at q m found i j).weights ≡ weight_there q.plan.mode (R q.plan m) i j r
    pub by_its_weight : correction listing_rule (sums_at q m found i j) ≡ rounded (pos (weight_there q.plan.mode (R q.plan m) i j r) *ℤ differences q found r.station) scale
    pub toward_D : Toward (differences q found r.station) (correction listing_rule (sums_at q m found i j))
    pub by_all_of_D : 0 < weight_there q.plan.mode (R q.plan m) i j r → correction equation_rule (sums_at q m found i j) ≡ differences q found r.station

  pub lone_station_moves_alone : (i j : ℕ) → is_lone (sums_at q m found i j) ≡ true → Some (MovesAlone i j) (rows_judged q m found)
  lone_station_moves_alone i j e =
      some_also (λ r. (is_heard (R q.plan m) i j r ≡ true) × (sums_at q m found i j ≡ gives q.plan.mode (R q.plan m) (differences q found) i j r)) (MovesAlone i j)
      (λ r h. alone r h.0 h.1)
      (unfold sums_at in lone_is_heard_alone q.plan.mode (R q.plan m) (differences q found) i j (rows_judged q m found) (eqb-true _ 1 e))
    where
      alone : (r : Row) → is_heard (R q.plan m) i j r ≡ true → sums_at q m found i j ≡ gives q.plan.mode (R q.plan m) (differences q found) i j r → MovesAlone i j r
      alone r h e =
          let D = differences q found r.station in
          let w = weight_there q.plan.mode (R q.plan m) i j r in
          record {
            accepted_inside = h;
            weight = ap (λ (s : Sums). s.weights) e;
            by_its_weight = ap (correction listing_rule) e ∙ lone_moves_by_its_weight w D;
            toward_D = rw e (lone_moves_toward_D w (weight_lies_in_the_scale q.plan.mode _ _ _ _) D);
            by_all_of_D = λ some. ap (correction equation_rule) e ∙ lone_moves_by_all_of_D w D some;
          }

-- ---- whole answers

-- with one scan the rules have one support and one verdict for each station
pub of_one_scan_the_rules_support_and_judge_alike : (q : Request) (rule : ℕ) → q.plan.scans ≡ 1
    → ((analysis (with_rule rule q)).support ≡ (analysis q).support) × ((analysis (with_rule rule q)).verdict ≡ (analysis q).verdict)
unfolding analysis
of_one_scan_the_rules_support_and_judge_alike q rule one = (
  ap (λ (n : ℕ). stored q.nx q.ny (after (with_rule rule q) n).support) one
      ∙ ap (stored q.nx q.ny) first_support
      ∙ ap (λ (n : ℕ). stored q.nx q.ny (after q n).support) (sym one),
  ap (λ (n : ℕ). verdicts (after (with_rule rule q) n).rows) one ∙ ap verdicts first_rows ∙ ap (λ (n : ℕ). verdicts (after q n).rows) (sym one),
)
  where
    verdicts : List Row → List ℕ
    verdicts = map (λ (r : Row). r.verdict)

    first_support : (after (with_rule rule q) 1).support ≡ (after q 1).support
    first_support = unfold after_within start guess in rules_support_alike q rule 0 (after q 0)

    first_rows : (after (with_rule rule q) 1).rows ≡ (after q 1).rows
    first_rows = unfold after_within scan start guess in rules_judge_alike q rule 0 (after q 0)

-- where no scan finds exactly one station inside at any point of the grid, the rules have one answer
module _ (q : Request) (rule : ℕ) (wide : 2 ≤ q.nx) (high : 2 ≤ q.ny)
    (never : (m i j : ℕ) → m < q.plan.scans → i < q.nx → j < q.ny → is_lone (sums_at q m (after q m) i j) ≡ false) where
  abbrev other : Request
  other = with_rule rule q

  -- what the two runs have in common after m scans
  record Alike (m : ℕ) : Type 0 where
    field : Same q.nx q.ny (after other m).field (after q m).field
    support : Same q.nx q.ny (after other m).support (after q m).support
    rows : (after other m).rows ≡ (after q m).rows

  module _ (m : ℕ) (turn : m < q.plan.scans) (h : Alike m) where
    -- a value at a station is read from the grid
    same_value : (s : Station) → value_at q.nx q.ny (after other m).field s ≡ value_at q.nx q.ny (after q m).field s
    unfolding value_at
    same_value s = ap (λ (v : ℤ). rounded v 4096) (sum_same q.nx q.ny (after other m).field (after q m).field wide high h.field _ _)

    same_D : differences other (after other m) ≡ differences q (after q m)
    unfolding difference guess
    same_D = fun_ext (λ s. ap (λ (v : ℤ). s.value -ℤ v) (go s (on_grid q.nx q.ny s.x s.y)))
      where
        go : (s : Station) (on : Bool) → value_at q.nx q.ny (cond on (after other m).field (guess q)) s ≡ value_at q.nx q.ny (cond on (after q m).field (guess q)) s
        go s true = same_value s
        go s false = refl

    same_rows : rows_judged other m (after other m) ≡ rows_judged q m (after q m)
    unfolding rows_judged all_judged E B L
    same_rows =
        ap (λ (D : Station → ℤ). all_judged q.plan m D (after other m).rows) same_D
        ∙ ap (all_judged q.plan m (differences q (after q m))) h.rows

    same_sums : sums_at other m (after other m) ≡ sums_at q m (after q m)
    unfolding sums_at R
    same_sums =
        fun_ext (λ i. fun_ext (λ j.
        ap (λ (D : Station → ℤ). sums q.plan.mode (R q.plan m) D (rows_judged other m (after other m)) i j) same_D
        ∙ ap (λ (rows : List Row). sums q.plan.mode (R q.plan m) (differences q (after q m)) rows i j) same_rows))

    same_corrected : Same q.nx q.ny (corrected other m (after other m)) (corrected q m (after q m))
    unfolding corrected
    same_corrected i j hi hj =
        ap (λ (f : Field Sums). (after other m).field i j +ℤ correction rule (f i j)) same_sums
        ∙ ap (λ (c : ℤ). (after other m).field i j +ℤ c) (rules_agree_unless_lone rule q.plan.rule (sums_at q m (after q m) i j) (never m i j turn hi hj))
        ∙ ap (λ (z : ℤ). z +ℤ correction q.plan.rule (sums_at q m (after q m) i j)) (h.field i j hi hj)

    alike_next : Alike (suc m)
    unfolding after_within scan
    alike_next =
        record {
          field = smoothed_too q.plan.smooth;
          support =
              λ i j hi hj. ap (λ (f : Field Sums). backed_by m (f i j) ((after other m).support i j)) same_sums
              ∙ ap (backed_by m (sums_at q m (after q m) i j)) (h.support i j hi hj);
          rows = same_rows;
        }
      where
        smoothed_too : (on : Bool) → Same q.nx q.ny (cond on (smoothed q.nx q.ny (corrected other m (after other m))) (corrected other m (after other m)))
            (cond on (smoothed q.nx q.ny (corrected q m (after q m))) (corrected q m (after q m)))
        smoothed_too true = smoothed_same q.nx q.ny (corrected other m (after other m)) (corrected q m (after q m)) same_corrected
        smoothed_too false = same_corrected

  alike : (m : ℕ) → m ≤ q.plan.scans → Alike m
  unfolding after_within start guess
  alike zero h = record { field = λ i j hi hj. refl; support = λ i j hi hj. refl; rows = refl }
  alike (suc m) h = alike_next m h (alike m (omega arith))

  pub where_no_station_is_lone_the_rules_answer_alike : analysis (with_rule rule q) ≡ analysis q
  unfolding analysis
  where_no_station_is_lone_the_rules_answer_alike =
      let a = alike q.plan.scans (omega arith) in
      rw (
        stored_same q.nx q.ny (after other q.plan.scans).field (after q q.plan.scans).field a.field,
        stored_same q.nx q.ny (after other q.plan.scans).support (after q q.plan.scans).support a.support,
        a.rows,
      )
