-- The answer to an accepted request is below 56,000 bytes: its values have at most 8 digits and a sign, support and verdicts at most 2 digits.
use Prim.Native.Nat.{ℕ, zero, suc, ◌+◌, ◌*◌, ◌/◌, ◌%◌, ◌≤◌, ◌<◌}
use native.Mathlib.Omega.{arith}
use Rattle.std.proofs.Math.Nat.{mul-le-mul, mul-le-mul_right, suc-mul, pow-le-pow_right}
use Rattle.std.specs.Prelude.{◌≡◌, refl, Bool, ◌&&◌, ltb, take, drop, ℤ, nat_abs}
use mathlib.Core.List.{List, [], ◌∷◌, ◌++◌}
use Rattle.std.proofs.Math.ListN.{length, length-append, length-take}
use Rattle.lists.specs.Tests.{cond_both}
use Rattle.lists.specs.Members.{All, none, more, all_map, all_of, all_take, all_drop, all_tab}
use Rattle.scheme.specs.Units.{Station, most_beyond, stored, E, L, Request, Call, asked}
use Rattle.scheme.specs.Refusals.{accepted, analysis_refusal}
use Rattle.scheme.specs.Verdicts.{is_accepted, first_that_fits, before_scans}
use Rattle.scheme.specs.Difference.{Row, after_test, tested}
use Rattle.scheme.specs.Buddies.{Heard, is_odd, after_buddies, beside_others}
use Rattle.scheme.specs.Scan.{State, differences, start, rows_judged, scan, after_within, after, analysis}
use Rattle.scheme.specs.Text.{first_two, analysis_text}
use Rattle.scheme.specs.Text.Pieces.{ascii, mark}
use Rattle.scheme.specs.Text.Printed.{spelled, decimal, integer, cells, keyed, grid_lines}
use Rattle.scheme.specs.Accepted.{Sound}
use Rattle.scheme.proofs.Accepted.{analysis_sound}
use Rattle.scheme.proofs.Judging.{judged_beside, all-judged}
use Rattle.scheme.proofs.Lengths.{verdict_long}
use Rattle.scheme.proofs.Bounds.{fields_stay_within}
use Rattle.scheme.proofs.Support.{support_small}
use Rattle.scheme.proofs.Decimals.{decimal_length, integer_length}
use Rattle.scheme.specs.AnswerSize.{Small}

-- ---- verdicts are at most 26

fits_small : (most : ℕ) {fs : List (Bool × ℕ)} → All (λ f. f.1 ≤ most) fs → first_that_fits fs ≤ most
unfolding first_that_fits
fits_small most none = omega arith
fits_small most (more {a = f} h r) = cond_both (λ n. n ≤ most) f.0 _ _ (λ e. h) (λ e. fits_small most r)

test_small : (scan limit : ℕ) (D : ℤ) (verdict : ℕ) → scan ≤ 6 → verdict ≤ 26 → after_test scan limit D verdict ≤ 26
unfolding after_test
test_small scan limit D verdict h k =
    cond_both (λ n. n ≤ 26) (is_accepted verdict) _ verdict (λ e. cond_both (λ n. n ≤ 26) (ltb limit (nat_abs D)) (10 + scan) 0 (λ f. omega arith) (λ f. omega arith)) (λ e. k)

buddies_small : (scan limit : ℕ) (D : ℤ) (h : Heard) (verdict : ℕ) → scan ≤ 6 → verdict ≤ 26 → after_buddies scan limit D h verdict ≤ 26
unfolding after_buddies
buddies_small scan limit D h verdict few small =
    cond_both (λ n. n ≤ 26) (is_accepted verdict && is_odd limit D h) (20 + scan) verdict (λ e. omega arith) (λ e. small)

module _ (q : Request) where
  before_small : (s : Station) → before_scans most_beyond q.nx q.ny q.T q.A s ≤ 26
  unfolding before_scans
  before_small s = fits_small 26 (more (omega arith) (more (omega arith) (more (omega arith) (more (omega arith) (more (omega arith) none)))))

  first_small : All Small (start most_beyond q).rows
  unfolding start
  first_small = all_map (λ s. before_scans most_beyond q.nx q.ny q.T q.A s ≤ 26) Small _ (λ s h. h) (all_of _ before_small q.stations)

  scan_small : (m : ℕ) (found : State) → m < 6 → All Small found.rows → All Small (scan q m found).rows
  unfolding scan rows_judged
  scan_small m found h r = all-judged q.plan m (differences q found) Small Small one r
    where
      one : (o : Row) (survivors : List Row) → Small o → Small (judged_beside q.plan m (differences q found) o survivors)
      one o survivors k =
          unfold beside_others tested in
          buddies_small (m + 1) (L q.plan) _ _ _ (omega arith) (test_small (m + 1) (E q.plan m) _ o.verdict (omega arith) k)

  verdicts_small : (m : ℕ) → m ≤ 6 → All Small (after q m).rows
  unfolding after_within
  verdicts_small zero h = first_small
  verdicts_small (suc m) h = scan_small m (after q m) h (verdicts_small m (omega arith))

-- ---- the lengths of lines

module _ {A : Type 0} (shown : A → List ℕ) (digits : ℕ) where
  abbrev Shows : A → Type 0
  Shows v = length (shown v) ≤ digits

  cells_length : {vs : List A} → All Shows vs → length (cells shown vs) ≤ length vs * (digits + 1)
  unfolding cells
  cells_length none = omega arith
  cells_length (more {a = v} {xs = vs} h r) =
      omega (arith, length-append (shown v) (mark (length vs) ∷ cells shown vs), cells_length r, suc-mul (length vs) (digits + 1))

  keyed_length : (key : List ℕ) {vs : List A} → All Shows vs → length (keyed key shown vs) ≤ length key + 1 + length vs * (digits + 1)
  unfolding keyed
  keyed_length key none = omega (arith, length-append key (10 ∷ []))
  keyed_length key (more {a = v} {xs = vs} h r) =
      omega (arith, length-append key (cells shown (v ∷ vs)), cells_length (more {a = v} {xs = vs} h r))

  lines_length : (key : List ℕ) (nx ny : ℕ) {vs : List A} → All Shows vs → length (grid_lines key shown nx ny vs) ≤ ny * (length key + 1 + nx * (digits + 1))
  unfolding grid_lines
  lines_length key nx zero h = omega arith
  lines_length key nx (suc ny) {vs = vs} h =
      omega (
        arith,
        length-append (keyed key shown (take nx vs)) (grid_lines key shown nx ny (drop nx vs)),
        keyed_length key (all_take Shows nx h),
        mul-le-mul_right (digits + 1) (short nx vs),
        lines_length key nx ny (all_drop Shows nx h),
        suc-mul ny (length key + 1 + nx * (digits + 1)),
      )
    where
      short : (n : ℕ) (l : List A) → length (take n l) ≤ n
      short n l = omega (arith, length-take n l)

-- ---- the answer

head_length : length (first_two 0 0) ≡ 18
unfolding first_two keyed cells decimal spelled
head_length = refl

module _ (q : Request) (sound : Sound q) where
  grid_shows : All (λ z. length (integer z) ≤ 9) (analysis q).grid
  unfolding analysis stored
  grid_shows =
      all_tab (λ z. length (integer z) ≤ 9) (q.nx * q.ny) _
      (λ k. integer_length 7 _ (omega (arith, fields_stay_within q sound q.plan.scans (omega arith) (k % q.nx) (k / q.nx))))

  support_shows : All (λ n. length (decimal n) ≤ 2) (analysis q).support
  unfolding analysis stored
  support_shows =
      all_tab (λ n. length (decimal n) ≤ 2) (q.nx * q.ny) _
      (λ k. decimal_length 1 _ (omega (arith, support_small q (k % q.nx) (k / q.nx) q.plan.scans, pow-le-pow_right {n = 2} (omega arith) {i = q.plan.scans} sound.plan.scans_few)))

  verdict_shows : All (λ n. length (decimal n) ≤ 2) (analysis q).verdict
  unfolding analysis
  verdict_shows = all_map Small (λ n. length (decimal n) ≤ 2) _ (λ r h. decimal_length 1 r.verdict (omega arith)) (verdicts_small q q.plan.scans sound.plan.scans_few)

  pub sound_answer_is_short : length (analysis_text q.nx q.ny (analysis q)) < 56000
  unfolding analysis_text
  sound_answer_is_short =
      let rows = grid_lines (ascii "row=") integer q.nx q.ny (analysis q).grid in
      let sups = grid_lines (ascii "sup=") decimal q.nx q.ny (analysis q).support in
      let vers = keyed (ascii "ver=") decimal (analysis q).verdict in
      omega (
        arith,
        length-append (first_two 0 0 ++ rows ++ sups) vers,
        length-append (first_two 0 0 ++ rows) sups,
        length-append (first_two 0 0) rows,
        head_length,
        lines_length integer 9 (ascii "row=") q.nx q.ny grid_shows,
        lines_length decimal 2 (ascii "sup=") q.nx q.ny support_shows,
        keyed_length decimal 2 (ascii "ver=") verdict_shows,
        verdict_long q,
        sound.few_stations,
        mul-le-mul sound.shape.few_rows sound.shape.few_columns,
        sound.shape.few_rows,
      )

-- an accepted request is answered in fewer than 56,000 bytes
pub accepted_answer_is_short : (c : Call) (grid support verdict : ℕ) → analysis_refusal c grid support verdict ≡ accepted
    → length (analysis_text c.nx c.ny (analysis (asked c))) < 56000
accepted_answer_is_short c grid support verdict e = sound_answer_is_short (asked c) (analysis_sound c grid support verdict e)
