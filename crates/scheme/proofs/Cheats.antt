-- The four cheats that document 01 names, refuted on its own example: the promises of analysis, window query and program admit none of them.
-- Each is asked for the example, whose plan has one scan, for the example with that scan twice, and for that with smoothing on, under either rule.
use Rattle.std.specs.Prelude.{ℕ, ◌≡◌, true, false, eqb, length, drop, ℤ, pos}
use Rattle.std.proofs.Common.{arith, sym, ap, subst, ◌∙◌}
use Rattle.std.proofs.Math.Path.{refl}
use mathlib.Core.List.{List, ◌++◌}
use Rattle.lists.specs.Tests.{cond_both}
use Rattle.lists.specs.Tab.{tab}
use Rattle.scheme.specs.Units.{stored, equation_rule, Request}
use Rattle.scheme.specs.Refusals.{Refusal, accepted, analysis_refusal, window_refusal}
use Rattle.scheme.specs.Scan.{after, Analysis, analysis}
use Rattle.scheme.specs.Reach.{Tile, window_of, whole_at}
use Rattle.scheme.specs.Text.{answer_text}
use Rattle.scheme.specs.Text.Pieces.{ascii}
use Rattle.scheme.specs.Text.Printed.{spelled, decimal, integer, cells, keyed, grid_lines}
use Rattle.scheme.specs.Promises.{Settles, put_first, Analyses, Queries, Replies}
use Rattle.scheme.specs.Accepted.{Ruled}
use Rattle.scheme.specs.Calls.{call_for}
use Rattle.scheme.proofs.Calls.{asks}
use Rattle.scheme.specs.Example.{by_rule, level, example, corner, once_text, twice_text, smooth_text, once, twice, smooth, only_smoothed, corner_once, corner_twice, corner_smooth, once_answer, twice_answer, smooth_answer}
use Rattle.scheme.proofs.Example.{under_both, example_accepted, example_analysis, example_window, example_cheated, example_text}
use Rattle.scheme.specs.Cheats.{Long, Says, SaysFirst, first_of, first_two_lines, last_digits, row_lines, shown, sup_lines, ver_line}

-- an accepted call answers 0 and leaves its result
done : {A : Type 0} (found : A) {refusal : Refusal} {result left right : A} {answer : ℕ} → refusal ≡ accepted → result ≡ right
    → Settles refusal result found answer left → (answer ≡ 0) × (left ≡ right)
done {A = A} found e r p = (ap (λ (o : ℕ × A). o.0) p ∙ rw e, ap (λ (o : ℕ × A). o.1) p ∙ rw (e, r))

-- two lists that begin with other numbers
begin_otherwise : {l m : List ℤ} (a b : ℕ) → first_of l ≡ a → first_of m ≡ b → (a ≡ b → ⊥) → l ≡ m → ⊥
begin_otherwise a b p q n e = n (sym p ∙ ap first_of e ∙ q)

-- neither of two numbers is the third
neither : (rule a b c : ℕ) → (a ≡ c → ⊥) → (b ≡ c → ⊥) → by_rule rule a b ≡ c → ⊥
neither rule a b c f g = cond_both (λ (n : ℕ). n ≡ c → ⊥) (eqb rule equation_rule) a b (λ t. f) (λ t. g)

-- ---- the whole analysis

ended : (q : Request) (right found left : Analysis) (answer : ℕ) → Long found → analysis_refusal (call_for q) 9 9 3 ≡ accepted → analysis q ≡ right
    → Analyses (call_for q) found answer left → (answer ≡ 0) × (left ≡ right)
ended q right found left answer (g, s, v) e r =
    let a : analysis_refusal (call_for q) (length found.grid) (length found.support) (length found.verdict) ≡ accepted = rw (g, s, v) e in
    done found a (ap analysis (asks q) ∙ r)

module _ (rule : ℕ) (ruled : Ruled rule) (found : Analysis) (long : Long found) (answer answer' answer'' : ℕ) (left left' left'' : Analysis)
    (asked_once : Analyses (call_for (example rule 1 false)) found answer left) (asked_twice : Analyses (call_for (example rule 2 false)) found answer' left')
    (asked_smooth : Analyses (call_for (example rule 2 true)) found answer'' left'') where
  abbrev ended_once : (answer ≡ 0) × (left ≡ once rule)
  ended_once = ended (example rule 1 false) (once rule) found left answer long (example_accepted rule ruled).0.0 (example_analysis rule ruled).0 asked_once

  abbrev ended_twice : (answer' ≡ 0) × (left' ≡ twice rule)
  ended_twice = ended (example rule 2 false) (twice rule) found left' answer' long (example_accepted rule ruled).1.0 (example_analysis rule ruled).1 asked_twice

  abbrev ended_smooth : (answer'' ≡ 0) × (left'' ≡ smooth rule)
  ended_smooth = ended (example rule 2 true) (smooth rule) found left'' answer'' long (example_accepted rule ruled).2.0 (example_analysis rule ruled).2 asked_smooth

  first_once : first_of left.grid ≡ 587
  first_once = ap (λ (a : Analysis). first_of a.grid) ended_once.1

  first_twice : first_of left'.grid ≡ 577
  first_twice = ap (λ (a : Analysis). first_of a.grid) ended_twice.1

  first_smooth : first_of left''.grid ≡ by_rule rule 579 581
  first_smooth = ap (λ (a : Analysis). first_of a.grid) ended_smooth.1

  -- refusing everything
  pub no_refusal : (answer ≡ 0) × (answer' ≡ 0) × (answer'' ≡ 0)
  no_refusal = (ended_once.0, ended_twice.0, ended_smooth.0)

  -- the first guess untouched, or one fixed grid
  pub not_the_first_guess : left.grid ≡ level → ⊥
  unfolding tab
  not_the_first_guess = begin_otherwise 587 640 first_once refl (λ e. omega arith)

  pub not_one_fixed_grid : left'.grid ≡ left.grid → ⊥
  not_one_fixed_grid = begin_otherwise 577 587 first_twice first_once (λ e. omega arith)

  -- correcting in the first scan, and just smoothing afterwards: with smoothing off that leaves the first scan's grid, and with smoothing on
  -- that grid, smoothed
  pub not_one_scan_only : left'.grid ≡ stored 3 3 (after (example rule 2 false) 1).field → ⊥
  not_one_scan_only = begin_otherwise 577 587 first_twice (ap first_of (example_cheated rule ruled).0) (λ e. omega arith)

  pub not_only_smoothed : left''.grid ≡ stored 3 3 (only_smoothed rule) → ⊥
  not_only_smoothed = begin_otherwise (by_rule rule 579 581) 587 first_smooth (ap first_of (example_cheated rule ruled).2) (neither rule 579 581 587 (λ e. omega arith) (λ e. omega arith))

  -- made-up support or verdicts
  pub no_other_support : (left.support ≡ (once rule).support) × (left'.support ≡ (twice rule).support) × (left''.support ≡ (smooth rule).support)
  no_other_support = (ap (λ (a : Analysis). a.support) ended_once.1, ap (λ (a : Analysis). a.support) ended_twice.1, ap (λ (a : Analysis). a.support) ended_smooth.1)

  pub no_other_verdicts : (left.verdict ≡ (once rule).verdict) × (left'.verdict ≡ (twice rule).verdict) × (left''.verdict ≡ (smooth rule).verdict)
  no_other_verdicts = (ap (λ (a : Analysis). a.verdict) ended_once.1, ap (λ (a : Analysis). a.verdict) ended_twice.1, ap (λ (a : Analysis). a.verdict) ended_smooth.1)

-- ---- the window query

window_ended : (q : Request) (right found left : Tile) (answer : ℕ) → (length found.grid ≡ 4) × (length found.support ≡ 4)
    → window_refusal (call_for q) corner 4 4 ≡ accepted → whole_at q corner ≡ right → Queries (call_for q) corner found answer left → (answer ≡ 0) × (left ≡ right)
window_ended q right found left answer (g, s) e r =
    let a : window_refusal (call_for q) corner (length found.grid) (length found.support) ≡ accepted = rw (g, s) e in
    done found a (ap (λ (p : Request). whole_at p corner) (asks q) ∙ r)

module _ (rule : ℕ) (ruled : Ruled rule) (found : Tile) (long : (length found.grid ≡ 4) × (length found.support ≡ 4)) (answer answer' answer'' : ℕ) (left left' left'' : Tile)
    (asked_once : Queries (call_for (example rule 1 false)) corner found answer left) (asked_twice : Queries (call_for (example rule 2 false)) corner found answer' left')
    (asked_smooth : Queries (call_for (example rule 2 true)) corner found answer'' left'') where
  abbrev window_once : (answer ≡ 0) × (left ≡ corner_once)
  window_once = window_ended (example rule 1 false) corner_once found left answer long (example_accepted rule ruled).0.1 (example_window rule ruled).0 asked_once

  abbrev window_twice : (answer' ≡ 0) × (left' ≡ corner_twice)
  window_twice = window_ended (example rule 2 false) corner_twice found left' answer' long (example_accepted rule ruled).1.1 (example_window rule ruled).1 asked_twice

  abbrev window_smooth : (answer'' ≡ 0) × (left'' ≡ corner_smooth rule)
  window_smooth = window_ended (example rule 2 true) (corner_smooth rule) found left'' answer'' long (example_accepted rule ruled).2.1 (example_window rule ruled).2 asked_smooth

  tile_once : first_of left.grid ≡ 587
  tile_once = ap (λ (t : Tile). first_of t.grid) window_once.1

  tile_twice : first_of left'.grid ≡ 577
  tile_twice = ap (λ (t : Tile). first_of t.grid) window_twice.1

  tile_smooth : first_of left''.grid ≡ by_rule rule 579 581
  tile_smooth = ap (λ (t : Tile). first_of t.grid) window_smooth.1

  pub window_no_refusal : (answer ≡ 0) × (answer' ≡ 0) × (answer'' ≡ 0)
  window_no_refusal = (window_once.0, window_twice.0, window_smooth.0)

  pub window_not_the_first_guess : left.grid ≡ tab 4 (λ p. pos 640) → ⊥
  unfolding tab
  window_not_the_first_guess = begin_otherwise 587 640 tile_once refl (λ e. omega arith)

  pub window_not_one_fixed_grid : left'.grid ≡ left.grid → ⊥
  window_not_one_fixed_grid = begin_otherwise 577 587 tile_twice tile_once (λ e. omega arith)

  pub window_not_one_scan_only : left'.grid ≡ window_of corner (after (example rule 2 false) 1).field → ⊥
  window_not_one_scan_only = begin_otherwise 577 587 tile_twice (ap first_of (example_cheated rule ruled).1) (λ e. omega arith)

  pub window_not_only_smoothed : left''.grid ≡ window_of corner (only_smoothed rule) → ⊥
  window_not_only_smoothed = begin_otherwise (by_rule rule 579 581) 587 tile_smooth (ap first_of (example_cheated rule ruled).3) (neither rule 579 581 587 (λ e. omega arith) (λ e. omega arith))

  pub window_no_other_support : (left.support ≡ corner_once.support) × (left'.support ≡ corner_twice.support) × (left''.support ≡ (corner_smooth rule).support)
  window_no_other_support = (ap (λ (t : Tile). t.support) window_once.1, ap (λ (t : Tile). t.support) window_twice.1, ap (λ (t : Tile). t.support) window_smooth.1)

-- ---- the program

text_ended : (input found : List ℕ) {answer left : List ℕ} {bytes : ℕ} → answer_text input ≡ answer → Replies input found bytes left
    → (bytes ≡ length answer) × (left ≡ answer ++ drop (length answer) found)
unfolding put_first
text_ended input found e p = (ap (λ (o : ℕ × List ℕ). o.0) p ∙ rw e, ap (λ (o : ℕ × List ℕ). o.1) p ∙ rw e)

-- two texts that have others there
read_otherwise : {l m : List ℕ} (a b : ℕ) → last_digits l ≡ a → last_digits m ≡ b → (a ≡ b → ⊥) → l ≡ m → ⊥
read_otherwise a b p q n e = n (sym p ∙ ap last_digits e ∙ q)

said : {digits : ℕ} {sup left : List ℕ} (answer after : List ℕ) → left ≡ answer ++ after → SaysFirst digits sup answer → Says digits sup left
said {digits = digits} {sup = sup} answer after e h = subst (Says digits sup) (sym e) (h after)

module _ (rule : ℕ) (ruled : Ruled rule) (found left left' left'' : List ℕ) (bytes bytes' bytes'' : ℕ) (asked_once : Replies (once_text rule) found bytes left)
    (asked_twice : Replies (twice_text rule) found bytes' left') (asked_smooth : Replies (smooth_text rule) found bytes'' left'') where
  abbrev text_once : (bytes ≡ length (once_answer rule)) × (left ≡ once_answer rule ++ drop (length (once_answer rule)) found)
  text_once = text_ended (once_text rule) found (example_text rule ruled).0 asked_once

  abbrev text_twice : (bytes' ≡ length (twice_answer rule)) × (left' ≡ twice_answer rule ++ drop (length (twice_answer rule)) found)
  text_twice = text_ended (twice_text rule) found (example_text rule ruled).1 asked_twice

  abbrev text_smooth : (bytes'' ≡ length (smooth_answer rule)) × (left'' ≡ smooth_answer rule ++ drop (length (smooth_answer rule)) found)
  text_smooth = text_ended (smooth_text rule) found (example_text rule ruled).2 asked_smooth

  abbrev says_once : Says 87 (ascii "sup=1,1,1\nsup=1,1,1\nsup=1,1,1\n") left
  says_once = said (once_answer rule) (drop (length (once_answer rule)) found) text_once.1 (under_both (λ r. SaysFirst 87 (ascii "sup=1,1,1\nsup=1,1,1\nsup=1,1,1\n") (once_answer r)) (λ t. record { opening = refl; values = refl; supports = refl; verdicts = refl }) (λ t. record { opening = refl; values = refl; supports = refl; verdicts = refl }) rule ruled)

  abbrev says_twice : Says 77 (ascii "sup=3,3,3\nsup=3,3,3\nsup=3,3,3\n") left'
  says_twice = said (twice_answer rule) (drop (length (twice_answer rule)) found) text_twice.1 (under_both (λ r. SaysFirst 77 (ascii "sup=3,3,3\nsup=3,3,3\nsup=3,3,3\n") (twice_answer r)) (λ t. record { opening = refl; values = refl; supports = refl; verdicts = refl }) (λ t. record { opening = refl; values = refl; supports = refl; verdicts = refl }) rule ruled)

  abbrev says_smooth : Says (by_rule rule 79 81) (ascii "sup=3,3,3\nsup=3,3,3\nsup=3,3,3\n") left''
  says_smooth = said (smooth_answer rule) (drop (length (smooth_answer rule)) found) text_smooth.1 (under_both (λ r. SaysFirst (by_rule r 79 81) (ascii "sup=3,3,3\nsup=3,3,3\nsup=3,3,3\n") (smooth_answer r)) (λ t. record { opening = refl; values = refl; supports = refl; verdicts = refl }) (λ t. record { opening = refl; values = refl; supports = refl; verdicts = refl }) rule ruled)

  pub text_no_refusal : (first_two_lines left ≡ ascii "refusal=0\nplace=0\n") × (first_two_lines left' ≡ ascii "refusal=0\nplace=0\n") × (first_two_lines left'' ≡ ascii "refusal=0\nplace=0\n")
  text_no_refusal = (says_once.opening, says_twice.opening, says_smooth.opening)

  pub text_not_the_first_guess : row_lines left ≡ shown level → ⊥
  unfolding tab grid_lines keyed cells integer decimal spelled
  text_not_the_first_guess = read_otherwise 87 40 says_once.values refl (λ e. omega arith)

  pub text_not_one_fixed_grid : row_lines left' ≡ row_lines left → ⊥
  text_not_one_fixed_grid = read_otherwise 77 87 says_twice.values says_once.values (λ e. omega arith)

  pub text_not_one_scan_only : row_lines left' ≡ shown (stored 3 3 (after (example rule 2 false) 1).field) → ⊥
  unfolding grid_lines keyed cells integer decimal spelled
  text_not_one_scan_only = read_otherwise 77 87 says_twice.values (ap (λ (g : List ℤ). last_digits (shown g)) (example_cheated rule ruled).0) (λ e. omega arith)

  pub text_not_only_smoothed : row_lines left'' ≡ shown (stored 3 3 (only_smoothed rule)) → ⊥
  unfolding grid_lines keyed cells integer decimal spelled
  text_not_only_smoothed = read_otherwise (by_rule rule 79 81) 87 says_smooth.values (ap (λ (g : List ℤ). last_digits (shown g)) (example_cheated rule ruled).2) (neither rule 79 81 87 (λ e. omega arith) (λ e. omega arith))

  pub text_no_other_support : (sup_lines left ≡ ascii "sup=1,1,1\nsup=1,1,1\nsup=1,1,1\n") × (sup_lines left' ≡ ascii "sup=3,3,3\nsup=3,3,3\nsup=3,3,3\n")
      × (sup_lines left'' ≡ ascii "sup=3,3,3\nsup=3,3,3\nsup=3,3,3\n")
  text_no_other_support = (says_once.supports, says_twice.supports, says_smooth.supports)

  pub text_no_other_verdicts : (ver_line left ≡ ascii "ver=0,0,2\n") × (ver_line left' ≡ ascii "ver=0,0,2\n") × (ver_line left'' ≡ ascii "ver=0,0,2\n")
  text_no_other_verdicts = (says_once.verdicts, says_twice.verdicts, says_smooth.verdicts)
