-- What is answered to a request, and why it fits.
use Rattle.std.specs.Prelude.{ℕ, ◌+◌, ◌^◌, ◌≤◌, ◌<◌, ◌≡◌, List, [], ◌∷◌, ◌++◌, length, drop, take}
use Rattle.std.proofs.Common.{arith, sym, ap, ◌∙◌, length-append, length-take-le}
use borrow.Author.Tests.{le-ltb}
use Rattle.std.proofs.Math.Seq.{sets-eq}
use Rattle.scheme.specs.Units.{most_scans, wind_mode, equation_rule, listing_rule, Request}
use Rattle.scheme.specs.Refusals.{Refusal, accepted, number_of, place_of, unless_refused, in_order, refused_with, bad_scans, from_five}
use Rattle.scheme.specs.Scan.{Analysis, analysis}
use Rattle.scheme.specs.Text.{first_two, analysis_text, reply_text}
use Rattle.scheme.specs.Text.Pieces.{ascii}
use Rattle.scheme.specs.Text.Printed.{decimal, keyed}
use Rattle.scheme.specs.Promises.{put_first, Stands}
use Rattle.scheme.proofs.OneOutcome.{both}
use Rattle.scheme.specs.Accepted.{from_six, Formed}
use Rattle.scheme.proofs.Accepted.{in_count, formed_sound}
use Rattle.scheme.proofs.Decimals.{decimal_length}
use Rattle.scheme.proofs.AnswerSize.{sound_answer_is_short}
use Rattle.refusal.specs.declared.Refusal.{Refusal as Row}
use Rattle.refusal.specs.Row.{row_of, row_refuses}
use Rattle.text_print.specs.Written.{Written}
use Rattle.text_print.specs.Rows.{keyed_one}

-- ---- a text that was put at the start

pub at_start : {n room : ℕ} → n ≤ room → 0 + n ≤ room
at_start h = omega arith

module _ (l : List ℕ) {t l' : List ℕ} {n : ℕ} where
  pub stands : length t ≤ length l → Written l 0 t l' n → Stands t l n l'
  unfolding put_first
  stands h w =
      let e : 0 + length t ≡ length t = omega arith in
      both (w.place ∙ e) (w.bytes ∙ sets-eq t l 0 (omega arith) ∙ ap (λ (n : ℕ). t ++ drop n l) e)

  pub stands_as : {u : List ℕ} → t ≡ u → Stands u l n l' → Stands t l n l'
  stands_as e s = rw e s

-- the first two lines are short
line_short : (key : List ℕ) (n : ℕ) → n < 2 ^ 32 → length (keyed key decimal (n ∷ [])) ≤ length key + 11
line_short key n h =
    omega (arith, ap length (keyed_one decimal key n), length-append key (decimal n ++ (10 ∷ [])), length-append (decimal n) (10 ∷ []), decimal_length 9 n (omega arith))

pub two_short : (number place : ℕ) → number < 2 ^ 32 → place < 2 ^ 32 → length (first_two number place) ≤ 36
unfolding first_two
two_short number place h k =
    omega (arith, length-append (keyed (ascii "refusal=") decimal (number ∷ [])) (keyed (ascii "place=") decimal (place ∷ [])), line_short (ascii "refusal=") number h, line_short (ascii "place=") place k)

-- ---- what the analysis answers, as text

module _ (q : Request) (formed : Formed q) where
  -- row 5 accepts
  pub five_accepts : in_order (from_five q) ≡ in_order (from_six q)
  unfolding from_five in_order refused_with bad_scans
  five_accepts =
      rw (
        in_count 1 most_scans q.plan.scans formed.scans_some formed.scans_few,
        le-ltb (length q.plan.radius) q.plan.scans formed.radii,
        le-ltb (length q.plan.limit) q.plan.scans formed.limits,
        le-ltb wind_mode q.plan.mode formed.known,
        in_count equation_rule listing_rule q.plan.rule formed.ruled.0 formed.ruled.1,
      )

  abbrev f : Refusal
  f = in_order (from_six q)

  -- a refusal, as its row
  pub refused_reply : (r : Row) → row_of r ≡ f → reply_text q ≡ first_two (number_of (row_of r)) (place_of (row_of r))
  unfolding reply_text
  refused_reply r e = rw (five_accepts ∙ sym e ∙ row_refuses r)

  -- or what is left of an analysis, which is not long
  module _ (found left : Analysis) (e : accepted ≡ f) (is : left ≡ unless_refused f (analysis q) found) where
    is_analysis : left ≡ analysis q
    is_analysis = is ∙ ap (λ (g : Refusal). unless_refused g (analysis q) found) (sym e)

    pub accepted_reply : reply_text q ≡ analysis_text q.nx q.ny left
    unfolding reply_text
    accepted_reply = rw (five_accepts ∙ sym e, is_analysis)

    pub accepted_short : length (analysis_text q.nx q.ny left) < 56000
    accepted_short = rw is_analysis (sound_answer_is_short q (formed_sound q formed (sym e)))

-- ---- what is lent

pub front_long : {A : Type 0} (n m : ℕ) (l : List A) → n ≤ m → m ≤ length l → n ≡ length (take n l)
front_long n m l h k = sym (length-take-le n l (omega arith))
