-- `text_pieces::digits` meets its contract: digit after digit, up to a byte that is none, or the end. Assumes nothing.
use Rattle.std.proofs.Common.{arith, sym, ◌∙◌}
use Rattle.text_pieces.proofs.Capped.{digits_more, digits_stop, digits_end}
use Rattle.text_pieces.proofs.digits.Goals as goal
use Rattle.text_pieces.proofs.digits.Goals.{in-Some+then-not-is_ascii_digit, in_default}

pub loop-digit-preserved : goal.loop-digit-preserved
loop-digit-preserved c =
    let l = c.loop-digit in
    let is = sym c.is_ascii_digit.ensures.value ∙ c.if-not-is_ascii_digit.false in (
      omega arith,
      digits_more l.left.now c.in-Some.rest.now c.in-Some.digit.now l.value c.saturating_mul.result c.saturating_add-value.result c.in-Some.ensures.cases.0 is c.saturating_mul.ensures
          (c.saturating_add-value.ensures ∙ rw c.from.ensures)
          ∙ l.invariant.1,
    )

pub returns : goal.returns
returns c =
    let l = c.loop-digit in
    sym l.invariant.1
    ∙ elim c.match-split_first.branch [
      | in-Some+then-not-is_ascii_digit w ↦ digits_stop l.left.now w.in-Some.rest.now w.in-Some.digit.now l.value w.in-Some.ensures.cases.0 (sym w.is_ascii_digit.ensures.value ∙ w.if-not-is_ascii_digit.true) l.invariant.0
      | in_default w ↦ digits_end l.left.now l.value w.in_default.ensures.cases l.invariant.0
    ]
