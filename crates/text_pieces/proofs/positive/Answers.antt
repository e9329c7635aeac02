-- `text_pieces::positive` meets its contract: what stands in front, and the digits after it. Assumes nothing.
use Rattle.std.proofs.Common.{sym, ap, ◌∙◌}
use Rattle.text_pieces.specs.Told.{told, saturated}
use Rattle.text_pieces.proofs.Ranges.{positive_end, positive_other, positive_zero, positive_is}
use Rattle.text_pieces.proofs.positive.Goals as goal
use Rattle.text_pieces.proofs.positive.Goals.{then-not-is_ascii_digit-via-then-not-is_ascii_digit, then-not-is_ascii_digit-via-else-not-is_ascii_digit+then-first-eq48}

pub returns-in_err-first : goal.returns-in_err-first
returns-in_err-first c = ap saturated (positive_end c.args.text.now c.in_err-first.ensures.cases) ∙ ap told (sym c.from_residual.ensures)

pub returns-then-not-is_ascii_digit : goal.returns-then-not-is_ascii_digit
returns-then-not-is_ascii_digit c =
    let f = c.in_ok-first in
    ap saturated (elim c.then-not-is_ascii_digit.branch [
      | then-not-is_ascii_digit-via-then-not-is_ascii_digit w ↦ positive_other c.args.text.now f.first.now f.rest.now f.ensures.cases.0 (sym c.is_ascii_digit.ensures.value ∙ w.if-not-is_ascii_digit.true)
      | then-not-is_ascii_digit-via-else-not-is_ascii_digit+then-first-eq48 w ↦ positive_zero c.args.text.now f.first.now f.rest.now f.ensures.cases.0 w.if-first-eq48.true
    ])

pub returns : goal.returns
returns c =
    let f = c.in_ok-first in
    ap saturated (positive_is c.args.text.now f.first.now f.rest.now f.ensures.cases.0 (sym c.is_ascii_digit.ensures.value ∙ c.if-not-is_ascii_digit.false) c.if-first-eq48.false)
    ∙ rw (sym c.from.ensures) c.digits.ensures
