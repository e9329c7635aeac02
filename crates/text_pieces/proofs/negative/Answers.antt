-- `text_pieces::negative` meets its contract: a size in its range, negated. Assumes nothing.
use Rattle.std.proofs.Common.{arith, ap, ◌∙◌, sym}
use Rattle.scheme.specs.Text.Pieces.{positive}
use Rattle.text_pieces.specs.Told.{told}
use Rattle.text_pieces.proofs.Ranges.{ranged, negative_size, negative_other, negated}
use Rattle.text_pieces.proofs.negative.Goals as goal

pub returns-in_err-size : goal.returns-in_err-size
returns-in_err-size c =
    negative_other c.args.text.now (ranged 0 2147483648 (positive c.args.text.now) (omega arith) ∙ rw c.positive.ensures c.in_err-size.ensures.said)
    ∙ ap told (sym c.from_residual.ensures)

pub returns : goal.returns
returns c =
    rw (negated c.in_ok-size.size c.in_ok-size.ensures.in_range.1)
    (negative_size c.args.text.now (ranged 0 2147483648 (positive c.args.text.now) (omega arith) ∙ rw c.positive.ensures c.in_ok-size.ensures.said))
