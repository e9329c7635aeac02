-- `text_pieces::count` meets its contract. Assumes nothing.
use Rattle.std.proofs.Common.{arith, ◌∙◌}
use Rattle.scheme.specs.Text.Pieces.{count, natural}
use Rattle.text_pieces.proofs.Ranges.{ranged}
use Rattle.text_pieces.proofs.count.Goals as goal

pub returns-clause-said : goal.returns-clause-said
unfolding count
returns-clause-said c = ranged c.args.low c.args.high (natural c.args.text.now) (omega arith) ∙ rw c.natural.ensures c.in_range.ensures.said
