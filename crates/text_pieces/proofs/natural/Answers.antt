-- `text_pieces::natural` meets its contract: 0, or a number from 1 on. Assumes nothing.
use Rattle.std.proofs.Common.{ap, ◌∙◌}
use Rattle.text_pieces.specs.Told.{saturated}
use Rattle.text_pieces.proofs.Ranges.{natural_zero, natural_some}
use Rattle.text_pieces.proofs.natural.Goals as goal

pub returns-in-Some : goal.returns-in-Some
returns-in-Some c = ap saturated (natural_zero c.args.text.now c.in-Some.rest.now c.in-Some.ensures)

pub returns-in-None : goal.returns-in-None
returns-in-None c = ap saturated (natural_some c.args.text.now c.in-None.ensures) ∙ c.positive.ensures
