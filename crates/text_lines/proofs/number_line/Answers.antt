-- `text_lines::number_line` meets its contract. Assumes nothing.
use Rattle.scheme.specs.Text.Lines.{number}
use Rattle.text_lines.proofs.number_line.Goals as goal

pub returns-in_err-rest-clause-said : goal.returns-in_err-rest-clause-said
unfolding number
returns-in_err-rest-clause-said c = rw (c.in_err-rest.ensures, c.from_residual.ensures)

pub returns-clause-said : goal.returns-clause-said
unfolding number
returns-clause-said c = rw c.in_ok-rest.ensures c.count_before.ensures.said
