-- `text_lines::row_line` meets its contract. Assumes nothing.
use Rattle.scheme.specs.Text.Lines.{row_line}
use Rattle.text_lines.proofs.row_line.Goals as goal

pub returns-in_err-rest : goal.returns-in_err-rest
unfolding row_line
returns-in_err-rest c = rw (c.in_err-rest.ensures, c.from_residual.ensures)

pub returns : goal.returns
unfolding row_line
returns c = rw c.in_ok-rest.ensures c.values.ensures
