-- `text_lines::grid_line` meets its contract: piece after piece, each read where the one before ended. Assumes nothing.
use Rattle.scheme.specs.Text.Lines.{grid_line}
use Rattle.text_lines.proofs.grid_line.Goals as goal

pub returns-in_err-rest-clause-said : goal.returns-in_err-rest-clause-said
unfolding grid_line
returns-in_err-rest-clause-said c = rw (c.in_err-rest.ensures, c.from_residual.ensures)

pub returns-in_err-nx-clause-said : goal.returns-in_err-nx-clause-said
unfolding grid_line
returns-in_err-nx-clause-said c = rw (c.in_ok-rest.ensures, c.in_err-nx.ensures.said, c.from_residual-in_err-nx.ensures)

pub returns-in_err-ny-clause-said : goal.returns-in_err-ny-clause-said
unfolding grid_line
returns-in_err-ny-clause-said c = rw (c.in_ok-rest.ensures, c.in_ok-nx.ensures.said, c.in_err-ny.ensures.said, c.from_residual-in_err-ny.ensures)

pub returns-clause-said : goal.returns-clause-said
unfolding grid_line
returns-clause-said c = rw (c.in_ok-rest.ensures, c.in_ok-nx.ensures.said, c.in_ok-ny.ensures.said)
