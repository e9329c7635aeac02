-- `text_lines::entry_line` meets its contract: piece after piece, each read where the one before ended. Assumes nothing.
use Rattle.std.proofs.Common.{rules, to_z-of_z}
use Rattle.std.specs.Int.{w32}
use mir.Val.{SFits}
use Rattle.scheme.specs.Text.Lines.{entry_line}
use Rattle.text_lines.proofs.entry_line.Goals as goal

pub returns-in_err-rest : goal.returns-in_err-rest
unfolding entry_line
returns-in_err-rest c = rw (c.in_err-rest.ensures, c.from_residual.ensures)

pub returns-in_err-radius : goal.returns-in_err-radius
unfolding entry_line
returns-in_err-radius c = rw (c.in_ok-rest.ensures, c.in_err-radius.ensures, c.from_residual-in_err-radius.ensures)

pub returns-in_err-limit : goal.returns-in_err-limit
unfolding entry_line
returns-in_err-limit c = rw (c.in_ok-rest.ensures, c.in_ok-radius.ensures, c.in_err-limit.ensures, c.from_residual-in_err-limit.ensures)

pub returns : goal.returns
unfolding entry_line
returns c =
    let r : SFits w32 c.in_ok-radius.radius = search rules in
    let l : SFits w32 c.in_ok-limit.limit = search rules in
    rw (c.in_ok-rest.ensures, c.in_ok-radius.ensures, c.in_ok-limit.ensures, to_z-of_z r, to_z-of_z l)
