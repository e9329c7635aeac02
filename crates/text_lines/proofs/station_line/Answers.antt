-- `text_lines::station_line` meets its contract: piece after piece, each read where the one before ended. Assumes nothing.
use Rattle.std.proofs.Common.{rules, to_z-of_z}
use Rattle.std.specs.Int.{w32}
use mir.Val.{SFits}
use Rattle.scheme.specs.Text.Lines.{station_line}
use Rattle.scheme.specs.Text.Pieces.{comma, line_feed, unsigned}
use Rattle.text_pieces.specs.Told.{before_told}
use Rattle.text_lines.proofs.station_line.Goals as goal

pub returns-in_err-rest : goal.returns-in_err-rest
unfolding station_line unsigned
returns-in_err-rest c = rw (c.in_err-rest.ensures, c.from_residual.ensures)

pub returns-in_err-x : goal.returns-in_err-x
unfolding station_line unsigned
returns-in_err-x c = rw (c.in_ok-rest.ensures, c.in_err-x.ensures, c.from_residual-in_err-x.ensures)

pub returns-in_err-y : goal.returns-in_err-y
unfolding station_line unsigned
returns-in_err-y c = rw (c.in_ok-rest.ensures, c.in_ok-x.ensures, c.in_err-y.ensures, c.from_residual-in_err-y.ensures)

pub returns-in_err-value : goal.returns-in_err-value
unfolding station_line unsigned
returns-in_err-value c = rw (c.in_ok-rest.ensures, c.in_ok-x.ensures, c.in_ok-y.ensures, before_told comma c.observation.ensures c.in_err-value.ensures.said, c.from_residual-in_err-value.ensures)

pub returns-in_err-observed : goal.returns-in_err-observed
unfolding station_line unsigned
returns-in_err-observed c = rw (c.in_ok-rest.ensures, c.in_ok-x.ensures, c.in_ok-y.ensures, before_told comma c.observation.ensures c.in_ok-value.ensures.said, c.in_err-observed.ensures.said, c.from_residual-in_err-observed.ensures)

pub returns-in_err-from : goal.returns-in_err-from
unfolding station_line unsigned
returns-in_err-from c = rw (c.in_ok-rest.ensures, c.in_ok-x.ensures, c.in_ok-y.ensures, before_told comma c.observation.ensures c.in_ok-value.ensures.said, c.in_ok-observed.ensures.said, c.in_err-from.ensures.said, c.from_residual-in_err-from.ensures)

pub returns-in_err-until : goal.returns-in_err-until
unfolding station_line unsigned
returns-in_err-until c = rw (c.in_ok-rest.ensures, c.in_ok-x.ensures, c.in_ok-y.ensures, before_told comma c.observation.ensures c.in_ok-value.ensures.said, c.in_ok-observed.ensures.said, c.in_ok-from.ensures.said, before_told line_feed c.end.ensures c.in_err-until.ensures.said, c.from_residual-in_err-until.ensures)

pub returns : goal.returns
unfolding station_line unsigned
returns c =
    let x : SFits w32 c.in_ok-x.x = search rules in
    let y : SFits w32 c.in_ok-y.y = search rules in
    let v : SFits w32 c.in_ok-value.value = search rules in
    rw (c.in_ok-rest.ensures, c.in_ok-x.ensures, c.in_ok-y.ensures, before_told comma c.observation.ensures c.in_ok-value.ensures.said, c.in_ok-observed.ensures.said, c.in_ok-from.ensures.said, before_told line_feed c.end.ensures c.in_ok-until.ensures.said, to_z-of_z x, to_z-of_z y, to_z-of_z v)
