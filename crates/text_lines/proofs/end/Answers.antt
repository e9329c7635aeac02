-- `text_lines::end` meets its contract. Assumes nothing.
use Rattle.scheme.specs.Text.Pieces.{unsigned}
use Rattle.scheme.specs.Text.Reader.{◌or◌}
use Rattle.scheme.specs.Text.Lines.{end}
use Rattle.text_lines.proofs.end.Goals as goal

pub returns-in-Some : goal.returns-in-Some
unfolding end
returns-in-Some c = rw (c.in-Some.ensures, ◌or◌)

pub returns-in-None : goal.returns-in-None
unfolding end unsigned
returns-in-None c = rw (c.in-None.ensures, ◌or◌) c.count.ensures.said
