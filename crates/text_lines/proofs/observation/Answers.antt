-- `text_lines::observation` meets its contract. Assumes nothing.
use Rattle.scheme.specs.Text.Reader.{◌or◌}
use Rattle.scheme.specs.Text.Lines.{observation}
use Rattle.text_lines.proofs.observation.Goals as goal

pub returns-in-Some : goal.returns-in-Some
unfolding observation
returns-in-Some c = rw (c.in-Some.ensures, ◌or◌)

pub returns-in-None : goal.returns-in-None
unfolding observation
returns-in-None c = rw (c.in-None.ensures, ◌or◌) c.signed.ensures
