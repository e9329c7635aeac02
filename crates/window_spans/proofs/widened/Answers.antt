-- `window_spans::widened` meets its contract. Assumes nothing.
use Rattle.scheme.specs.Reach.{widened}
use Rattle.window_spans.proofs.widened.Goals as goal

pub returns : goal.returns
unfolding widened
returns c = rw (c.saturating_sub.ensures, c.min.ensures, c.saturating_sub-2.ensures, c.min-2.ensures)
