-- `window_spans::on_span` meets its contract: the place lies between the ends. Assumes nothing.
use Rattle.std.proofs.Common.{rules}
use Rattle.scheme.specs.Reach.{on_span}
use Rattle.window_spans.proofs.on_span.Goals as goal

pub returns : goal.returns
unfolding on_span
returns c = search rules
