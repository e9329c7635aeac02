-- `window_spans::counted` meets its contract: the two positions, and the rest as it is. Assumes nothing.
use Rattle.std.proofs.Common.{rules}
use Rattle.scheme.specs.Reach.{counted}
use Rattle.window_spans.proofs.counted.Goals as goal

pub returns : goal.returns
unfolding counted
returns c = search rules
