-- `field_value::cell` meets its contract: the whole part, or the last cell where that is beyond it. Assumes nothing.
use Rattle.std.proofs.Common.{arith}
use Rattle.scheme.specs.Value.{cell}
use Rattle.field_value.proofs.cell.Goals as goal

pub returns-clause-value : goal.returns-clause-value
unfolding cell
returns-clause-value c = search (arith)
