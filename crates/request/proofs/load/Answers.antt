-- `request::load` meets its contract: the stations are those of the columns. Assumes nothing.
use Rattle.std.proofs.Common.{arith}
use Rattle.request.specs.Lent.{columns_of}
use Rattle.request.specs.Loaded.{loads}
use Rattle.request.proofs.load.Goals as goal

pub returns : goal.returns
returns c = loads (columns_of c.args.columns.now) c.loop-k.stations (omega arith) (λ k h. c.loop-k.invariant k (omega arith))
