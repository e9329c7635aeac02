-- `request::load_windows` meets its contract: the windows have the columns' ends. Assumes nothing.
use Rattle.std.proofs.Common.{arith}
use Rattle.request.specs.Lent.{screen_of}
use Rattle.request.specs.Loaded.{windows_loaded}
use Rattle.request.proofs.load_windows.Goals as goal

pub returns : goal.returns
returns c = windows_loaded (screen_of c.args.screen.now) c.loop-k.windows (omega arith) (λ k h. c.loop-k.invariant k (omega arith))
