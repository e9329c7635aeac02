use Rattle.std.proofs.Common.{length}
use Rattle.scheme.specs.Reach.{whole_at}
use Rattle.request.specs.Tables.{request_of}
use Rattle.window_tile.specs.Turn.{Turned, whole_long}
use Rattle.window_screen.proofs.by_cuts.Given as goal

abbrev pub invariant-loop-w : goal.invariant-loop-w
invariant-loop-w l =
    Turned (whole_at (request_of l.request)) (whole_long (request_of l.request)) l.windows (length l.initial.grid) (length l.initial.support) l.w-index l.at l.grid l.support
