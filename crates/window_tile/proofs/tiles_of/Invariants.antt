use Rattle.std.proofs.Common.{length}
use Rattle.window_tile.specs.Query.{tile_from, tile_long}
use Rattle.window_tile.specs.Turn.{Turned}
use Rattle.window_tile.proofs.tiles_of.Given as goal

abbrev pub invariant-loop-w : goal.invariant-loop-w
invariant-loop-w l = Turned (tile_from l.t.nx l.values l.bits) (tile_long l.t.nx l.values l.bits) l.windows (length l.initial.grid) (length l.initial.support) l.w-index l.at l.grid l.support
