-- `window_tile::tile_of` meets its contract: the window's part of the grid, and of its support. Assumes nothing.
use Rattle.request.specs.Tables.{window_in}
use Rattle.window_tile.specs.Query.{window_part}
use Rattle.window_tile.proofs.tile_of.Goals as goal

pub part_of-requires : goal.part_of-requires
part_of-requires c = rw c.at-part.ensures (window_part c.requires.0 (window_in c.args.w) c.requires.2 _ c.requires.3.grid_long)

pub part_of-requires-2 : goal.part_of-requires-2
part_of-requires-2 c = rw (c.at-part.ensures, c.requires.1) (window_part c.requires.0 (window_in c.args.w) c.requires.2 _ c.requires.3.support_long)
