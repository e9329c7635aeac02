-- `scan_buddies::cell_along` meets its contract: a position is no more than 256 below 0, so that 256 more is no negative number. Assumes nothing.
use Rattle.std.proofs.Common.{arith, ◌≤◌, pos, w32}
use Rattle.integers.specs.Words.{bits_back}
use Rattle.scan_buddies.specs.Cells.{offset, cell_along, axis_small, from_least}
use Rattle.scan_buddies.proofs.cell_along.Goals as goal

pub returns : goal.returns
unfolding cell_along
returns c =
    let x = c.args.x in
    let on = c.requires.1 in
    let small : offset x ≤ 4544 = omega (arith, on.high) in
    rw (bits_back w32 x (omega (arith, axis_small x on)), from_least x on, bits_back w32 (pos (offset x)) (omega (arith, small)))
