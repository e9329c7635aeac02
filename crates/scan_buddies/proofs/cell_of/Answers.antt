-- `scan_buddies::cell_of` meets its contract: cells are few along both axes. Assumes nothing.
use Rattle.std.proofs.Common.{arith, ℕ, ◌+◌, ◌≤◌, ◌≡◌, ap, ◌∙◌, ℤ, w32, to_z, of_z}
use Rattle.integers.specs.Words.{bits_back}
use Rattle.request.specs.Tables.{station_of}
use Rattle.scan_buddies.specs.Aside.{OnAxis}
use Rattle.scan_buddies.specs.Cells.{least_side, across, side_of, cell_along, cell_of, side_least, axis_small, along_in_row}
use Rattle.scan_buddies.specs.Nine.{cell_framed}
use Rattle.scan_buddies.proofs.cell_of.Goals as goal

-- a position as the code reads it
back : (x : ℤ) → OnAxis x → to_z w32 (of_z w32 x) ≡ x
back x on = bits_back w32 x (omega (arith, axis_small x on))

-- the place along one axis, by the side that was found
module _ (radius side along : ℕ) (x : ℤ) (on : OnAxis x) (side_is : side ≡ side_of radius) (along_is : along ≡ cell_along side (to_z w32 (of_z w32 x))) where
  wide : least_side ≤ side
  wide = rw side_is (side_least radius)

  is : along ≡ cell_along (side_of radius) x
  is = rw (back x on) at along_is ∙ ap (λ (s : ℕ). cell_along s x) side_is

  few : along + 2 ≤ across
  few = rw is (along_in_row _ (side_least radius) x on).most

pub cell_along-requires : goal.cell_along-requires
cell_along-requires c = (rw c.side_of-side.ensures (side_least c.args.radius), rw (back _ c.requires.1) c.requires.1)

pub overflow_mul-result : goal.overflow_mul-result
overflow_mul-result c = record { fits = omega (arith, few c.args.radius _ _ c.args.station.y c.requires.1 c.side_of-side.ensures c.cell_along.ensures) }

pub cell_along-requires-2 : goal.cell_along-requires-2
cell_along-requires-2 c = (rw c.side_of-side.ensures (side_least c.args.radius), rw (back _ c.requires.0) c.requires.0)

pub overflow_add-result : goal.overflow_add-result
overflow_add-result c =
    record {
      fits =
          omega (
            arith,
            few c.args.radius _ _ c.args.station.y c.requires.1 c.side_of-side.ensures c.cell_along.ensures,
            few c.args.radius _ _ c.args.station.x c.requires.0 c.side_of-side.ensures c.cell_along-2.ensures,
          );
    }

pub returns-clause-is : goal.returns-clause-is
unfolding cell_of
returns-clause-is c =
    rw (
      is c.args.radius _ _ c.args.station.y c.requires.1 c.side_of-side.ensures c.cell_along.ensures,
      is c.args.radius _ _ c.args.station.x c.requires.0 c.side_of-side.ensures c.cell_along-2.ensures,
    )

pub returns-clause-framed : goal.returns-clause-framed
unfolding cell_of
returns-clause-framed c =
    rw (
      is c.args.radius _ _ c.args.station.y c.requires.1 c.side_of-side.ensures c.cell_along.ensures,
      is c.args.radius _ _ c.args.station.x c.requires.0 c.side_of-side.ensures c.cell_along-2.ensures,
    )
    (cell_framed c.args.radius (station_of c.args.station) c.requires.0 c.requires.1)
