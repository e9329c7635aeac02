-- `field_value::spot_of` meets its contract: the cell is on the grid, and the position in it. Assumes nothing.
use Rattle.std.proofs.Common.{◌≤◌, ◌+◌, ◌-◌, ◌*◌, arith, mul-le-mul}
use Rattle.scheme.specs.Units.{step}
use Rattle.scheme.specs.Most.{most_points}
use Rattle.field_value.specs.Corners.{Spotted, spotted}
use Rattle.field_value.proofs.spot_of.Goals as goal
use Rattle.field_value.proofs.spot_of.Goals.{After-cell-n}

module _ (c : After-cell-n) where
  spot : Spotted c.args.nx c.args.ny c.args.x c.args.y (c.cell-n.result * c.args.nx + c.cell-m.result) (c.args.x - step * c.cell-m.result)
      (c.args.y - step * c.cell-n.result)
  spot = spotted c.args.nx c.args.ny c.args.x c.args.y c.requires.0 c.requires.1 c.requires.2 _ _ c.cell-m.ensures.value c.cell-n.ensures.value

  few : c.args.nx * c.args.ny ≤ most_points
  few = mul-le-mul c.requires.0.few_columns c.requires.0.few_rows

pub overflow_mul-result : goal.overflow_mul-result
overflow_mul-result c = omega (arith, (spot c).last, few c)

pub overflow_add-result : goal.overflow_add-result
overflow_add-result c = omega (arith, (spot c).last, few c)

pub returns : goal.returns
returns c = spot c
