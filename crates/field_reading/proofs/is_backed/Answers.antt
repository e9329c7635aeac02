-- `field_reading::is_backed` meets its contract: the four corners are on the grid, and their support is the field's. Assumes nothing.
use Rattle.std.proofs.Common.{◌∙◌}
use Rattle.field_reading.specs.Backing.{all_is_backed}
use Rattle.field_reading.proofs.is_backed.Goals as goal

pub returns : goal.returns
returns c =
    rw c.shares.ensures at c.all_backed.ensures ∙ all_is_backed c.args.support.now c.args.nx c.args.ny c.args.x c.args.y _ _ _ c.spot_of-spot.ensures
