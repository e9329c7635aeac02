-- `field_value::place` meets its contract. Assumes nothing.
use Rattle.std.proofs.Common.{arith, w32, to_z, of_z, ◌≡◌, pos, ◌-◌, ◌*◌}
use Rattle.std.proofs.lemmas.Int.{ints}
use Rattle.field_value.specs.Axis.{place_is}
use Rattle.field_value.proofs.place.Goals as goal

pub returns : goal.returns
returns c =
    let back : to_z w32 (of_z w32 c.clamp.result) ≡ c.clamp.result = omega (arith, ints) in
    let x : to_z w32 (of_z w32 c.args.x) ≡ c.args.x = omega (arith, ints) in
    let last : to_z w32 (of_z w32 c.last.result) ≡ pos (64 * (c.args.n - 1)) = omega (arith, ints) in
    rw back (place_is c.args.n c.args.x _ (rw (x, last) at c.clamp.ensures.value))
