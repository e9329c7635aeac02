-- `field_value::near_axis` meets its contract. Assumes nothing.
use Rattle.std.proofs.Common.{arith, w32, to_z, of_z, ◌≡◌, pos, ◌-◌, ◌*◌, ◌∙◌, ◌+ℤ◌, ◌-ℤ◌}
use Rattle.std.proofs.lemmas.Int.{ints}
use Rattle.field_value.specs.Axis.{is_between}
use Rattle.field_value.proofs.near_axis.Goals as goal

pub returns : goal.returns
returns c =
    let x : to_z w32 (of_z w32 c.args.x) ≡ c.args.x = omega (arith, ints) in
    let low : to_z w32 (of_z w32 (pos 0 -ℤ to_z w32 c.args.beyond)) ≡ pos 0 -ℤ pos c.args.beyond = omega (arith, ints) in
    let high : to_z w32 (of_z w32 (to_z w32 (of_z w32 c.last.result) +ℤ to_z w32 c.args.beyond)) ≡ pos (64 * (c.args.n - 1)) +ℤ pos c.args.beyond =
    omega (arith, ints) in
    rw (c.new.ensures.start, c.new.ensures.end, c.new.ensures.exhausted, x) at c.contains.ensures.value ∙ is_between c.args.beyond c.args.n c.args.x _ _ low high
