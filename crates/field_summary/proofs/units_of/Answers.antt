-- `field_summary::units_of` meets its contract. Assumes nothing.
use Rattle.std.proofs.Common.{rules, arith, ◌≡◌, ◌∙◌, pos, length, get_or, w32, to_z, of_z, to_z-of_z}
use Rattle.std.proofs.lemmas.Int.{ints}
use mir.Val.{SFits}
use Rattle.field_summary.specs.Ends.{ends_first, ends_next, units_are}
use Rattle.field_summary.proofs.units_of.Goals as goal

pub loop-value-init : goal.loop-value-init
loop-value-init c =
    let fits : SFits w32 (get_or c.args.field.now 0 (pos 0)) = search rules in
    rw (to_z-of_z {w = w32} fits) (ends_first c.args.field.now c.requires)

pub loop-value-preserved : goal.loop-value-preserved
loop-value-preserved c =
    let v = get_or c.args.field.now c.loop-value.value-index (pos 0) in
    let fits : SFits w32 v = search rules in
    let value : to_z w32 (of_z w32 v) ≡ v = to_z-of_z {w = w32} fits in
    let low : to_z w32 (of_z w32 c.min-low.result) ≡ c.min-low.result = omega (arith, ints) in
    let high : to_z w32 (of_z w32 c.max-high.result) ≡ c.max-high.result = omega (arith, ints) in
    rw (low, high, c.min-low.ensures.value, c.max-high.ensures.value, value) (ends_next c.args.field.now c.loop-value.value-index _ _ c.loop-value-test.true c.loop-value.invariant)

pub returns : goal.returns
returns c =
    let all : c.loop-value.value-index ≡ length c.args.field.now = omega arith in
    c.units_between.ensures ∙ units_are c.args.field.now _ _ c.requires (rw all at c.loop-value.invariant)
