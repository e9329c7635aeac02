-- `field_value::sum_at` meets its contract: the four corners are on the grid, and their sum is the field's. Assumes nothing.
use Rattle.std.proofs.Common.{arith, rules, ◌∙◌, ◌≡◌, ◌+◌, pos, get_or, w32, w64, to_z, of_z, to_z-of_z}
use mir.Val.{SFits}
use Rattle.std.proofs.lemmas.Int.{ints}
use Rattle.field_value.specs.Corners.{are_shares, blend_is_sum}
use Rattle.field_value.proofs.sum_at.Goals as goal

pub blended-requires : goal.blended-requires
blended-requires c = rw c.shares.ensures (are_shares _ _ c.spot_of-spot.ensures.a_few c.spot_of-spot.ensures.b_few)

pub returns : goal.returns
returns c =
    let z = c.args.z.now in
    let p = c.spot_of-spot.result.corner in
    let f₀ : SFits w32 (get_or z p (pos 0)) = search rules in
    let f₁ : SFits w32 (get_or z (p + 1) (pos 0)) = search rules in
    let f₂ : SFits w32 (get_or z (p + c.args.nx) (pos 0)) = search rules in
    let f₃ : SFits w32 (get_or z (p + c.args.nx + 1) (pos 0)) = search rules in
    let e = simp (to_z-of_z, c.shares.ensures) at c.blended.ensures.0 in
    let back : to_z w64 (of_z w64 c.blended.result) ≡ c.blended.result = omega (arith, ints) in
    rw back (e ∙ blend_is_sum z c.args.nx c.args.ny c.args.x c.args.y p _ _ c.spot_of-spot.ensures, c.blended.ensures.1)
