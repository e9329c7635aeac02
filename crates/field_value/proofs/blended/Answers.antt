-- `field_value::blended` meets its contract: a share of at most 4096 parts of an i32 stays below 2 ^ 43. Assumes nothing.
use Rattle.std.proofs.Common.{arith, rules, refl, inl, inr, mul-le-mul, ◌≡◌, ◌≤◌, ◌*◌, ◌∷◌, nat_abs, to_z, of_z, w32, w64}
use Rattle.std.proofs.lemmas.Int.{ints}
use Rattle.std.specs.Slice.Iter.{iter_rest}
use Rattle.std.specs.Iterator.Adapters.{zip_first, zip_second}
use mir.Val.{SFits}
use Rattle.integers.specs.Words.{size_fits}
use Rattle.field_value.specs.Corners.{blend, BlendsTo, blends_next, blends_all}
use Rattle.field_value.proofs.blended.Goals as goal
use Rattle.field_value.proofs.blended.Goals.{After-from}

pub loop-share-init : goal.loop-share-init
loop-share-init c =
    rw (c.into_iter-share-iterator.ensures.into_iter_gives, c.zip-share-items.ensures.first, c.zip-share-items.ensures.second, c.iter.ensures.rest, c.iter-2.ensures.rest)
    (record { few = c.requires; on = refl; room = omega arith })

-- a turn, as the lists have it
module _ (c : After-from) where
  so_far : BlendsTo (blend c.args.shares c.args.values) (to_z w64 c.loop-share.sum-bits)
      (c.in-Some.share.now ∷ iter_rest (zip_first c.next.new.self)) (c.in-Some.value.now ∷ iter_rest (zip_second c.next.new.self))
  so_far = rw (c.in-Some.ensures.steps.0, c.in-Some.ensures.steps.1) at c.loop-share.invariant

  fits : SFits w32 c.in-Some.value.now
  fits = search rules

  value_small : nat_abs c.in-Some.value.now ≤ 2147483648
  value_small = size_fits w32 c.in-Some.value.now fits

  value_is : to_z w64 (of_z w64 c.from.result) ≡ c.in-Some.value.now
  value_is = let f = fits in omega (arith, ints)

pub plus-sum-requires : goal.plus-sum-requires
plus-sum-requires c =
    let share : c.in-Some.share.now * nat_abs c.in-Some.value.now ≤ 4096 * 2147483648 = mul-le-mul ((so_far c).few 0) (value_small c) in
    let room = (so_far c).room in
    (omega arith, rw (value_is c) (omega arith))

pub loop-share-preserved : goal.loop-share-preserved
loop-share-preserved c =
    let s = (goal.at.loop-share-preserved c).After-from in
    let e = rw (value_is s) at c.plus-sum.ensures in
    let back : to_z w64 (of_z w64 c.plus-sum.result) ≡ c.plus-sum.result = omega (arith, ints) in
    rw (back, e) (blends_next _ _ _ _ _ _ (so_far s) (value_small s))

pub returns : goal.returns
returns c = blends_all _ _ _ _ c.loop-share.invariant (elim c.in-None.ensures.steps [ inl w ↦ inl w.1.0 | inr w ↦ inr w.1.0 ])
