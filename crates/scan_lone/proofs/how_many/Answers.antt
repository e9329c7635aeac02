-- `scan_lone::how_many` meets its contract. The loop's invariant: those counted, with those to come, are all. Assumes nothing.
use native.Mathlib.Omega.{arith}
use mathlib.Core.Path.{◌≡◌, ◌∙◌}
use Rattle.std.proofs.Common.{Bool, ltb, count_by, drop, length-drop}
use Rattle.std.proofs.lemmas.List.Sums.{count_by-le-length}
use Rattle.std.proofs.lemmas.List.Elements.{All-take, All-drop}
use Rattle.scan_lone.specs.declared.Near.{Near}
use Rattle.scan_lone.specs.Inside.{distance, Placed, counted, count_four, inside_counted}
use Rattle.scan_lone.proofs.how_many.Goals as goal
use Rattle.scan_lone.proofs.how_many.Goals.{In-len4-up, After-is_inside, After-is_inside-in-len4-up, After-is_inside-in-len4-up-2}

pub loop-rest-preserved : goal.loop-rest-preserved
loop-rest-preserved c =
    let v = goal.at.loop-rest-preserved c in
    let rest = v.In-len4-up.before.loop-rest.rest.now in
    let i = v.In-len4-up.before.loop-rest.invariant in
    let e = count_four (λ s. ltb (distance s c.args.i) c.args.r2) rest v.In-len4-up.in-len4-up.len_at_least in
    let first = counted _ _ v.After-is_inside.is_inside.ensures in
    let second = counted _ _ v.After-is_inside-in-len4-up.is_inside-in-len4-up.ensures in
    let third = counted _ _ v.After-is_inside-in-len4-up-2.is_inside-in-len4-up-2.ensures in
    let fourth = counted _ _ c.is_inside-in-len4-up-3.ensures in
    (All-take Placed _ _ (All-drop Placed 4 rest i.0), omega (arith, i.1, e, first, second, third, fourth))

pub returns : goal.returns
returns c =
    let a = c.args in
    let l = c.loop-s in
    let p : Near → Bool = λ s. ltb (distance s a.i) a.r2 in
    let none = drop l.s-index c.loop-rest.rest.now in
    let all : l.inside ≡ count_by p a.near.now = omega (arith, l.invariant.1, count_by-le-length p none, length-drop l.s-index c.loop-rest.rest.now) in
    all ∙ inside_counted a.near.now a.r2 a.i
