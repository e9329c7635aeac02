-- `scan_point::with_near` meets its contract: a station beyond the radius adds nothing, and the weight of another is at most the scale. Assumes nothing.
use native.Mathlib.Omega.{arith}
use native.Mathlib.Nat.{add-zero}
use mathlib.Core.Path.{sym, ap, ◌∙◌}
use lib.IntN.{ℤ, pos, ◌+ℤ◌, ◌-ℤ◌, zero-*ℤ, +ℤ_idr}
use mir.Syntax.{w64}
use Rattle.std.proofs.Common.{◌*◌}
use Rattle.integers.specs.Words.{bits_back}
use Rattle.scheme.specs.Units.{step}
use Rattle.scan_weight.specs.Along.{beyond, weight_by_most}
use Rattle.scan_along.specs.Streak.{q_at}
use Rattle.scan_lone.specs.Inside.{distance}
use Rattle.scan_point.proofs.with_near.Goals as goal
use Rattle.scan_point.proofs.with_near.Goals.{After-weight, Start}

pub returns-then-r2-d2 : goal.returns-then-r2-d2
returns-then-r2-d2 g c =
    let s = (goal.at.returns-then-r2-d2 g c).Start in
    let near = s.args.near.now in
    let e = beyond s.args.r2 (distance near s.args.i) near.streak.strength (q_at near.streak (near.x -ℤ pos (step * s.args.i))) (omega (arith, c.before.squared_distance-d2.ensures, c.if-r2-d2.true)) in
    rw e (sym (add-zero s.args.s.w), sym (ap (λ (z : ℤ). s.args.s.wd +ℤ z) (zero-*ℤ near.d) ∙ +ℤ_idr s.args.s.wd))

pub added-requires : goal.added-requires
added-requires g c =
    let s = (goal.at.added-requires g c).Start in
    let near = s.args.near.now in
    let p = s.requires in
    let most = weight_by_most s.args.r2 (distance near s.args.i) near.streak.strength (q_at near.streak (near.x -ℤ pos (step * s.args.i))) in
    let w = (goal.at.added-requires g c).After-weight in
    let at-distance = rw w.before.before.squared_distance-d2.ensures at w.weight.ensures in
    (p.0, p.1, omega (arith, most, at-distance), rw (bits_back w64 near.d (omega (arith, p.4.d_small))) p.4.d_small)
