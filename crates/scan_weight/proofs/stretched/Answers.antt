-- `scan_weight::stretched` meets its contract: its two cases are those of `weight_by` inside the radius. Assumes nothing.
use Prim.Native.Nat.{◌+◌, ◌*◌, ◌≤◌, ◌<◌}
use native.Mathlib.Omega.{arith}
use native.Mathlib.Nat.{mul-le-mul, mul-le-mul_left, mul-pos}
use mathlib.Core.Path.{◌≡◌, sym, ◌∙◌}
use mir.Facts.{to_z-of_z}
use Rattle.scheme.specs.Weight.{square}
use Rattle.scan_weight.specs.Along.{calm, windy, Small, small}
use Rattle.scan_weight.proofs.stretched.Goals as goal
use Rattle.scan_weight.proofs.stretched.Goals.{After-squared, Start}

-- what is known of a station within the radius
sizes : (s : Start) → Small s.args.r2 s.args.d2 s.args.w2 (square s.args.q)
sizes s =
    small s.args.r2 s.args.d2 s.args.w2 (square s.args.q) s.requires.0 s.requires.1 s.requires.2 (mul-le-mul s.requires.3 s.requires.3)

-- and whose wind blows
module _ (c : After-squared) where
  abbrev s : Start
  s = c.before.before

  square-is : c.squared.result ≡ square s.args.q
  square-is = rw (to_z-of_z s.ranges.q) at c.squared.ensures.0

  blows : 0 < s.args.w2 * s.args.d2
  blows = omega (arith, c.before.if-gust-eq0.false)

  inside : s.args.w2 * s.args.d2 * s.args.d2 ≤ s.args.r2 * (s.args.w2 * s.args.d2 + square s.args.q)
  inside = omega (arith, mul-le-mul_left (s.args.w2 * s.args.d2) s.requires.1)

  some : 0 < s.args.r2 * (s.args.w2 * s.args.d2 + square s.args.q)
  some = mul-pos {m = s.args.r2} {n = s.args.w2 * s.args.d2 + square s.args.q} (omega (arith, s.requires.1)) (omega (arith, blows))

pub returns-then-gust-eq0 : goal.returns-then-gust-eq0
returns-then-gust-eq0 c =
    let s = c.before.before in
    c.whole_part.ensures ∙ sym (calm s.args.r2 s.args.d2 s.args.w2 s.args.q s.requires.1 c.before.if-gust-eq0.true)

pub whole_part-requires-2 : goal.whole_part-requires-2
whole_part-requires-2 c = rw (square-is c) (inside c, some c, (sizes (s c)).both)

pub returns : goal.returns
returns c =
    let o = c.before in
    let a = (s o).args in
    rw (square-is o) at c.whole_part-2.ensures ∙ sym (windy a.r2 a.d2 a.w2 a.q (s o).requires.1 (blows o))
