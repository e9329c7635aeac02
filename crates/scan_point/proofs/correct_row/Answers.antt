-- `scan_point::correct_row` meets its contract. The loop's invariant: the points passed have their new value and support. Assumes nothing.
use Prim.Native.Nat.{ℕ, ◌+◌, ◌*◌, ◌≤◌}
use native.Mathlib.Omega.{arith}
use mathlib.Core.Path.{◌≡◌, refl}
use lib.IntN.{nat_abs}
use mir.Syntax.{w64}
use mir.Val.{to_z, of_z}
use Rattle.std.proofs.Common.{length}
use Rattle.integers.specs.Words.{bits_back}
use Rattle.lists.specs.Sums.{up_to}
use Rattle.scheme.specs.Units.{most_limit}
use Rattle.scheme.specs.Weight.{scale}
use Rattle.scheme.specs.Most.{most_weights}
use Rattle.scan_lone.specs.Inside.{inside_in}
use Rattle.scan_point.specs.Near.{inside_counted}
use Rattle.scan_point.specs.Entries.{near_share, share_inside, all_placed}
use Rattle.scan_point.specs.Pass.{row_sums, PointReady, point_ready, sums_small, pulls_small, next_value, next_support}
use Rattle.scan_point.proofs.correct_row.Goals as goal
use Rattle.scan_point.proofs.correct_row.Goals.{After-divisor-w, After-point_sums-s, In-loop-i, Start}

-- a turn of the loop: Pass's laws at its values
module _ (g : _) (k : In-loop-i g) where
  abbrev s : Start g
  s = k.before.before.before

  abbrev i : ℕ
  i = k.before.loop-i.i

  ready : PointReady k.before.loop-i.z k.before.loop-i.support (s.args.base + i) s.args.bit
  ready = point_ready s.requires.0 g.row.RULE k.loop-i-test.true k.before.loop-i.invariant.0 k.before.loop-i.invariant.1

-- and with the sums at its point
module _ (g : _) (c : After-point_sums-s g) where
  abbrev k : In-loop-i g
  k = c.before

  abbrev one : ℕ → ℕ
  one = inside_in (s g k).args.near.now (s g k).args.r2 (i g k)

  abbrev n : ℕ
  n = length (s g k).args.near.now

  inside_is : (row_sums (near_share (s g k).args.near.now (s g k).args.r2) n (i g k)).inside ≡ up_to 0 ◌+◌ n one
  inside_is = inside_counted (near_share (s g k).args.near.now (s g k).args.r2 (i g k)) one n (λ t h. share_inside (s g k).args.near.now (s g k).args.r2 (i g k) t)

  small : (c.point_sums-s.result.w ≤ most_weights) × (nat_abs c.point_sums-s.result.wd ≤ most_limit * c.point_sums-s.result.w)
      × (c.point_sums-s.result.w ≤ scale * up_to 0 ◌+◌ n one)
  small =
      sums_small (s g k).requires.0 g.row.RULE k.loop-i-test.true k.before.loop-i.invariant.0 k.before.loop-i.invariant.1 c.point_sums-s.ensures.0 c.point_sums-s.ensures.1 inside_is

  wd-is : to_z w64 (of_z w64 c.point_sums-s.result.wd) ≡ c.point_sums-s.result.wd
  wd-is = bits_back w64 c.point_sums-s.result.wd (omega (arith, small))

pub divisor-w-requires : goal.divisor-w-requires
divisor-w-requires g c =
    let o = (goal.at.divisor-w-requires g c).After-point_sums-s in
    let t = k g o in
    let p = (s g t).requires in
    ((small g o).0, p.0.few, omega (arith, t.loop-i-test.true, p.0.narrow), all_placed (s g t).args.near.now p.2, (small g o).2)

pub set_point-requires : goal.set_point-requires
set_point-requires g c =
    let o = (goal.at.set_point-requires g c).After-point_sums-s in
    let by = (goal.at.set_point-requires g c).After-divisor-w.divisor-w.ensures in
    let t = k g o in
    let l = t.before.loop-i.invariant in
    let sums = o.point_sums-s.ensures in
    (ready g t, by.most, rw (wd-is g o) (pulls_small (s g t).requires.0 g.row.RULE t.loop-i-test.true l.0 l.1 sums.0 sums.1 (inside_is g o) by))

pub loop-i-preserved : goal.loop-i-preserved
loop-i-preserved g c =
    let o = (goal.at.loop-i-preserved g c).After-point_sums-s in
    let by = (goal.at.loop-i-preserved g c).After-divisor-w.divisor-w.ensures in
    let t = k g o in
    let l = t.before.loop-i.invariant in
    let p = (s g t).requires.0 in
    let sums = o.point_sums-s.ensures in
    let q = c.before.before.before.set_point in
    let e = rw (wd-is g o) at q.ensures.0 in (
      rw e (next_value p g.row.RULE t.loop-i-test.true l.0 l.1 sums.0 sums.1 (inside_is g o) by _ refl),
      rw q.ensures.1 (next_support p g.row.RULE t.loop-i-test.true l.0 l.1 sums.0 sums.1 (inside_is g o) by _ refl),
    )
