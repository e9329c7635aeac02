-- `scan_along::Streak::at_row` meets its contract: a wind's parts are at most 100, so that no product leaves an i32. Assumes nothing.
use Prim.Native.Nat.{ℕ, ◌*◌, ◌≤◌}
use native.Mathlib.Omega.{arith}
use native.Mathlib.Nat.{mul-le-mul}
use mathlib.Core.Path.{◌≡◌, ap, ◌∙◌}
use lib.IntN.{ℤ, pos, nat_abs, ◌+ℤ◌, ◌-ℤ◌, ◌*ℤ◌}
use mir.Syntax.{w16, w32}
use mir.Val.{to_z, of_z}
use mir.Facts.{to_z_pos}
use Rattle.integers.specs.Sizes.{size_minus, size_mul}
use Rattle.integers.specs.Ring.{square}
use Rattle.integers.specs.Words.{fits_size, bits_back}
use Rattle.scheme.specs.Units.{step, Wind, most_wind}
use Rattle.scheme.specs.Weight.{strength}
use Rattle.scheme.specs.Streaks.{Fair}
use Rattle.scan_weight.specs.Along.{calmed, calmed_fair}
use Rattle.scan_along.specs.Streak.{wind_in}
use Rattle.scan_along.proofs.Streak.at_row.Goals as goal
use Rattle.scan_along.proofs.Streak.at_row.Goals.{After-heard-w}

-- a part of a wind, and its square
part-back : (z : ℤ) → nat_abs z ≤ most_wind → to_z w32 (of_z w32 z) ≡ z
part-back z h = bits_back w32 z (omega arith)

half-back : (z : ℤ) → nat_abs z ≤ most_wind → to_z w16 (of_z w16 z) ≡ z
half-back z h = bits_back w16 z (omega arith)

square-small : (z : ℤ) → nat_abs z ≤ most_wind → nat_abs (z *ℤ z) ≤ most_wind * most_wind
square-small z h = rw (size_mul z z) (mul-le-mul h h)

module _ (o : After-heard-w) where
  abbrev y : ℤ
  y = o.before.args.station.now.y

  abbrev w : Wind
  w = calmed (wind_in o.before.args.station.now)

  fair : Fair w
  fair = calmed_fair (wind_in o.before.args.station.now) o.before.requires.2

  u-is : to_z w32 (of_z w32 o.heard-w.result.u) ≡ w.u
  u-is = ap (λ (v : Wind). to_z w32 (of_z w32 v.u)) o.heard-w.ensures ∙ part-back w.u fair.0

  v-is : to_z w32 (of_z w32 o.heard-w.result.v) ≡ w.v
  v-is = ap (λ (v : Wind). to_z w32 (of_z w32 v.v)) o.heard-w.ensures ∙ part-back w.v fair.1

  abbrev j64 : ℕ
  j64 = step * o.before.args.j

  abbrev dy : ℤ
  dy = y -ℤ pos j64

  dy-small : nat_abs dy ≤ 8320
  dy-small = omega (arith, size_minus y (pos j64), o.before.requires.1, o.before.requires.0)

  dy-parts : to_z w32 (of_z w32 y) -ℤ to_z w32 j64 ≡ dy
  dy-parts = rw (bits_back w32 y (omega (arith, o.before.requires.1)), to_z_pos w32 {n = j64} (omega (arith, o.before.requires.0)))

  dy-is : to_z w32 (of_z w32 (to_z w32 (of_z w32 y) -ℤ to_z w32 j64)) ≡ dy
  dy-is = rw dy-parts (bits_back w32 dy (omega (arith, dy-small)))

  part_small : nat_abs (w.v *ℤ dy) ≤ most_wind * 8320
  part_small = rw (size_mul w.v dy) (mul-le-mul fair.1 dy-small)

  u-square : to_z w32 (of_z w32 (w.u *ℤ w.u)) ≡ w.u *ℤ w.u
  u-square = bits_back w32 (w.u *ℤ w.u) (omega (arith, square-small w.u fair.0))

  v-square : to_z w32 (of_z w32 (w.v *ℤ w.v)) ≡ w.v *ℤ w.v
  v-square = bits_back w32 (w.v *ℤ w.v) (omega (arith, square-small w.v fair.1))

  squares-are : w.u *ℤ w.u +ℤ w.v *ℤ w.v ≡ pos (strength w)
  squares-are = rw (square w.u, square w.v)

  strength_small : nat_abs (pos (strength w)) ≤ 2 * (most_wind * most_wind)
  strength_small = omega (arith, mul-le-mul fair.0 fair.0, mul-le-mul fair.1 fair.1)

  strength-back : to_z w32 (of_z w32 (pos (strength w))) ≡ pos (strength w)
  strength-back = bits_back w32 (pos (strength w)) (omega (arith, strength_small))

pub overflow_mul-part : goal.overflow_mul-part
overflow_mul-part c =
    let o = (goal.at.overflow_mul-part c).After-heard-w in
    rw (v-is o, dy-is o) (fits_size w32 ((w o).v *ℤ dy o) (omega (arith, part_small o)))

pub overflow_mul-strength : goal.overflow_mul-strength
overflow_mul-strength c =
    let o = (goal.at.overflow_mul-strength c).After-heard-w in
    rw (u-is o) (fits_size w32 ((w o).u *ℤ (w o).u) (omega (arith, square-small (w o).u (fair o).0)))

pub overflow_mul-strength-2 : goal.overflow_mul-strength-2
overflow_mul-strength-2 c =
    let o = (goal.at.overflow_mul-strength-2 c).After-heard-w in
    rw (v-is o) (fits_size w32 ((w o).v *ℤ (w o).v) (omega (arith, square-small (w o).v (fair o).1)))

pub overflow_add-strength : goal.overflow_add-strength
overflow_add-strength c =
    let o = (goal.at.overflow_add-strength c).After-heard-w in
    rw (u-is o, v-is o, u-square o, v-square o, squares-are o) (fits_size w32 (pos (strength (w o))) (omega (arith, strength_small o)))

pub overflow_cast-strength : goal.overflow_cast-strength
overflow_cast-strength c =
    let o = (goal.at.overflow_cast-strength c).After-heard-w in
    rw (u-is o, v-is o, u-square o, v-square o, squares-are o, strength-back o) (tt, omega (arith, strength_small o))

pub overflow_cast-u : goal.overflow_cast-u
overflow_cast-u c =
    let o = (goal.at.overflow_cast-u c).After-heard-w in
    rw (u-is o) (fits_size w16 (w o).u (omega (arith, (fair o).0)))

pub returns : goal.returns
returns c =
    let o = (goal.at.returns c).After-heard-w in
    rw (u-is o, v-is o, dy-is o, u-square o, v-square o, squares-are o, strength-back o, bits_back w32 ((w o).v *ℤ dy o) (omega (arith, part_small o)), half-back (w o).u (fair o).0)
