-- `scan_along::Streak::weight` meets its contract: inside the radius u·dx and q are small. Assumes nothing.
use native.Mathlib.Omega.{arith}
use mathlib.Core.Path.{◌≡◌}
use lib.IntN.{nat_abs, ◌*ℤ◌}
use mir.Syntax.{w16, w32}
use mir.Val.{to_z, of_z}
use mir.Facts.{to_z-of_z}
use Rattle.std.proofs.Common.{◌≤◌, ◌<◌}
use Rattle.integers.specs.Words.{fits_size, bits_back}
use Rattle.scheme.specs.Weight.{square}
use Rattle.scheme.specs.Most.{most_square}
use Rattle.scan_weight.specs.Along.{most_part, most_q, part_small, q_small}
use Rattle.scan_along.specs.Streak.{q_at}
use Rattle.scan_along.specs.declared.Streak.{Streak}
use Rattle.scan_along.proofs.Streak.weight.Goals as goal
use Rattle.scan_along.proofs.Streak.weight.Goals.{Start}

module _ (s : Start) where
  abbrev streak : Streak
  streak = s.args.self.now

  close : square s.args.dx < most_square
  close = omega (arith, s.requires.2, s.requires.1, s.requires.0)

  product_small : nat_abs (streak.u *ℤ s.args.dx) ≤ most_part
  product_small = part_small streak.u s.args.dx s.requires.3.u_small close

  u-half : to_z w16 (of_z w16 streak.u) ≡ streak.u
  u-half = bits_back w16 streak.u (omega (arith, s.requires.3.u_small))

  u-back : to_z w32 (of_z w32 streak.u) ≡ streak.u
  u-back = bits_back w32 streak.u (omega (arith, s.requires.3.u_small))

  dx-back : to_z w32 (of_z w32 s.args.dx) ≡ s.args.dx
  dx-back = to_z-of_z s.ranges.dx

  part-back : to_z w32 (of_z w32 streak.part) ≡ streak.part
  part-back = bits_back w32 streak.part (omega (arith, s.requires.3.part_most))

  product_is : to_z w32 (of_z w32 (streak.u *ℤ s.args.dx)) ≡ streak.u *ℤ s.args.dx
  product_is = bits_back w32 (streak.u *ℤ s.args.dx) (omega (arith, product_small))

  q-small : nat_abs (q_at streak s.args.dx) ≤ most_q
  q-small = q_small streak.u s.args.dx streak.part s.requires.3.u_small close s.requires.3.part_most

  q-is : to_z w32 (of_z w32 (q_at streak s.args.dx)) ≡ q_at streak s.args.dx
  q-is = bits_back w32 (q_at streak s.args.dx) (omega (arith, q-small))

pub overflow_mul-q : goal.overflow_mul-q
overflow_mul-q c =
    let s = (goal.at.overflow_mul-q c).Start in
    rw (c.from.ensures, u-half s, u-back s, dx-back s) (fits_size w32 ((streak s).u *ℤ s.args.dx) (omega (arith, product_small s)))

pub overflow_add-q : goal.overflow_add-q
overflow_add-q c =
    let s = (goal.at.overflow_add-q c).Start in
    rw (c.from.ensures, u-half s, u-back s, dx-back s, product_is s, part-back s) (fits_size w32 (q_at (streak s) s.args.dx) (omega (arith, q-small s)))

pub stretched-requires : goal.stretched-requires
stretched-requires c =
    let s = (goal.at.stretched-requires c).Start in
    rw (c.from.ensures, u-half s, u-back s, dx-back s, product_is s, part-back s, q-is s, c.from-2.ensures) (s.requires.0, s.requires.1, s.requires.3.strength_most, q-small s)

pub returns : goal.returns
returns c =
    let s = (goal.at.returns c).Start in
    rw (c.from.ensures, u-half s, u-back s, dx-back s, product_is s, part-back s, q-is s, c.from-2.ensures) at c.stretched.ensures
