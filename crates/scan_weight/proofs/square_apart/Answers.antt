-- `scan_weight::square_apart` meets its contract: the difference and its square fit an i32, and a square is not negative. Assumes nothing.
use Prim.Native.Nat.{◌*◌, ◌≤◌}
use native.Mathlib.Omega.{arith}
use native.Mathlib.Nat.{mul-le-mul}
use mathlib.Core.Path.{◌≡◌}
use lib.IntN.{ℤ, pos, nat_abs, ◌-ℤ◌, ◌*ℤ◌}
use mir.Syntax.{w32}
use mir.Val.{to_z, of_z}
use Rattle.integers.specs.Sizes.{size_minus, size_mul}
use Rattle.integers.specs.Ring.{square}
use Rattle.integers.specs.Words.{fits_size, bits_back}
use Rattle.scan_weight.proofs.square_apart.Goals as goal
use Rattle.scan_weight.proofs.square_apart.Goals.{Start}

module _ (s : Start) where
  abbrev d : ℤ
  d = s.args.a -ℤ s.args.b

  d_small : nat_abs d ≤ 32768
  d_small = omega (arith, s.requires.0, s.requires.1, size_minus s.args.a s.args.b)

  square-small : nat_abs d * nat_abs d ≤ 1073741824
  square-small = mul-le-mul d_small d_small

  -- what the code's locals hold
  ends-are : to_z w32 (of_z w32 s.args.a) -ℤ to_z w32 (of_z w32 s.args.b) ≡ d
  ends-are = rw (bits_back w32 s.args.a (omega (arith, s.requires.0)), bits_back w32 s.args.b (omega (arith, s.requires.1)))

  d_is : to_z w32 (of_z w32 (to_z w32 (of_z w32 s.args.a) -ℤ to_z w32 (of_z w32 s.args.b))) ≡ d
  d_is = rw ends-are (bits_back w32 d (omega (arith, d_small)))

  square-is : to_z w32 (of_z w32 (d *ℤ d)) ≡ pos (nat_abs d * nat_abs d)
  square-is = rw (square d) (bits_back w32 (pos (nat_abs d * nat_abs d)) (omega (arith, square-small)))

pub overflow_mul-result : goal.overflow_mul-result
overflow_mul-result c = rw (d_is c) (fits_size w32 (d c *ℤ d c) (omega (arith, size_mul (d c) (d c), square-small c)))

pub overflow_cast-result : goal.overflow_cast-result
overflow_cast-result c = rw (d_is c, square-is c) (tt, record { fits = omega (arith, square-small c) })

pub returns : goal.returns
returns c = rw (d_is c, square-is c) (omega arith, square-small c)
