-- A signed number and its bits, over the width: what a size says of the machine's range.
use Rattle.std.specs.Prelude.{◌<◌, ◌≤◌, ◌^◌, ◌≡◌, ℤ, pos, negsuc, nat_abs}
use Rattle.std.proofs.Common.{arith, to_z-of_z}
use Rattle.std.specs.Int.{Width}
use mir.Val.{SFits, to_z, of_z, hbits}
use Rattle.integers.specs.Sizes.{mag_size}

-- a small number fits
pub fits_size : (w : Width) (z : ℤ) → nat_abs z < 2 ^ hbits w → SFits w z
fits_size w z h = record { sfits = omega (arith, mag_size z) }

-- and its bits are its own
pub bits_back : (w : Width) (z : ℤ) → nat_abs z < 2 ^ hbits w → to_z w (of_z w z) ≡ z
bits_back w z h = to_z-of_z (fits_size w z h)

-- what fits is small
pub size_fits : (w : Width) (z : ℤ) → SFits w z → nat_abs z ≤ 2 ^ hbits w
size_fits w (pos n) f = omega (arith, f.sfits)
size_fits w (negsuc n) f = omega (arith, f.sfits)
