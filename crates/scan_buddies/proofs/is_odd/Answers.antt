-- `scan_buddies::is_odd` meets its contract: no product and no difference leaves its type. Assumes nothing.
use Rattle.std.proofs.Common.{arith, ◌*◌, ◌≤◌, ◌≡◌, mul-le-mul, le-leb, ℤ, pos, nat_abs, ◌-ℤ◌, ◌*ℤ◌, w64, to_z, of_z}
use mir.Facts.{to_z_pos}
use Rattle.integers.specs.Sizes.{size_minus, size_mul}
use Rattle.integers.specs.Words.{fits_size, bits_back}
use Rattle.scheme.specs.Units.{most_stations, most_limit}
use Rattle.scheme.specs.Buddies.{is_odd}
use Rattle.scan_buddies.specs.Voices.{OfAtMost}
use Rattle.scan_buddies.specs.Asked.{heard_of}
use Rattle.scan_buddies.specs.declared.Told.{Told}
use Rattle.scan_buddies.proofs.is_odd.Goals as goal

-- the gap, as the code counts it
module _ (heard : Told) (d : ℤ) (few : OfAtMost most_stations (heard_of heard)) (small : nat_abs d ≤ most_limit) where
  abbrev gap : ℤ
  gap = pos heard.count *ℤ d -ℤ heard.sum

  product_small : nat_abs (pos heard.count *ℤ d) ≤ most_stations * most_limit
  product_small = rw (size_mul (pos heard.count) d) (mul-le-mul few.few small)

  gap-small : nat_abs gap ≤ 2 * most_stations * most_limit
  gap-small = omega (arith, size_minus (pos heard.count *ℤ d) heard.sum, product_small, few.small)

  gap_is : to_z w64 (of_z w64 (to_z w64 heard.count *ℤ to_z w64 (of_z w64 d))) -ℤ to_z w64 (of_z w64 heard.sum) ≡ gap
  gap_is =
      rw (
        to_z_pos w64 {n = heard.count} (omega (arith, few.few)),
        bits_back w64 d (omega (arith, small)),
        bits_back w64 (pos heard.count *ℤ d) (omega (arith, product_small)),
        bits_back w64 heard.sum (omega (arith, few.small)),
      )

  gap_back : to_z w64 (of_z w64 (to_z w64 (of_z w64 (to_z w64 heard.count *ℤ to_z w64 (of_z w64 d))) -ℤ to_z w64 (of_z w64 heard.sum))) ≡ gap
  gap_back = rw gap_is (bits_back w64 gap (omega (arith, gap-small)))

pub overflow_sub-gap : goal.overflow_sub-gap
overflow_sub-gap c =
    let g = gap-small c.args.heard c.args.d c.requires.1 c.requires.0 in
    rw (gap_is c.args.heard c.args.d c.requires.1 c.requires.0) (fits_size w64 _ (omega (arith, g)))

pub returns : goal.returns
unfolding is_odd
returns c =
    let size = rw (gap_back c.args.heard c.args.d c.requires.1 c.requires.0) at c.unsigned_abs.ensures.value in
    rw (le-leb 2 c.args.heard.count c.if-heard-lt-FEWEST.false, size)
