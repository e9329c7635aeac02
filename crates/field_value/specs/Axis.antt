-- A position on an axis of n points, or off it, as the code tests and places it.
use Rattle.std.specs.Prelude.{ℕ, ◌-◌, ◌*◌, ◌≡◌, Bool, ◌&&◌, ℤ, pos, negsuc, nat_abs, ◌+ℤ◌, ◌-ℤ◌}
use Rattle.std.proofs.Common.{Some, arith}
use Rattle.std.specs.Int.{int_max, int_min}
use Rattle.std.proofs.lemmas.Int.{ints}
use Rattle.std.specs.Ordering.{int_cmp, is_le, is_some_and}
use Rattle.std.specs.Int.Signed.{le_z}
use Rattle.scheme.specs.Units.{step}
use Rattle.scheme.specs.Verdicts.{near_axis}
use Rattle.scheme.specs.Value.{place}

-- ---- whether it is near: the test of a range

abbrev at_most : (a b : ℤ) → Bool
at_most a b = is_some_and is_le (Some (int_cmp a b))

at_most_is : (a b : ℤ) → at_most a b ≡ le_z a b
at_most_is a b = grind (arith, ints)

pub near_is : (beyond n : ℕ) (x : ℤ) → le_z (pos 0 -ℤ pos beyond) x && le_z x (pos (step * (n - 1)) +ℤ pos beyond) ≡ near_axis beyond n x
unfolding near_axis
near_is beyond n (pos x) = grind (arith, ints)
near_is beyond n (negsuc x) = grind (arith, ints)

-- the same, as std's range test asks it
pub is_between : (beyond n : ℕ) (x low high : ℤ) → low ≡ pos 0 -ℤ pos beyond → high ≡ pos (step * (n - 1)) +ℤ pos beyond → at_most low x && at_most x high ≡ near_axis beyond n x
is_between beyond n x low high l h = rw (at_most_is low x, at_most_is x high, l, h) (near_is beyond n x)

-- ---- its place

pub place_is : (n : ℕ) (x z : ℤ) → z ≡ int_max (pos 0) (int_min x (pos (step * (n - 1)))) → nat_abs z ≡ place n x
unfolding place
place_is n (pos x) z e = rw e (grind (arith, ints))
place_is n (negsuc x) z e = rw e (grind (arith, ints))
