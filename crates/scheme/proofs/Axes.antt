-- An axis of the grid and a stretch of it: the places of positions, and how the stretch counts them from its first point.
use Rattle.std.specs.Prelude.{ℕ, ◌+◌, ◌-◌, ◌*◌, ◌≤◌, min, ◌≡◌, refl, ℤ, pos, negsuc, nat_abs, ◌-ℤ◌}
use Rattle.std.proofs.Common.{arith}
use Rattle.integers.specs.Parts.{up, dn, minus_parts}
use Rattle.integers.specs.Sizes.{apart}
use Rattle.scheme.specs.Units.{step}
use Rattle.scheme.specs.Value.{place}
use Rattle.scheme.specs.Axes.{Axis, On, from_first, gap, len, off}

-- ---- places

pub place_most : (n : ℕ) (x : ℤ) → place n x ≤ step * (n - 1)
unfolding place
place_most n (pos x) = omega arith
place_most n (negsuc x) = omega arith

pub place_up : (n : ℕ) (x : ℤ) → place n x ≡ min (up x) (step * (n - 1))
unfolding place
place_up n (pos x) = refl
place_up n (negsuc x) = omega arith

-- places are no farther from one another than the positions
pub place_gap : (n : ℕ) (x y : ℤ) → gap (place n x) (place n y) ≤ nat_abs (x -ℤ y)
place_gap n x y = rw (place_up n x, place_up n y) (go x y (step * (n - 1)) (nat_abs (x -ℤ y)) (apart x y).0 (apart x y).1)
  where
    go : (x y : ℤ) (t m : ℕ) → up x + dn y ≤ dn x + up y + m → dn x + up y ≤ up x + dn y + m → gap (min (up x) t) (min (up y) t) ≤ m
    go (pos x) (pos y) t m h k = omega arith
    go (pos x) (negsuc y) t m h k = omega arith
    go (negsuc x) (pos y) t m h k = omega arith
    go (negsuc x) (negsuc y) t m h k = omega arith

-- ---- a position whose place is on the stretch

-- counted from the stretch it is less by the stretch's start, and as far below 0
pub counted_parts : (a : Axis) (x : ℤ) → On a (place a.n x) → (up x ≡ up (from_first a x) + step * off a) × (dn x ≡ dn (from_first a x))
counted_parts a x h =
    go x (from_first a x) (off a) (place a.n x) h.low (omega (arith, place_up a.n x)) (minus_parts x (pos (step * off a)))
  where
    go : (x c : ℤ) (o p : ℕ) → step * o ≤ p → p ≤ up x → up c + (dn x + step * o) ≡ dn c + (up x + 0) → (up x ≡ up c + step * o) × (dn x ≡ dn c)
    go (pos x) (pos c) o p l k e = (omega arith, omega arith)
    go (pos x) (negsuc c) o p l k e = absurd (omega arith)
    go (negsuc x) (pos c) o p l k e = absurd (omega arith)
    go (negsuc x) (negsuc c) o p l k e = (omega arith, omega arith)

-- it has the same place for the stretch
pub place_counted : (a : Axis) (x : ℤ) → On a (place a.n x) → place a.n x ≡ place (len a) (from_first a x) + step * off a
place_counted a x h =
    let e = counted_parts a x h in
    omega (arith, place_up a.n x, place_up (len a) (from_first a x), a.two, a.inside, h.low, h.high)
