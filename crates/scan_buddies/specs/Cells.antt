-- Cells of a side of B units, and of 128 at the least: the survivors within B of a station are in its own cell or the eight around it.
use Rattle.std.specs.Prelude.{ℕ, ◌+◌, ◌-◌, ◌*◌, ◌/◌, ◌≤◌, ◌<◌, ◌≡◌, ◌⊎◌, true, cond, List, max, length, get_or, ℤ, pos, nat_abs, ◌+ℤ◌, ◌-ℤ◌}
use native.Mathlib.Omega.{arith}
use Rattle.std.proofs.Common.{mul-le-mul, div-lt_iff_lt-mul, inl, inr}
use Rattle.std.proofs.Math.Nat.{add-div_right, le-max_left, le-max_right}
use borrow.Author.Tests.{ltb-true}
use Rattle.integers.specs.Parts.{up, dn, eq_parts, add_parts, size_parts}
use Rattle.integers.specs.Sizes.{apart}
use Rattle.integers.specs.Fractions.{whole_part_order}
use Rattle.lists.specs.Tests.{lt_or_le}
use Rattle.lists.specs.Chains.{Chained}
use Rattle.scheme.specs.Units.{Station, most_stations, most_beyond}
use Rattle.scheme.specs.Verdicts.{is_accepted}
use Rattle.scheme.specs.Weight.{inside}
use Rattle.request.specs.declared.Station.{Station as Row}
use Rattle.request.specs.Tables.{station_in}
use Rattle.scan_buddies.specs.Aside.{OnAxis, AllStanding}

abbrev pub least_side : ℕ
least_side = 128

-- cells of a row of cells, with a free one at each end; all cells; and the kinds of chains, since a station that is no survivor is in the chain of a
-- cell that is none
abbrev pub across : ℕ
across = 38

abbrev pub cells : ℕ
cells = across * across

abbrev pub kinds : ℕ
kinds = cells + 1

unfoldable pub side_of : (radius : ℕ) → ℕ
side_of radius = max radius least_side

-- how far a position is from the least, -256
abbrev pub offset : ℤ → ℕ
offset x = up x + most_beyond - dn x

unfoldable pub cell_along : (side : ℕ) → ℤ → ℕ
cell_along side x = offset x / side + 1

unfoldable pub cell_of : (radius : ℕ) → Station → ℕ
cell_of radius s = cell_along (side_of radius) s.y * across + cell_along (side_of radius) s.x

unfoldable pub cell_for : (radius verdict : ℕ) → Station → ℕ
cell_for radius verdict s = cond (is_accepted verdict) (cell_of radius s) cells

-- of station j
abbrev pub cell_at : (radius : ℕ) (stations : List Row) (st : List ℕ) → ℕ → ℕ
cell_at radius stations st j = cell_for radius (get_or st j 0) (station_in stations j)

-- the survivors of the stations with these verdicts are in these chains
pub record Survivors (radius : ℕ) (stations : List Row) (ds : List ℤ) (heads next : List ℕ) (st : List ℕ) : Type 0 where
  pub few : length stations ≤ most_stations
  pub standing : AllStanding stations ds st
  pub chained : Chained (cell_at radius stations st) kinds (length stations) heads next

-- there are such verdicts
pub record Chains (radius : ℕ) (stations : List Row) (ds : List ℤ) (heads next : List ℕ) : Type 0 where
  pub st : List ℕ
  pub survivors : Survivors radius stations ds heads next st

-- ---- laws

module _ (radius : ℕ) where
  pub side_least : least_side ≤ side_of radius
  unfolding side_of
  side_least = le-max_right radius least_side

  pub side_wide : radius ≤ side_of radius
  unfolding side_of
  side_wide = le-max_left radius least_side

-- positions are small, and none is below -256
pub axis_small : (x : ℤ) → OnAxis x → nat_abs x ≤ 4544
axis_small x on = omega (arith, size_parts x, on.low, on.high)

pub from_least : (x : ℤ) → OnAxis x → x +ℤ pos most_beyond ≡ pos (offset x)
from_least x on = eq_parts (x +ℤ pos most_beyond) (pos (offset x)) (omega (arith, add_parts x (pos most_beyond), on.low))

-- a cell's place along an axis has one before it and one after
pub record InRow (c : ℕ) : Type 0 where
  pub some : 1 ≤ c
  pub most : c + 2 ≤ across

module _ (side : ℕ) (wide : least_side ≤ side) where
  pub along_in_row : (x : ℤ) → OnAxis x → InRow (cell_along side x)
  unfolding cell_along
  along_in_row x on =
      let h : offset x / side < 36 = (div-lt_iff_lt-mul {k = side} {x = offset x} {y = 36} (omega arith)).1 (omega (arith, on.high)) in
      record { some = omega arith; most = omega arith }

  -- what is less than a side apart is in the same cell or in the next
  next_cell : (a b : ℕ) → a ≤ b + side → a / side ≤ b / side + 1
  next_cell a b h =
      omega (arith, whole_part_order a side (b + side) side (omega arith) (omega arith) (mul-le-mul h (omega arith)), add-div_right b {k = side} (omega arith))

  pub along_near : (a b : ℤ) → OnAxis a → OnAxis b → nat_abs (a -ℤ b) < side → (cell_along side a ≤ cell_along side b + 1) × (cell_along side b ≤ cell_along side a + 1)
  unfolding cell_along
  along_near a b on on' h =
      let (p, q) = apart a b in
      (omega (arith, next_cell (offset a) (offset b) (omega (arith, on.low, on'.low))), omega (arith, next_cell (offset b) (offset a) (omega (arith, on.low, on'.low))))

-- inside the radius along both axes
root_less : (a b r : ℕ) → a * a + b * b < r * r → (a < r) × (b < r)
root_less a b r h = (go a (omega arith) (lt_or_le a r), go b (omega arith) (lt_or_le b r))
  where
    go : (c : ℕ) → c * c < r * r → (c < r) ⊎ (r ≤ c) → c < r
    go c l (inl p) = p
    go c l (inr p) = absurd (omega (arith, mul-le-mul p p))

pub inside_axes : (r : ℕ) (dx dy : ℤ) → inside (r * r) dx dy ≡ true → (nat_abs dx < r) × (nat_abs dy < r)
inside_axes r dx dy e = root_less (nat_abs dx) (nat_abs dy) r (ltb-true (nat_abs dx * nat_abs dx + nat_abs dy * nat_abs dy) (r * r) e)
