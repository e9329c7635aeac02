-- `field_reading::reading_in` meets its contract: it reads at the position's place, on the grid. Assumes nothing.
use native.Mathlib.Omega.{arith}
use mathlib.Core.Path.{◌≡◌, sym, ap, ap₂, ◌∙◌}
use mathlib.Core.Bool.{Bool, true}
use lib.IntN.{pos, nat_abs}
use mir.Syntax.{w64}
use mir.Val.{to_z, of_z}
use Prim.Native.Nat.{◌≤◌}
use mir.Facts.{to_z-of_z}
use Rattle.integers.specs.Words.{bits_back}
use Rattle.scheme.specs.declared.Reading.TheVariants.{Backed, FirstGuess}
use Rattle.scheme.specs.Units.{field_of}
use Rattle.scheme.specs.Verdicts.{on_grid}
use Rattle.scheme.specs.Value.{place, sum_at}
use Rattle.scheme.specs.Readings.{double, is_backed}
use Rattle.scheme.proofs.Accepted.{same_shape}
use Rattle.scheme.proofs.Axes.{place_most}
use Rattle.field_reading.specs.Point.{off-grid, backed, not_backed}
use Rattle.field_reading.proofs.reading_in.Goals as goal
use Rattle.field_reading.proofs.reading_in.Goals.{After-place-py, Start}

-- a position that the test lets pass, and its place on each axis
module _ (c : After-place-py) where
  abbrev s : Start
  s = c.before.before.before.before.before.before

  on : on_grid s.args.nx s.args.ny s.args.x s.args.y ≡ true
  on = sym (rw (to_z-of_z s.ranges.x, to_z-of_z s.ranges.y) at c.near_grid.ensures) ∙ c.if-not-near_grid.false

  px-is : c.before.place-px.result ≡ place s.args.nx s.args.x
  px-is = rw (to_z-of_z s.ranges.x) at c.before.place-px.ensures

  py-is : c.place-py.result ≡ place s.args.ny s.args.y
  py-is = rw (to_z-of_z s.ranges.y) at c.place-py.ensures

  -- the value of either kind, from the sum at those places
  value_is : (sum value : _) → sum ≡ sum_at s.args.nx s.args.ny (field_of (pos 0) s.args.nx s.args.field.now) c.before.place-px.result c.place-py.result
      → nat_abs sum ≤ 35184372088832 → value ≡ double (to_z w64 (of_z w64 sum)) 262144
      → value ≡ double (sum_at s.args.nx s.args.ny (field_of (pos 0) s.args.nx s.args.field.now) (place s.args.nx s.args.x) (place s.args.ny s.args.y)) 262144
  value_is sum value e small is =
      let at-place = e ∙ ap₂ (sum_at s.args.nx s.args.ny (field_of (pos 0) s.args.nx s.args.field.now)) px-is py-is in
      rw (bits_back w64 sum (omega arith), at-place) at is

  backed_is : (b : Bool) → b ≡ is_backed s.args.nx s.args.ny (field_of 0 s.args.nx s.args.support.now) c.before.place-px.result c.place-py.result
      → b ≡ is_backed s.args.nx s.args.ny (field_of 0 s.args.nx s.args.support.now) (place s.args.nx s.args.x) (place s.args.ny s.args.y)
  backed_is b e = e ∙ ap₂ (is_backed s.args.nx s.args.ny (field_of 0 s.args.nx s.args.support.now)) px-is py-is

pub returns-then-not-near_grid : goal.returns-then-not-near_grid
returns-then-not-near_grid c =
    off-grid _ _ _ _ _ _ (sym (rw (to_z-of_z c.ranges.x, to_z-of_z c.ranges.y) at c.near_grid.ensures) ∙ c.if-not-near_grid.true)

pub sum_at-requires : goal.sum_at-requires
sum_at-requires c = ((s c).requires.0, rw (px-is c) (place_most _ _), rw (py-is c) (place_most _ _))

pub is_backed-requires : goal.is_backed-requires
is_backed-requires c =
    let q = (goal.at.is_backed-requires c).After-place-py in
    let p = c.requires in
    (same_shape p.0 _ (p.1 ∙ p.0.whole), rw (px-is q) (place_most _ _), rw (py-is q) (place_most _ _))

pub returns-then-is_backed : goal.returns-then-is_backed
returns-then-is_backed c =
    let q = (goal.at.returns-then-is_backed c).After-place-py in
    let b = backed_is q _ c.is_backed.ensures in
    ap Backed (value_is q _ _ c.sum_at.ensures.0 c.sum_at.ensures.1 c.double-value.ensures) ∙ backed _ _ _ _ _ _ (on q) (sym b ∙ c.if-is_backed.true)

pub returns-else-is_backed : goal.returns-else-is_backed
returns-else-is_backed c =
    let q = (goal.at.returns-else-is_backed c).After-place-py in
    let b = backed_is q _ c.is_backed.ensures in
    ap FirstGuess (value_is q _ _ c.sum_at.ensures.0 c.sum_at.ensures.1 c.double-value.ensures) ∙ not_backed _ _ _ _ _ _ (on q) (sym b ∙ c.if-is_backed.false)
