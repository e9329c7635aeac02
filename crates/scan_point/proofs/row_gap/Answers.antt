-- `scan_point::row_gap` meets its contract. Assumes nothing.
use Prim.Native.Nat.{◌*◌}
use native.Mathlib.Omega.{arith}
use borrow.Author.Tests.{eq-eqb, ne_eqb}
use mathlib.Core.Path.{◌≡◌}
use lib.IntN.{pos}
use mir.Syntax.{w32}
use mir.Val.{to_z}
use mir.Facts.{to_z_pos}
use Rattle.integers.specs.Words.{bits_back}
use Rattle.scheme.specs.Units.{step}
use Rattle.scan_point.specs.Near.{row_gap}
use Rattle.scan_point.proofs.row_gap.Goals as goal
use Rattle.scan_point.proofs.row_gap.Goals.{Start, Then-verdict-eq0}

-- where the grid row stands
row_at : (s : Start) → to_z w32 (step * s.args.j) ≡ pos (step * s.args.j)
row_at s = to_z_pos w32 {n = step * s.args.j} (omega (arith, s.requires.0))

pub returns-then-verdict-eq0 : goal.returns-then-verdict-eq0
unfolding row_gap
returns-then-verdict-eq0 c =
    let s = (goal.at.returns-then-verdict-eq0 c).Start in
    let e = (goal.at.returns-then-verdict-eq0 c).Then-verdict-eq0.if-verdict-eq0.true in
    let y = s.args.station.now.y in
    rw (eq-eqb _ _ e) (rw (bits_back w32 y (omega (arith, s.requires.1 e)), row_at s) at c.square_apart.ensures.0)

pub returns-else-verdict-eq0 : goal.returns-else-verdict-eq0
unfolding row_gap
returns-else-verdict-eq0 c = rw (ne_eqb _ _ c.if-verdict-eq0.false)
