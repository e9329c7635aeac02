-- `field_summary::summary` meets its contract: three zeros if it refuses, and a field of the right shape has a first value. Assumes nothing.
use native.Mathlib.Omega.{arith}
use native.Mathlib.Nat.{mul-le-mul}
use mathlib.Core.Path.{sym, ◌∙◌}
use Rattle.scheme.proofs.Accepted.{shaped}
use Rattle.field_reading.specs.Point.{zero_is}
use Rattle.field_summary.specs.Ends.{summary_refused, summary_given}
use Rattle.field_summary.proofs.summary.Goals as goal

pub returns-then-shape_bad : goal.returns-then-shape_bad
returns-then-shape_bad c = rw zero_is (summary_refused _ _ _ (sym c.before.shape_bad.ensures ∙ c.if-shape_bad.true))

pub units_of-units-requires : goal.units_of-units-requires
units_of-units-requires c =
    let p = shaped _ _ _ (sym c.before.shape_bad.ensures ∙ c.if-shape_bad.false) in
    omega (arith, p.whole, mul-le-mul p.two_columns p.two_rows)

pub returns : goal.returns
returns c =
    let e = c.before in
    summary_given _ _ _ _ (sym e.before.shape_bad.ensures ∙ e.if-shape_bad.false) c.units_of-units.ensures
