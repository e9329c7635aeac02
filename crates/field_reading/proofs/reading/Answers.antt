-- `field_reading::reading` meets its contract: each return knows the tests before it. Assumes nothing.
use borrow.Author.Tests.{eq-eqb, ne_eqb}
use mathlib.Core.Path.{sym, ap, ◌∙◌}
use mir.Facts.{to_z-of_z}
use Rattle.scheme.specs.Readings.{numbers_of}
use Rattle.scheme.proofs.Accepted.{shaped}
use Rattle.field_reading.specs.Point.{bad-shape, bad_support, not_refused}
use Rattle.field_reading.proofs.reading.Goals as goal

pub returns-then-shape_bad : goal.returns-then-shape_bad
returns-then-shape_bad c =
    ap numbers_of (bad-shape _ _ _ _ _ _ (sym c.before.shape_bad.ensures ∙ c.if-shape_bad.true))

pub returns-then-support-field : goal.returns-then-support-field
returns-then-support-field c =
    let e = c.before in
    ap numbers_of (bad_support _ _ _ _ _ _ (sym e.before.shape_bad.ensures ∙ e.if-shape_bad.false) (ne_eqb _ _ c.if-support-field.true))

pub reading_in-requires : goal.reading_in-requires
reading_in-requires c =
    let e = c.before in
    (shaped _ _ _ (sym e.before.shape_bad.ensures ∙ e.if-shape_bad.false), c.if-support-field.false)

pub returns : goal.returns
returns c =
    let e = c.before.before in
    let f = e.before.before.before.ranges in
    ap numbers_of
    (rw (to_z-of_z f.x, to_z-of_z f.y) at c.reading_in.ensures
    ∙ not_refused _ _ _ _ _ _ (sym e.before.shape_bad.ensures ∙ e.if-shape_bad.false) (eq-eqb _ _ c.before.if-support-field.false))
