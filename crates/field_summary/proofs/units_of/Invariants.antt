-- The loop's invariant of `field_summary::units_of`: the ends are those of the values passed.
use Rattle.field_summary.specs.Ends.{EndsTo}
use Rattle.field_summary.proofs.units_of.Given as goal

abbrev pub invariant-loop-value : goal.invariant-loop-value
invariant-loop-value l = EndsTo l.field l.value-index l.low l.high
