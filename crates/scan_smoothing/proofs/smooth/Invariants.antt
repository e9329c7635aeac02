-- The loop's invariant of `scan_smoothing::smooth`: rows 0 to j are new, those from j + 1 on are old, and the row that is kept is the old row j.
use Rattle.scan_smoothing.specs.Pass.{Room, Kept, NewTo}
use Rattle.scan_smoothing.proofs.smooth.Given as goal

abbrev pub invariant-loop-j : goal.invariant-loop-j
invariant-loop-j l = NewTo l.initial.z l.nx l.ny l.j l.z × Kept l.initial.z l.nx l.j l.above × Room l.nx l.here
