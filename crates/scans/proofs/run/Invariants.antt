use Rattle.scan_start.specs.Reached.{Reached}
use Rattle.scans.proofs.run.Given as goal

abbrev pub invariant-loop-m : goal.invariant-loop-m
invariant-loop-m l = Reached l.request.terms l.request.guess.now l.request.stations.now l.m l.grid l.support l.verdict
