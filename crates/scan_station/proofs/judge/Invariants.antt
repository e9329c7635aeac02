use Rattle.std.proofs.Common.{pos}
use Rattle.lists.specs.Filled.{Filled}
use Rattle.scan_station.specs.Judge.{diff_at, verdict_at}
use Rattle.scan_station.proofs.judge.Given as goal

abbrev pub invariant-loop-k : goal.invariant-loop-k
invariant-loop-k l =
    Filled (pos 0) (diff_at l.guess l.z l.nx l.ny l.stations l.initial.verdict) 0 l.k l.initial.d l.d
    × Filled 0 (verdict_at l.guess l.z l.nx l.ny l.stations l.initial.verdict l.scan l.limit) 0 l.k l.initial.verdict l.verdict
