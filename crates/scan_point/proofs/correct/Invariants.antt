use Prim.Native.Nat.{◌*◌}
use lib.IntN.{pos}
use Rattle.lists.specs.Filled.{Filled}
use Rattle.scan_point.specs.Near.{stations_with}
use Rattle.scan_point.specs.Pass.{pass_z, pass_s}
use Rattle.scan_point.proofs.correct.Given as goal

abbrev pub invariant-loop-j : goal.invariant-loop-j
invariant-loop-j g l =
    Filled (pos 0) (pass_z l.t.rule l.initial.z l.t.nx (stations_with g.row.MODE l.stations l.verdict l.d) (l.radius * l.radius)) 0 (l.j * l.t.nx) l.initial.z l.z
    × Filled 0 (pass_s l.initial.support l.t.nx (stations_with g.row.MODE l.stations l.verdict l.d) (l.radius * l.radius) l.bit) 0 (l.j * l.t.nx) l.initial.support l.support
