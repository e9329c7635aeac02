use Prim.Native.Nat.{◌+◌}
use lib.IntN.{pos}
use Rattle.std.proofs.Common.{length}
use Rattle.lists.specs.Filled.{Filled}
use Rattle.scan_point.specs.Entries.{near_share}
use Rattle.scan_point.specs.Pass.{row_z, row_s}
use Rattle.scan_point.proofs.correct_row.Given as goal

abbrev pub invariant-loop-i : goal.invariant-loop-i
invariant-loop-i g l =
    Filled (pos 0) (row_z g.row.RULE l.initial.z (near_share l.near l.r2) (length l.near) l.base) l.base (l.base + l.i) l.initial.z l.z
    × Filled 0 (row_s l.initial.support (near_share l.near l.r2) (length l.near) l.bit l.base) l.base (l.base + l.i) l.initial.support l.support
