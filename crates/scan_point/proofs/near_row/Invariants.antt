use Rattle.std.proofs.Common.{get_or}
use Rattle.scan_lone.specs.Inside.{nobody}
use Rattle.scan_point.specs.Near.{stations_with, Gathered}
use Rattle.scan_point.specs.Entries.{near_share, Sized}
use Rattle.scan_point.proofs.near_row.Given as goal

abbrev pub invariant-loop-k : goal.invariant-loop-k
invariant-loop-k g l =
    Gathered (near_share l.room l.r2) (λ t. Sized g.row.MODE (get_or l.room t nobody)) l.n (stations_with g.row.MODE l.stations l.verdict l.d) l.r2 l.j l.k
