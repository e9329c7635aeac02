-- The buddy check (document 02, 7): all are judged at once; off, it is as if it were not there; who has fewer than two neighbours stays; who is set
-- aside has no weight and is no neighbour from then on; and what two that agree do to a third.
use Prim.Native.Nat.{ℕ, zero, suc}
use Rattle.std.specs.Prelude.{ℤ, ◌+ℤ◌}
use Rattle.std.proofs.Math.Bool.{cond}
use mathlib.Core.List.{List, map}
use Rattle.lists.specs.Sums.{total}
use Rattle.scheme.specs.Units.{Field, stored, most_beyond, Buddies, R, Request, asking}
use Rattle.scheme.specs.Refusals.{Window}
use Rattle.scheme.specs.Difference.{Row}
use Rattle.scheme.specs.Correction.{Sums, nothing, plus, share, correction, backed_by}
use Rattle.scheme.specs.Smoothing.{smoothed}
use Rattle.scheme.specs.Scan.{State, start, differences, all_tested, Analysis}
use Rattle.scheme.specs.Reach.{window_of, Tile}

-- what a scan leaves, by its rows as they are judged
abbrev pub scan_of : Request → (m : ℕ) → State → List Row → State
scan_of q m found rows =
    let at : Field Sums = λ i j. total nothing plus (share q.plan.mode (R q.plan m) (differences q found) i j) rows in
    let z : Field ℤ = λ i j. found.field i j +ℤ correction q.plan.rule (at i j) in
    record { field = cond q.plan.smooth (smoothed q.nx q.ny z) z; support = λ i j. backed_by m (at i j) (found.support i j); rows = rows }

-- a scan as the landing before had it: the E test alone
unfoldable pub scan_before : Request → (m : ℕ) → State → State
scan_before q m found = scan_of q m found (all_tested q.plan m (differences q found) found.rows)

unfoldable pub before : Request → ℕ → State
before q zero = start most_beyond q
before q (suc m) = scan_before q m (before q m)

-- what is stored of a state, and what a window has of it
abbrev pub stored_of : Request → State → Analysis
stored_of q s = record { grid = stored q.nx q.ny s.field; support = stored q.nx q.ny s.support; verdict = map (λ r. r.verdict) s.rows }

abbrev pub tile_of : Window → State → Tile
tile_of w s = record { grid = window_of w s.field; support = window_of w s.support }

-- off, neither is read: two requests that are unlike in B and L alone
abbrev pub with_buddies : Buddies → Request → Request
with_buddies b q =
    asking q.nx q.ny q.first_guess q.stations q.plan.scans q.plan.radius q.plan.limit q.plan.smooth q.plan.mode q.plan.rule b q.T q.A
