-- Demand 2's word on dead masts: a mast out of service, a missing, stale or rejected reading has no weight in any scan from then on.
use Rattle.std.specs.Prelude.{ℕ, List, get_or}
use Rattle.lists.specs.Each.{without}
use Rattle.scheme.specs.Units.{R, Request}
use Rattle.scheme.specs.Difference.{Row}
use Rattle.scheme.specs.Correction.{share}
use Rattle.scheme.specs.Scan.{differences, all_tested, rows_judged, after}
use Rattle.scheme.specs.Judging.{no_row}

abbrev pub row_after : Request → ℕ → ℕ → Row
row_after q m n = get_or (after q m).rows n no_row

-- its weight at point (i, j) in scan number m + 1
abbrev pub weight_in : Request → (m n i j : ℕ) → ℕ
weight_in q m n i j = (share q.plan.mode (R q.plan m) (differences q (after q m)) i j (get_or (rows_judged q m (after q m)) n no_row)).weights

-- how scan number m + 1 judges row n: beside the others, as its E test leaves them
abbrev pub survivors : Request → (m n : ℕ) → List Row
survivors q m n = without n (all_tested q.plan m (differences q (after q m)) (after q m).rows)
