-- The lists of an analysis are as long as the grid and the station list.
use Prim.Native.Nat.{ℕ, zero, suc, ◌*◌}
use Rattle.std.specs.Prelude.{◌≡◌, length}
use Rattle.std.proofs.Common.{◌∙◌}
use Rattle.std.proofs.Math.ListN.{length-map}
use Rattle.scheme.specs.Units.{most_beyond, Request}
use Rattle.scheme.specs.Difference.{Row}
use Rattle.scheme.specs.Scan.{State, begins, start, differences, rows_judged, scan, after_within, after, analysis}
use Rattle.scheme.proofs.Judging.{judged_length}
use Rattle.scheme.proofs.Stored.{length-stored}

module _ (q : Request) where
  -- a scan leaves a row for each
  scan_rows : (m : ℕ) (found : State) → length (scan q m found).rows ≡ length found.rows
  unfolding scan rows_judged
  scan_rows m found = judged_length q.plan m (differences q found) found.rows

  pub rows_many : (m : ℕ) → length (after q m).rows ≡ length q.stations
  unfolding after_within start
  rows_many zero = length-map q.stations (begins most_beyond q.nx q.ny q.T q.A)
  rows_many (suc m) = scan_rows m (after q m) ∙ rows_many m

  pub grid_long : length (analysis q).grid ≡ q.nx * q.ny
  unfolding analysis
  grid_long = length-stored q.nx q.ny _

  pub support_long : length (analysis q).support ≡ q.nx * q.ny
  unfolding analysis
  support_long = length-stored q.nx q.ny _

  pub verdict_long : length (analysis q).verdict ≡ length q.stations
  unfolding analysis
  verdict_long = length-map (after q q.plan.scans).rows (λ (r : Row). r.verdict) ∙ rows_many q.plan.scans
