-- Weights in ten-thousandths beside document 01's hundredths: finer, and nowhere coarser (document 02, 3).
use Rattle.std.specs.Prelude.{ℕ, ◌+◌, ◌-◌, ◌*◌, ◌/◌, ◌<◌, ◌≡◌, true, pos, ◌-ℤ◌}
use Rattle.scheme.specs.Units.{step}
use Rattle.scheme.specs.Verdicts.{is_accepted}
use Rattle.scheme.specs.Weight.{squares}
use Rattle.scheme.specs.Difference.{Row}

-- a weight in that many parts; document 01 has hundredths
abbrev pub in_parts : (parts r2 d2 : ℕ) → ℕ
in_parts parts r2 d2 = parts * (r2 - d2) / (r2 + d2)

abbrev pub hundredths : (r2 d2 : ℕ) → ℕ
hundredths r2 d2 = in_parts 100 r2 d2

-- the row is accepted, and has a nonzero weight at point (i, j) in hundredths
abbrev pub WeighsInHundredths : (radius i j : ℕ) → Row → Type 0
WeighsInHundredths radius i j r =
    (is_accepted r.verdict ≡ true) × (0 < hundredths (radius * radius) (squares (r.station.x -ℤ pos (step * i)) (r.station.y -ℤ pos (step * j))))
