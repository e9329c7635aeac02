-- "One scan", Difference: and the E test, with rejection for good.
use Rattle.std.specs.Prelude.{ℕ, ◌+◌, cond, ltb, ℤ, nat_abs, ◌-ℤ◌}
use Rattle.scheme.specs.Units.{Station, Field}
use Rattle.scheme.specs.Verdicts.{on_grid, is_accepted}
use Rattle.scheme.specs.Value.{value_at}

-- D = observation - that value, from the field as the scan finds it. A post's is always from the first guess at its nearest place on the grid
-- (document 02, 1)
unfoldable pub difference : (nx ny : ℕ) → (guess z : Field ℤ) → Station → ℤ
difference nx ny guess z s = s.value -ℤ value_at nx ny (cond (on_grid nx ny s.x s.y) z guess) s

-- a station, and its verdict so far
pub record Row : Type 0 where
  pub station : Station
  pub verdict : ℕ

-- If |D| > E the station is rejected in this scan and all later ones, with verdict 10 + scan number
unfoldable pub after_test : (scan limit : ℕ) → ℤ → ℕ → ℕ
after_test scan limit D verdict = cond (is_accepted verdict) (cond (ltb limit (nat_abs D)) (10 + scan) 0) verdict

-- in a scan of that number and limit E, by its differences
unfoldable pub tested : (scan limit : ℕ) (D : Station → ℤ) → Row → Row
tested scan limit D r = record { station = r.station; verdict = after_test scan limit (D r.station) r.verdict }
