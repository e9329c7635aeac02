-- What winds change in the answer to a request (document 02, 5): nothing in mode 0, nor where they are missing; in mode 1 neither turning all of
-- them about nor making all of them stronger or weaker alike.
use Rattle.std.specs.Prelude.{ℕ, ◌≡◌, false, map, ℤ}
use Rattle.std.proofs.Math.Bool.{cond}
use Rattle.scheme.specs.Units.{Wind, no_wind, is_no_wind, Station, round_mode, Request}
use Rattle.scheme.specs.Streaks.{times, turned, Fair}

abbrev pub with_wind : (Wind → Wind) → Station → Station
with_wind f s =
    record { x = s.x; y = s.y; value = s.value; observed = s.observed; from = s.from; until = s.until; wind = f s.wind }

abbrev pub with_winds : (mode : ℕ) → (Wind → Wind) → Request → Request
with_winds mode f q =
    record {
      nx = q.nx;
      ny = q.ny;
      first_guess = q.first_guess;
      stations = map (with_wind f) q.stations;
      plan = record { scans = q.plan.scans; radius = q.plan.radius; limit = q.plan.limit; smooth = q.plan.smooth; mode = mode; rule = q.plan.rule; buddies = q.plan.buddies };
      T = q.T;
      A = q.A;
    }

-- with every wind missing
abbrev pub stilled : Request → Request
stilled q = with_winds round_mode (λ w. no_wind) q

abbrev pub strengthened : ℤ → Wind → Wind
strengthened k w = cond (is_no_wind w) w (times k w)

abbrev pub turned_about : Wind → Wind
turned_about w = cond (is_no_wind w) w (turned w)

-- it is missing, or in its range before and after
abbrev pub FairBoth : ℤ → Station → Type 0
FairBoth k s = is_no_wind s.wind ≡ false → Fair s.wind × Fair (times k s.wind)
