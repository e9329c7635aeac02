-- Of a wind what the points of a row go by: u, v·dy and V, and their sizes.
use Rattle.std.specs.Prelude.{ℕ, ◌*◌, ◌≤◌, ◌<◌, ℤ, pos, nat_abs, ◌+ℤ◌, ◌-ℤ◌, ◌*ℤ◌}
use native.Mathlib.Omega.{arith}
use Rattle.scheme.specs.Units.{step, Wind, most_wind}
use Rattle.scheme.specs.Weight.{square, strength}
use Rattle.scheme.specs.Most.{most_square}
use Rattle.scheme.specs.Streaks.{Fair}
use Rattle.scan_weight.specs.Along.{calmed, most_strength, strength_small, most_part, part_small}
use Rattle.request.specs.declared.Station.{Station as Row}
use Rattle.request.specs.declared.Wind.{Wind as Blown}
use Rattle.scan_along.specs.declared.Streak.{Streak}

-- the wind of a station's row
abbrev pub wind_of : Blown → Wind
wind_of w = record { u = w.u; v = w.v }

abbrev pub wind_in : Row → Wind
wind_in s = wind_of s.wind

-- of a wind, for the points of a row that the station is dy off
abbrev pub streak_of : Wind → ℤ → Streak
streak_of w dy = record { u = w.u; part = w.v *ℤ dy; strength = strength w }

-- of a station and grid row j; a missing wind as calm
abbrev pub streak_at : Row → ℕ → Streak
streak_at s j = streak_of (calmed (wind_in s)) (s.y -ℤ pos (step * j))

-- and of a calm wind
abbrev pub still : Streak
still = record { u = pos 0; part = pos 0; strength = 0 }

-- u·dx + v·dy, from an entry
abbrev pub q_at : Streak → ℤ → ℤ
q_at streak dx = streak.u *ℤ dx +ℤ streak.part

-- ---- sizes of an entry

pub record Streaked (streak : Streak) : Type 0 where
  pub u_small : nat_abs streak.u ≤ most_wind
  pub part_most : nat_abs streak.part ≤ most_part
  pub strength_most : streak.strength ≤ most_strength

pub streaked : (w : Wind) (dy : ℤ) → Fair w → square dy < most_square → Streaked (streak_of w dy)
streaked w dy fair near =
    record {
      u_small = fair.0;
      part_most = part_small w.v dy fair.1 near;
      strength_most = strength_small w fair;
    }

pub streaked_still : Streaked still
streaked_still = record { u_small = omega arith; part_most = omega arith; strength_most = omega arith }
