-- What holds of every weight, in both modes: it lies in 0..scale and is 0 from the radius on. Along the wind (document 02, 5) it is never below the
-- round weight, is equal to it across the wind, and changes neither with the wind's sign nor with its strength.
use Rattle.std.specs.Prelude.{◌≤◌, ℤ, neg_ℤ, nat_abs, ◌*ℤ◌}
use Rattle.scheme.specs.Units.{Wind, most_wind}

-- k times as strong; for a negative k it blows the other way
abbrev pub times : ℤ → Wind → Wind
times k w = record { u = k *ℤ w.u; v = k *ℤ w.v }

-- turned about
abbrev pub turned : Wind → Wind
turned w = record { u = neg_ℤ w.u; v = neg_ℤ w.v }

-- a wind in its range
abbrev pub Fair : Wind → Type 0
Fair w = (nat_abs w.u ≤ most_wind) × (nat_abs w.v ≤ most_wind)
