-- The bounds that follow from the scale and the greatest counts, each under a name.
use Rattle.std.specs.Prelude.{ℕ, ◌+◌, ◌-◌, ◌*◌, ◌/◌}
use Rattle.scheme.specs.Units.{most_value, most_side, step, most_stations, most_beyond, most_scans, most_radius, most_limit, most_buddy_radius}
use Rattle.scheme.specs.Weight.{scale}

-- points of a grid, and how far along an axis a station that takes part is at most: a post beyond the last point
abbrev pub most_points : ℕ
most_points = most_side * most_side

abbrev pub most_along : ℕ
most_along = step * (most_side - 1) + most_beyond

-- a squared radius
abbrev pub most_square : ℕ
most_square = most_radius * most_radius

-- the sum of weights at a point, and that of weight·D
abbrev pub most_weights : ℕ
most_weights = most_stations * scale

abbrev pub most_pulls : ℕ
most_pulls = most_limit * most_weights

-- a value after the last scan, since each correction is at most E; and a difference
abbrev pub most_field : ℕ
most_field = most_value + most_scans * most_limit

abbrev pub most_difference : ℕ
most_difference = most_value + most_field

-- a reach, in grid steps
abbrev pub most_reach : ℕ
most_reach = most_scans * ((most_radius + most_buddy_radius) / step + 1)
