-- The lengths of a call, and the tests of row 2 of a screen and of rows 4 and 5 as the code makes them, which on these are `bad_screen`, `bad_columns`
-- and `bad_scans`.
use Rattle.std.specs.Prelude.{ℕ, Bool, not, ◌||◌, ltb, eqb, length}
use Rattle.scheme.specs.Units.{among, most_stations, most_scans, wind_mode, equation_rule, listing_rule, Call}
use Rattle.scheme.specs.Refusals.{most_windows}
use Rattle.refusal_shapes.specs.declared.Lengths.{Lengths}

-- the lengths of a call
abbrev pub lengths_of : Call → Lengths
lengths_of c =
    record {
      nx = c.nx;
      ny = c.ny;
      guess = length c.first_guess;
      x = length c.stations.x;
      y = length c.stations.y;
      value = length c.stations.value;
      observed = length c.stations.observed;
      from = length c.stations.from;
      until = length c.stations.until;
      wind_u = length c.stations.wind_u;
      wind_v = length c.stations.wind_v;
      scans = c.plan.scans;
      radius = length c.plan.radius;
      limit = length c.plan.limit;
      mode = c.plan.mode;
      rule = c.plan.rule;
    }

abbrev pub unequal_screen : (left right top bottom : ℕ) → Bool
unequal_screen left right top bottom = not (eqb right left) || not (eqb top left) || not (eqb bottom left) || ltb most_windows left

abbrev pub unequal_columns : Lengths → Bool
unequal_columns l =
    not (eqb l.y l.x) || not (eqb l.value l.x) || not (eqb l.observed l.x) || not (eqb l.from l.x)
    || not (eqb l.until l.x) || not (eqb l.wind_u l.x) || not (eqb l.wind_v l.x)
    || ltb most_stations l.x

abbrev pub bad_scan_count : Lengths → Bool
bad_scan_count l =
    not (among 1 most_scans l.scans) || ltb l.radius l.scans || ltb l.limit l.scans || ltb wind_mode l.mode
    || not (among equation_rule listing_rule l.rule)
