-- Every accepted run stays within -13,000,000..13,000,000 at every point, since each correction is at most E in size.
use Rattle.std.specs.Prelude.{ℕ, ◌≤◌, ◌≡◌, true, List, get_or, ℤ, pos, nat_abs}
use Rattle.scheme.specs.Units.{Field, Station}
use Rattle.scheme.specs.Verdicts.{is_accepted}
use Rattle.scheme.specs.Difference.{Row}
use Rattle.scheme.specs.Most.{most_field}

-- a field whose values are all of that size at most
abbrev pub Within : ℕ → Field ℤ → Type 0
Within most z = (i j : ℕ) → nat_abs (z i j) ≤ most

-- a stored field whose values are all as small as those of an accepted run
abbrev pub Small : List ℤ → Type 0
Small l = (k : ℕ) → nat_abs (get_or l k (pos 0)) ≤ most_field

abbrev pub Passed : ℕ → (Station → ℤ) → Row → Type 0
Passed limit D r = is_accepted r.verdict ≡ true → nat_abs (D r.station) ≤ limit
