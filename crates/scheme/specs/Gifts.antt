-- What a station gives to a point goes by its offset: nothing from the radius on, its weight and weight·D within. No law here knows of a mode
-- or a rule.
use Rattle.std.specs.Prelude.{ℕ, ◌*◌, ◌≤◌, Bool, cond, List, ℤ, nat_abs, ◌-ℤ◌, ◌*ℤ◌}
use Rattle.std.proofs.Math.IntN.{pos}
use Rattle.lists.specs.Sums.{total}
use Rattle.scheme.specs.Weight.{scale, inside, weight_at}
use Rattle.scheme.specs.Units.{step, Station}
use Rattle.scheme.specs.Difference.{Row}
use Rattle.scheme.specs.Correction.{Sums, nothing, plus, share}

-- what a station of weight w and difference D gives, inside the radius or not
abbrev pub weighed : Bool → ℕ → ℤ → Sums
weighed within w D = record { weights = w; pulls = pos w *ℤ D; inside = cond within 1 0 }

pub record Modest (limit : ℕ) (s : Sums) : Type 0 where
  pub weights_most : s.weights ≤ scale * s.inside
  pub pulls_most : nat_abs s.pulls ≤ limit * s.weights

-- what the rows of a scan give to point (i, j)
abbrev pub sums : (mode radius : ℕ) (D : Station → ℤ) → List Row → (i j : ℕ) → Sums
sums mode radius D rows i j = total nothing plus (share mode radius D i j) rows

-- whether a row's station is inside the radius at point (i, j), and its weight there
abbrev pub inside_there : (radius i j : ℕ) → Row → Bool
inside_there radius i j r = inside (radius * radius) (r.station.x -ℤ pos (step * i)) (r.station.y -ℤ pos (step * j))

abbrev pub weight_there : (mode radius i j : ℕ) → Row → ℕ
weight_there mode radius i j r =
    let s = r.station in
    weight_at mode (radius * radius) s.wind (s.x -ℤ pos (step * i)) (s.y -ℤ pos (step * j))
