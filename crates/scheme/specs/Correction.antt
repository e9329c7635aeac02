-- "One scan", Correction: and the support of a point.
use Rattle.std.specs.Prelude.{ℕ, ◌+◌, ◌*◌, ◌^◌, Bool, cond, ◌&&◌, ltb, eqb, ℤ, pos, ◌+ℤ◌, ◌-ℤ◌, ◌*ℤ◌}
use Rattle.scheme.specs.Units.{Wind, Station, step, listing_rule}
use Rattle.scheme.specs.Verdicts.{is_accepted}
use Rattle.scheme.specs.Rounding.{rounded}
use Rattle.scheme.specs.Difference.{Row}
use Rattle.scheme.specs.Weight.{scale, inside, weight_at}

-- the sum of weights, the sum of weight·D, and how many stations are inside the radius
pub record Sums : Type 0 where
  pub weights : ℕ
  pub pulls : ℤ
  pub inside : ℕ

abbrev pub nothing : Sums
nothing = record { weights = 0; pulls = pos 0; inside = 0 }

abbrev pub plus : Sums → Sums → Sums
plus a b = record { weights = a.weights + b.weights; pulls = a.pulls +ℤ b.pulls; inside = a.inside + b.inside }

-- what a station of that wind and of difference D gives to a point that it is dx and dy off. With weight 0 it still counts as being inside
-- (document 02, 6)
unfoldable pub gift : (mode r2 : ℕ) → Wind → (D dx dy : ℤ) → Sums
gift mode r2 wind D dx dy =
    let w = weight_at mode r2 wind dx dy in
    record { weights = w; pulls = pos w *ℤ D; inside = cond (inside r2 dx dy) 1 0 }

-- what a row gives to point (i, j): nothing, unless it is accepted
unfoldable pub share : (mode radius : ℕ) (D : Station → ℤ) (i j : ℕ) → Row → Sums
share mode radius D i j r =
    let s = r.station in
    cond (is_accepted r.verdict) (gift mode (radius * radius) s.wind (D s) (s.x -ℤ pos (step * i)) (s.y -ℤ pos (step * j))) nothing

-- exactly one accepted station strictly inside the radius
abbrev pub is_lone : Sums → Bool
is_lone s = eqb s.inside 1

-- what the sum of weight·D is divided by: the sum of weights, but under rule 2 the full weight scale, if the station is a lone one (document 02, 6)
unfoldable pub divisor : (rule : ℕ) → Sums → ℕ
divisor rule s = cond (eqb rule listing_rule && is_lone s) scale s.weights

-- The sum of weight·D over accepted stations, divided by that, rounded; 0 if the sum of weights is 0
unfoldable pub correction : (rule : ℕ) → Sums → ℤ
correction rule s = cond (eqb s.weights 0) (pos 0) (rounded s.pulls (divisor rule s))

-- A point's support byte gets bit scan-1 set exactly where the sum of weights is above 0. In scan number m + 1 that is bit m
unfoldable pub backed_by : ℕ → Sums → ℕ → ℕ
backed_by m s support = support + cond (ltb 0 s.weights) (2 ^ m) 0
