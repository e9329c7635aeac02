-- What the sum of weight·D at a point is divided by, under a rule.
use Rattle.std.specs.Prelude.{ℕ, ◌≤◌, ◌<◌, ◌≡◌, cond, ◌&&◌, eqb}
use Rattle.scheme.specs.Units.{listing_rule}
use Rattle.scheme.specs.Weight.{scale}
use Rattle.scheme.specs.Most.{most_weights}

-- by what it is to be divided, w the sum of weights and so many stations inside; nothing, without any weight
pub record Divides (rule w inside over : ℕ) : Type 0 where
  pub least : w ≤ over
  pub most : over ≤ most_weights
  pub none : w ≡ 0 → over ≡ 0
  pub is : 0 < w → over ≡ cond (eqb rule listing_rule && eqb inside 1) scale w
