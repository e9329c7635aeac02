-- `scan_along::heard` meets its contract: its two cases are those of `calmed`. Assumes nothing.
use mathlib.Core.Path.{refl, sym, ◌∙◌}
use Rattle.scan_weight.specs.Along.{calmed}
use Rattle.scan_along.proofs.heard.Goals as goal

pub returns-then-is_no_wind : goal.returns-then-is_no_wind
unfolding calmed
returns-then-is_no_wind c = let e = sym c.before.is_no_wind.ensures ∙ c.if-is_no_wind.true in rw e refl

pub returns : goal.returns
unfolding calmed
returns c = let e = sym c.before.is_no_wind.ensures ∙ c.if-is_no_wind.false in rw e refl
