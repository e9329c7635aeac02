-- `scan_weight::weight` meets its contract: its two cases are those of the definition. Assumes nothing.
use native.Mathlib.Omega.{arith}
use mathlib.Core.Path.{sym}
use Rattle.scheme.proofs.Weights.{weight_beyond}
use Rattle.scan_weight.specs.Product.{by_product}
use Rattle.scan_weight.proofs.weight.Goals as goal

pub returns-then-r2-d2 : goal.returns-then-r2-d2
returns-then-r2-d2 c = sym (weight_beyond c.before.args.r2 c.before.args.d2 c.if-r2-d2.true)

pub returns : goal.returns
returns c = omega (arith, by_product c.before.args.r2 c.before.args.d2 c.if-r2-d2.false)
