-- `scan_weight::whole_part` meets its contract: one division where the product fits, and else the law of two steps. Assumes nothing.
use Prim.Native.Nat.{ℕ, ◌+◌, ◌-◌, ◌*◌, ◌/◌, ◌%◌, ◌≤◌, ◌<◌}
use native.Mathlib.Omega.{arith}
use native.Mathlib.Nat.{mod-lt}
use mathlib.Core.Path.{◌≡◌, refl, sym}
use Rattle.scheme.specs.Weight.{scale, weight}
use Rattle.scheme.proofs.Weights.{weight_most}
use Rattle.scan_weight.specs.Along.{in_two_steps}
use Rattle.scan_weight.proofs.whole_part.Goals as goal
use Rattle.scan_weight.proofs.whole_part.Goals.{Start}

module _ (s : Start) where
  abbrev upper : ℕ
  upper = s.args.p - s.args.q

  abbrev lower : ℕ
  lower = s.args.p + s.args.q

  some : 0 < lower
  some = omega (arith, s.requires.1)

  weight_is : scale * upper / lower ≡ weight s.args.p s.args.q
  unfolding weight
  weight_is = refl

  most : scale * upper / lower ≤ scale
  most = rw weight_is (weight_most s.args.p s.args.q)

  steps : scale * upper / lower ≡ 100 * (100 * upper / lower) + 100 * (100 * upper % lower) / lower
  steps = in_two_steps upper lower some

  left_over : 100 * upper % lower < lower
  left_over = mod-lt (100 * upper) some

pub returns-then-upper-le-FEW : goal.returns-then-upper-le-FEW
returns-then-upper-le-FEW c = weight_is c.before

pub returns : goal.returns
returns c = rw (sym (steps c.before)) (weight_is c.before)
