-- The reach, as a loop over the plan adds it up, and a station's positions.
use Prim.Native.Nat.{ℕ, ◌+◌, ◌-◌, ◌/◌, ◌≤◌}
use Rattle.std.proofs.Common.{arith, sym, ◌∙◌}
use Rattle.std.specs.Prelude.{◌≡◌, Bool, true, false, cond, nat_abs}
use Rattle.std.proofs.Math.Path.{refl, ap}
use Rattle.lists.specs.Sums.{up_to, up_to_next}
use Rattle.scheme.specs.Units.{step, most_position, Station, Plan, R, B}
use Rattle.scheme.specs.Refusals.{Span}
use Rattle.scheme.specs.Reach.{steps, reach}

abbrev pub from_to : ℕ → ℕ → Span
from_to first last = record { first = first; last = last }

-- ---- the reach

module _ (p : Plan) where
  -- before the first scan
  pub reach_none : 0 ≡ up_to 0 ◌+◌ 0 (steps p)
  unfolding up_to
  reach_none = refl

  -- one scan more
  pub reach_next : (m t s : ℕ) → t ≡ up_to 0 ◌+◌ m (steps p) → s ≡ (R p m + B p + (step - 1)) / step + cond p.smooth 1 0
      → t + s ≡ up_to 0 ◌+◌ (m + 1) (steps p)
  unfolding steps
  reach_next m t s et es = rw (et, es) (sym (up_to_next 0 ◌+◌ m _))

  -- all scans
  pub reach_all : (m t : ℕ) → m ≡ p.scans → t ≡ up_to 0 ◌+◌ m (steps p) → t ≡ reach p
  unfolding reach
  reach_all m t e h = h ∙ ap (λ (n : ℕ). up_to 0 ◌+◌ n (steps p)) e

-- what smoothing adds
pub one_most : (b : Bool) → cond b 1 0 ≤ 1
one_most true = omega arith
one_most false = omega arith

-- ---- a station

-- positions as a station's may be
pub record Placed (s : Station) : Type 0 where
  pub x : nat_abs s.x ≤ most_position
  pub y : nat_abs s.y ≤ most_position
