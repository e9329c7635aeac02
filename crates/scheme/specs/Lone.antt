-- The lone-station rule, old and new (document 02, 6). The two rules judge and support alike, and differ only at points with exactly one accepted
-- station inside the radius: there rule 1 moves the point by all of D, and rule 2 by its weight of it, the same at the station itself.
use Prim.Native.Nat.{ℕ}
use Rattle.std.specs.Prelude.{◌≡◌, Bool, ◌&&◌, ℤ}
use Rattle.std.proofs.Math.Bool.{true}
use Rattle.std.proofs.Math.IntN.{pos}
use Rattle.std.specs.Int.Signed.{le_z}
use Rattle.scheme.specs.Units.{among_ℤ, Request, asking}
use Rattle.scheme.specs.Verdicts.{is_accepted}
use Rattle.scheme.specs.Difference.{Row}
use Rattle.scheme.specs.Gifts.{inside_there}

-- c lies between 0 and D: it has the sign of D, and at most its size
abbrev pub Toward : (D c : ℤ) → Type 0
Toward D c = (le_z (pos 0) D ≡ true → among_ℤ (pos 0) D c ≡ true) × (le_z D (pos 0) ≡ true → among_ℤ D (pos 0) c ≡ true)

-- accepted, and strictly inside the radius at point (i, j)
abbrev pub is_heard : (radius i j : ℕ) → Row → Bool
is_heard radius i j r = is_accepted r.verdict && inside_there radius i j r

-- the same request under another rule
abbrev pub with_rule : ℕ → Request → Request
with_rule rule q =
    asking q.nx q.ny q.first_guess q.stations q.plan.scans q.plan.radius q.plan.limit q.plan.smooth q.plan.mode rule q.plan.buddies q.T q.A
