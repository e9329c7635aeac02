-- Entries past the scan count are not read: two plans that count as many scans and are equal up to there are refused, run and reach alike.
use Prim.Native.Nat.{ℕ, ◌<◌}
use Rattle.std.specs.Prelude.{◌≡◌, get_or, pos}
use Rattle.scheme.specs.Units.{Plan, Request, asking}

-- the same request with another plan
abbrev pub with_plan : Request → Plan → Request
with_plan q p = asking q.nx q.ny q.first_guess q.stations p.scans p.radius p.limit p.smooth p.mode p.rule p.buddies q.T q.A

-- equal up to the count
pub record UpToCount (p p' : Plan) : Type 0 where
  pub scans : p'.scans ≡ p.scans
  pub smooth : p'.smooth ≡ p.smooth
  pub mode : p'.mode ≡ p.mode
  pub rule : p'.rule ≡ p.rule
  pub buddies : p'.buddies ≡ p.buddies
  pub radii : (m : ℕ) → m < p.scans → get_or p'.radius m (pos 0) ≡ get_or p.radius m (pos 0)
  pub limits : (m : ℕ) → m < p.scans → get_or p'.limit m (pos 0) ≡ get_or p.limit m (pos 0)
