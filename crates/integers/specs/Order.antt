-- The kit's tests of order on ℤ, as facts that omega reads.
use Rattle.std.specs.Prelude.{ℕ, ◌+◌, ◌≤◌, ◌<◌, ◌≡◌, true, false, ℤ, pos, negsuc}
use Rattle.std.proofs.Common.{arith, ltb-true, ltb-false, leb-true, leb-false}
use Rattle.std.specs.Int.Signed.{lt_z, le_z}
use Rattle.integers.specs.Parts.{up, dn}

never : true ≡ false → ⊥
never e = let z : ◌≡◌ {A = ℕ} 0 1 = cc in omega arith

pub less_parts : (a b : ℤ) → lt_z a b ≡ true → up a + dn b < up b + dn a
less_parts (pos a) (pos b) e = omega (arith, ltb-true a b e)
less_parts (pos a) (negsuc b) e = absurd (never (cc))
less_parts (negsuc a) (pos b) e = omega arith
less_parts (negsuc a) (negsuc b) e = omega (arith, ltb-true b a e)

pub not_less_parts : (a b : ℤ) → lt_z a b ≡ false → up b + dn a ≤ up a + dn b
not_less_parts (pos a) (pos b) e = omega (arith, ltb-false a b e)
not_less_parts (pos a) (negsuc b) e = omega arith
not_less_parts (negsuc a) (pos b) e = absurd (never e)
not_less_parts (negsuc a) (negsuc b) e = omega (arith, ltb-false b a e)

pub most_parts : (a b : ℤ) → le_z a b ≡ true → up a + dn b ≤ up b + dn a
most_parts (pos a) (pos b) e = omega (arith, leb-true a b e)
most_parts (pos a) (negsuc b) e = absurd (never (cc))
most_parts (negsuc a) (pos b) e = omega arith
most_parts (negsuc a) (negsuc b) e = omega (arith, leb-true b a e)

pub not_most_parts : (a b : ℤ) → le_z a b ≡ false → up b + dn a < up a + dn b
not_most_parts (pos a) (pos b) e = omega (arith, leb-false a b e)
not_most_parts (pos a) (negsuc b) e = omega arith
not_most_parts (negsuc a) (pos b) e = absurd (never e)
not_most_parts (negsuc a) (negsuc b) e = omega (arith, leb-false b a e)
