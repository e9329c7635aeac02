-- The tests of the refusal table on plain numbers, as the code makes them.
use Rattle.std.specs.Prelude.{ℕ, zero, suc, ◌-◌, ◌≤◌, ◌<◌, ◌≡◌, ◌⊎◌, ◌&&◌, leb, eqb, get_or, ℤ, pos, negsuc}
use Rattle.std.proofs.Common.{arith, inl, inr, le-leb, eq-eqb, ne_eqb, SFits, of_z}
use Rattle.std.proofs.lemmas.Bool.{lt-leb}
use Rattle.std.specs.Int.Signed.{lt_z}
use Rattle.std.specs.Int.{w32}
use Rattle.lists.specs.Tests.{lt_or_le}
use Rattle.scheme.specs.Units.{is_missing}
use Rattle.scheme.specs.Refusals.{rising}
use Rattle.request.specs.declared.Terms.{Terms}
use Rattle.request.specs.Tables.{no_entry, radius_at, plan_in}

-- ---- the mark, as the machine's bits say it

pub mark_bits : (v : ℤ) → SFits w32 v → eqb (of_z w32 v) 2147483648 ≡ is_missing v
unfolding is_missing
mark_bits (pos n) f = ne_eqb n 2147483648 (λ (e : n ≡ 2147483648). absurd (omega (arith, f.sfits)))
mark_bits (negsuc n) f = go (lt_or_le n 2147483647)
  where
    go : (n < 2147483647) ⊎ (2147483647 ≤ n) → eqb (of_z w32 (negsuc n)) 2147483648 ≡ leb n 2147483647 && leb 2147483647 n
    go (inl h) =
        rw (lt-leb 2147483647 n h, le-leb n 2147483647 (omega arith))
        (ne_eqb (of_z w32 (negsuc n)) 2147483648 (λ (e : of_z w32 (negsuc n) ≡ 2147483648). absurd (omega (arith, f.sfits))))
    go (inr h) =
        rw (le-leb 2147483647 n h, le-leb n 2147483647 (omega (arith, f.sfits)))
        (eq-eqb (of_z w32 (negsuc n)) 2147483648 (omega (arith, f.sfits)))

-- ---- the entries of a plan

-- after the first, a radius rises if it is above the one before it
pub rising_after : (t : Terms) (m : ℕ) → 0 < m → lt_z (get_or t.entries (m - 1) no_entry).radius (get_or t.entries m no_entry).radius ≡ rising (plan_in t) m
unfolding rising
rising_after t zero h = absurd (omega arith)
rising_after t (suc m) h = let e : suc m - 1 ≡ m = omega arith in rw (e, radius_at t.entries m, radius_at t.entries (suc m))
