-- A field by itself is smoothed, or refused and left as it was.
use Prim.Native.Nat.{ℕ, zero, suc, ◌-◌, ◌≤◌}
use Rattle.std.proofs.Common.{arith, leb-true}
use Rattle.std.specs.Prelude.{◌≡◌, Bool, not, cond, ◌&&◌, leb, length, ℤ, pos, negsuc, nat_abs}
use Rattle.std.proofs.Math.Bool.{true, false}
use mathlib.Core.List.{List, [], ◌∷◌}
use Rattle.lists.specs.Tests.{and_true}
use Rattle.std.specs.List.{list_all}
use Rattle.scheme.specs.Units.{among_ℤ, stored, field_of}
use Rattle.scheme.specs.Smoothing.{smoothed}
use Rattle.scheme.specs.Most.{most_field}
use Rattle.scheme.specs.Refusals.{bad_shape}
use Rattle.scheme.specs.Bounds.{Small}

-- a value as small as those of an accepted run: -13,000,000..13,000,000
abbrev pub fair : ℤ → Bool
fair v = among_ℤ (negsuc (most_field - 1)) (pos most_field) v

unfoldable pub is_field : (nx ny : ℕ) → List ℤ → Bool
is_field nx ny l = not (bad_shape nx ny (length l)) && list_all fair l

-- r says whether it is a field, and l' is what the caller then has
pub record Smooths (nx ny : ℕ) (l : List ℤ) (r : Bool) (l' : List ℤ) : Type 0 where
  pub answer : r ≡ is_field nx ny l
  pub left : l' ≡ cond (is_field nx ny l) (stored nx ny (smoothed nx ny (field_of (pos 0) nx l))) l

-- ---- laws

fair_small : (v : ℤ) → fair v ≡ true → nat_abs v ≤ most_field
fair_small (pos n) e = leb-true n most_field e
fair_small (negsuc n) e = let h : n ≤ most_field - 1 = leb-true n (most_field - 1) (and_true (leb n (most_field - 1)) true e).0 in omega arith

pub all_fair_small : (l : List ℤ) → list_all fair l ≡ true → Small l
all_fair_small [] e k = omega arith
all_fair_small (v ∷ l) e zero = fair_small v (and_true (fair v) (list_all fair l) e).0
all_fair_small (v ∷ l) e (suc k) = all_fair_small l (and_true (fair v) (list_all fair l) e).1 k

-- ---- the three outcomes

module _ (nx ny : ℕ) (l : List ℤ) where
  pub no_grid : bad_shape nx ny (length l) ≡ true → Smooths nx ny l false l
  no_grid e = record { answer = unfold is_field in rw e; left = unfold is_field in rw e }

  pub unfair : bad_shape nx ny (length l) ≡ false → list_all fair l ≡ false → Smooths nx ny l false l
  unfair e f = record { answer = unfold is_field in rw (e, f); left = unfold is_field in rw (e, f) }

  pub smooth : bad_shape nx ny (length l) ≡ false → list_all fair l ≡ true
      → (l' : List ℤ) → l' ≡ stored nx ny (smoothed nx ny (field_of (pos 0) nx l)) → Smooths nx ny l true l'
  smooth e f l' h = record { answer = unfold is_field in rw (e, f); left = unfold is_field in rw (e, f) h }
