-- `scan_point::moved` meets its contract: a correction is at most the greatest limit in size, so that the value stays an i32. Assumes nothing.
use Prim.Native.Nat.{ℕ, ◌+◌, ◌≤◌}
use native.Mathlib.Omega.{arith}
use mathlib.Core.Path.{◌≡◌, sym, ap, ◌∙◌}
use borrow.Author.Tests.{ne_eqb}
use lib.IntN.{ℤ, nat_abs, ◌+ℤ◌}
use mir.Syntax.{w32, w64}
use mir.Val.{to_z, of_z}
use mir.Facts.{to_z-of_z}
use Rattle.integers.specs.Sizes.{size_add}
use Rattle.integers.specs.Words.{fits_size, bits_back}
use Rattle.scheme.specs.Units.{most_limit}
use Rattle.scheme.specs.Most.{most_field}
use Rattle.scheme.specs.Rounding.{rounded}
use Rattle.scheme.proofs.Nearest.{rounded_size}
use Rattle.scan_point.specs.Pass.{moved_by}
use Rattle.scan_point.proofs.moved.Goals as goal
use Rattle.scan_point.proofs.moved.Goals.{After-rounded, Start}

some-weights : (w : ℕ) (wd : ℤ) → (w ≡ 0 → ⊥) → moved_by w wd ≡ rounded wd w
some-weights w wd e = rw (ne_eqb w 0 e)

module _ (c : After-rounded) where
  abbrev s : Start
  s = c.before.before

  abbrev z : ℤ
  z = s.args.z

  abbrev r : ℤ
  r = c.rounded.result

  r-is : r ≡ rounded s.args.wd s.args.w
  r-is = rw (to_z-of_z s.ranges.wd) at c.rounded.ensures

  r_small : nat_abs r ≤ most_limit
  r_small = rw r-is (rounded_size s.args.wd s.args.w most_limit s.requires.2)

  sum-small : nat_abs (z +ℤ r) ≤ most_field + most_limit
  sum-small = omega (arith, size_add z r, r_small, s.requires.0)

  -- what the code computes on the way
  sum_is : to_z w64 (of_z w64 (to_z w32 (of_z w32 z))) +ℤ to_z w64 (of_z w64 r) ≡ z +ℤ r
  sum_is =
      rw (to_z-of_z s.ranges.z, bits_back w64 z (omega (arith, s.requires.0)), bits_back w64 r (omega (arith, r_small)))

  sum_back : to_z w64 (of_z w64 (to_z w64 (of_z w64 (to_z w32 (of_z w32 z))) +ℤ to_z w64 (of_z w64 r))) ≡ z +ℤ r
  sum_back = rw sum_is (bits_back w64 (z +ℤ r) (omega (arith, sum-small)))

pub overflow_add-result : goal.overflow_add-result
overflow_add-result c = rw (sum_is c) (fits_size w64 (z c +ℤ r c) (omega (arith, sum-small c)))

pub overflow_cast-result-2 : goal.overflow_cast-result-2
overflow_cast-result-2 c = rw (sum_back c) (fits_size w32 (z c +ℤ r c) (omega (arith, sum-small c)))

pub returns : goal.returns
returns c =
    let s = c.before.before in
    ap (λ (t : ℤ). to_z w32 (of_z w32 t)) (sum_back c)
    ∙ bits_back w32 (z c +ℤ r c) (omega (arith, sum-small c))
    ∙ ap (λ (t : ℤ). z c +ℤ t) (r-is c ∙ sym (some-weights s.args.w s.args.wd c.before.if-w-eq0.false))
