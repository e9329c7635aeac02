-- `scan_smoothing::row_sum` meets its contract: the product and the sum of a turn fit, and the sum is that of one place more.
use Rattle.std.proofs.Common.{ℕ, ◌<◌, ◌+◌, ◌≡◌, arith, refl, sym, ℤ, pos, nat_abs, ◌+ℤ◌, ◌*ℤ◌, to_z, of_z, w32, FitsSigned, get_or, List}
use mir.Facts.{to_z_pos}
use Rattle.integers.specs.Words.{fits_size, bits_back}
use Rattle.lists.specs.Sums.{up_to, up_to_next}
use Rattle.scheme.specs.Smoothing.{pattern_at}
use Rattle.scan_smoothing.specs.Pattern.{SmallFrom, term, row_at, pattern_most, term_size, row_size}
use Rattle.scan_smoothing.proofs.row_sum.Goals as goal

-- a turn, on plain values: s is the sum so far
module _ (l : List ℤ) (p : ℕ) (small : SmallFrom p l) (b a : ℕ) (s : ℤ) (turns : a < 3) (so_far : s ≡ up_to (pos 0) ◌+ℤ◌ a (term l p b)) where
  abbrev product : ℤ
  product = to_z w32 (pattern_at a b) *ℤ to_z w32 (of_z w32 (get_or l (p + a) (pos 0)))

  product_is : product ≡ term l p b a
  unfolding term
  product_is =
      rw (to_z_pos w32 {n = pattern_at a b} (omega (arith, pattern_most a b)), bits_back w32 (get_or l (p + a) (pos 0)) (omega (arith, small (p + a) (omega arith))))

  sum_is : s +ℤ to_z w32 (of_z w32 product) ≡ up_to (pos 0) ◌+ℤ◌ (a + 1) (term l p b)
  sum_is =
      rw (product_is, bits_back w32 (term l p b a) (omega (arith, term_size l p small b a)), so_far) (sym (up_to_next (pos 0) ◌+ℤ◌ a (term l p b)))

  sum_small : nat_abs (up_to (pos 0) ◌+ℤ◌ (a + 1) (term l p b)) < 2147483648
  sum_small = omega (arith, row_size l p small b (a + 1) (omega arith))

  sum_fits : FitsSigned w32 (s +ℤ to_z w32 (of_z w32 product))
  sum_fits = rw sum_is (fits_size w32 (up_to (pos 0) ◌+ℤ◌ (a + 1) (term l p b)) sum_small)

  next : to_z w32 (of_z w32 (s +ℤ to_z w32 (of_z w32 product))) ≡ up_to (pos 0) ◌+ℤ◌ (a + 1) (term l p b)
  next = rw sum_is (bits_back w32 (up_to (pos 0) ◌+ℤ◌ (a + 1) (term l p b)) sum_small)

pub loop-a-init : goal.loop-a-init
unfolding up_to
loop-a-init c = refl

pub overflow_add-sum-in-loop-a : goal.overflow_add-sum-in-loop-a
overflow_add-sum-in-loop-a c =
    sum_fits c.args.z.now c.args.p c.requires.3 c.args.b c.loop-a.a _ (omega arith) c.loop-a.invariant

pub loop-a-preserved : goal.loop-a-preserved
loop-a-preserved c = next c.args.z.now c.args.p c.requires.3 c.args.b c.loop-a.a _ (omega arith) c.loop-a.invariant

pub returns : goal.returns
unfolding row_at
returns c =
    let e : c.loop-a.a ≡ 3 = omega arith in
    rw e at c.loop-a.invariant
