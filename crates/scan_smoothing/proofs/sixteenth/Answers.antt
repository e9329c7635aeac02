-- `scan_smoothing::sixteenth` meets its contract: the lifted number fits, and its shift is the rounded quotient.
use Rattle.std.proofs.Common.{ℕ, ◌≤◌, ◌<◌, ◌≡◌, ◌∙◌, arith, ℤ, pos, nat_abs, ◌+ℤ◌, to_z, of_z, w32, to_z-of_z}
use Rattle.std.specs.Int.Signed.{shr_z}
use lib.Signed.{mag_shr}
use Rattle.integers.specs.Sizes.{size_add, mag_size}
use Rattle.integers.specs.Words.{bits_back}
use Rattle.scan_smoothing.specs.Sixteenth.{shifted_below, shifted_above}
use Rattle.scan_smoothing.proofs.sixteenth.Goals as goal
use Rattle.scan_smoothing.proofs.sixteenth.Goals.{then-n-lt0, else-n-lt0}

module _ (n : ℤ) (fair : nat_abs n ≤ 1000000000) where
  number_is : to_z w32 (of_z w32 n) ≡ n
  number_is = bits_back w32 n (omega arith)

  lifted_small : (h : ℕ) → h ≤ 8 → nat_abs (n +ℤ pos h) < 2147483648
  lifted_small h m = omega (arith, size_add n (pos h))

  -- lifted by h, and shifted
  shifted_is : (h : ℕ) (m : ℤ) → h ≤ 8 → m ≡ to_z w32 (of_z w32 (to_z w32 (of_z w32 n) +ℤ pos h)) → to_z w32 (of_z w32 (shr_z m 16)) ≡ shr_z (n +ℤ pos h) 16
  shifted_is h m few e =
      rw (e, number_is, bits_back w32 (n +ℤ pos h) (lifted_small h few))
      (to_z-of_z {w = w32} {z = shr_z (n +ℤ pos h) 16} (record { sfits = omega (arith, mag_shr (n +ℤ pos h) 16, mag_size (n +ℤ pos h), lifted_small h few) }))

pub returns : goal.returns
returns c =
    let n = c.args.n in
    let fair = c.requires in
    elim c.if-n-lt0.branch [
      | then-n-lt0 w ↦ shifted_is n fair 7 _ (omega arith) w.m-is ∙ shifted_below n (rw (number_is n fair) at w.if-n-lt0.true)
      | else-n-lt0 w ↦ shifted_is n fair 8 _ (omega arith) w.m-is ∙ shifted_above n (rw (number_is n fair) at w.if-n-lt0.false)
    ]
