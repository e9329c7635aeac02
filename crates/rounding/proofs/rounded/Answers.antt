-- `rounding::rounded` meets its contract: nothing on the way leaves an i64, and each of the two quotients is the rounded one.
-- Assumes nothing.
use Rattle.std.proofs.Common.{ℕ, ◌*◌, ◌<◌, ◌^◌, ◌≡◌, ◌∙◌, ℤ, pos, nat_abs, ◌+ℤ◌, ◌-ℤ◌, ◌*ℤ◌, to_z, of_z, w64, arith}
use Rattle.std.proofs.lemmas.Int.{ints}
use Rattle.std.specs.Int.Signed.{quot_z}
use Rattle.integers.specs.Sizes.{size_quot}
use Rattle.integers.specs.Words.{bits_back}
use Rattle.rounding.specs.Halves.{quotient_below, quotient_above}
use Rattle.rounding.proofs.rounded.Goals as goal

-- the division as the code makes it, of a number m by twice d
divided : (m t : ℤ) (d : ℕ) → nat_abs m < 9223372036854775808 → d < 2 ^ 32 → t ≡ m
    → to_z w64 (of_z w64 (quot_z (to_z w64 (of_z w64 t)) (to_z w64 (of_z w64 (pos 2 *ℤ to_z w64 d))))) ≡ quot_z m (pos (2 * d))
divided m t d small few e =
    let twice : to_z w64 (of_z w64 (pos 2 *ℤ to_z w64 d)) ≡ pos (2 * d) = omega (arith, ints) in
    rw (e, bits_back w64 m small, twice) (bits_back w64 (quot_z m (pos (2 * d))) (omega (arith, size_quot m (2 * d))))

pub returns-then-n-lt0 : goal.returns-then-n-lt0
returns-then-n-lt0 c =
    let n = c.args.n in
    let d = c.args.d in
    let below : to_z w64 (of_z w64 (pos 2 *ℤ to_z w64 (of_z w64 n))) -ℤ to_z w64 d ≡ pos 2 *ℤ n -ℤ pos d = omega (arith, ints) in
    divided (pos 2 *ℤ n -ℤ pos d) _ d (omega (arith, ints)) (omega arith) below ∙ quotient_below n d (grind (arith, ints))

pub returns-else-n-lt0 : goal.returns-else-n-lt0
returns-else-n-lt0 c =
    let n = c.args.n in
    let d = c.args.d in
    let above : to_z w64 (of_z w64 (pos 2 *ℤ to_z w64 (of_z w64 n))) +ℤ to_z w64 d ≡ pos 2 *ℤ n +ℤ pos d = omega (arith, ints) in
    divided (pos 2 *ℤ n +ℤ pos d) _ d (omega (arith, ints)) (omega arith) above ∙ quotient_above n d (grind (arith, ints))
