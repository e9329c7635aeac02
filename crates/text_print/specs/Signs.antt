-- An i32's text by its sign: the digits are those of its size.
use Rattle.std.specs.Prelude.{◌≡◌, refl, true, false, [], ◌∷◌, ◌++◌, T, ℤ, pos, negsuc, nat_abs}
use Rattle.std.proofs.Common.{arith, subst, ltb-true}
use Rattle.std.specs.Int.Signed.{lt_z}
use Rattle.scheme.specs.Text.Printed.{decimal, integer}

pub with_sign : (z : ℤ) → lt_z z (pos 0) ≡ true → integer z ≡ (45 ∷ []) ++ decimal (nat_abs z)
unfolding integer
with_sign (pos n) e = let k = ltb-true n 0 e in absurd (omega arith)
with_sign (negsuc n) e = refl

pub without_sign : (z : ℤ) → lt_z z (pos 0) ≡ false → integer z ≡ decimal (nat_abs z)
unfolding integer
without_sign (pos n) e = refl
without_sign (negsuc n) e = absurd (subst T e tt)
