-- A reading, case by case.
use Rattle.std.specs.Prelude.{ℕ, ◌≡◌, refl, true, false, List, eqb, length, ℤ, pos}
use Rattle.std.specs.Float.{binary64}
use Rattle.std.specs.Float.Ieee.{of_bits, of_int}
use Rattle.scheme.specs.declared.Reading.{Reading}
use Rattle.scheme.specs.declared.Reading.TheVariants.{Backed, FirstGuess, OffGrid, Refused}
use Rattle.scheme.specs.Units.{Field, field_of}
use Rattle.scheme.specs.Refusals.{refused_with, bad_shape, reading_refusal}
use Rattle.scheme.specs.Verdicts.{on_grid}
use Rattle.scheme.specs.Value.{place, sum_at}
use Rattle.scheme.specs.Readings.{double, positive_zero, is_backed, reading_in, reading}

-- ---- of a field of the right shape

module _ (nx ny : ℕ) (z : Field ℤ) (support : Field ℕ) (x y : ℤ) where
  pub off-grid : on_grid nx ny x y ≡ false → OffGrid ≡ reading_in nx ny z support x y
  unfolding reading_in
  off-grid e = rw e

  module _ (on : on_grid nx ny x y ≡ true) where
    abbrev pub here : Reading → Type 0
    here r = r ≡ reading_in nx ny z support x y

    pub backed : is_backed nx ny support (place nx x) (place ny y) ≡ true → here (Backed (double (sum_at nx ny z (place nx x) (place ny y)) 262144))
    unfolding reading_in
    backed e = rw (on, e)

    pub not_backed : is_backed nx ny support (place nx x) (place ny y) ≡ false → here (FirstGuess (double (sum_at nx ny z (place nx x) (place ny y)) 262144))
    unfolding reading_in
    not_backed e = rw (on, e)

-- ---- of any field

module _ (nx ny : ℕ) (field : List ℤ) (support : List ℕ) (x y : ℤ) where
  pub bad-shape : bad_shape nx ny (length field) ≡ true → Refused ≡ reading nx ny field support x y
  unfolding reading reading_refusal refused_with
  bad-shape e = rw e

  module _ (good : bad_shape nx ny (length field) ≡ false) where
    pub bad_support : eqb (length support) (length field) ≡ false → Refused ≡ reading nx ny field support x y
    unfolding reading reading_refusal refused_with
    bad_support e = rw (good, e)

    pub not_refused : eqb (length support) (length field) ≡ true → reading_in nx ny (field_of (pos 0) nx field) (field_of 0 nx support) x y ≡ reading nx ny field support x y
    unfolding reading reading_refusal refused_with
    not_refused e = rw (good, e)

-- ---- its double

-- the literal 0.0 is positive zero
pub zero_is : of_bits binary64 0 ≡ positive_zero
unfolding of_bits positive_zero of_int
zero_is = refl
