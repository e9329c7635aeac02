-- "Readings as doubles": the point reading, the summary, and the numbers by which both and the refusals cross to C.
use Rattle.std.specs.Prelude.{ℕ, Bool, not, cond, ◌&&◌, ◌||◌, List, [], ◌∷◌, eqb, length, ℤ, pos, ◌-ℤ◌, Float}
use Rattle.std.specs.Int.Signed.{le_z}
use Rattle.std.specs.Float.{binary64}
use Rattle.std.specs.Float.Ieee.{div, of_int}
use Rattle.scheme.specs.declared.Reading.{Reading}
use Rattle.scheme.specs.declared.Reading.TheVariants.{Backed, FirstGuess, OffGrid, Refused}
use Rattle.scheme.specs.declared.Units.{Units}
use Rattle.scheme.specs.declared.Summary.{Summary}
use Rattle.scheme.specs.Units.{Field, parts_of_unit, field_of}
use Rattle.scheme.specs.Refusals.{number_of, place_of, unless_refused, reading_refusal, summary_refusal}
use Rattle.scheme.specs.Verdicts.{on_grid}
use Rattle.scheme.specs.Value.{place, corners_at, sum_at}

-- n / d as a double
unfoldable pub double : ℤ → ℕ → Float
double n d = div binary64 (of_int binary64 n) (of_int binary64 (pos d))

-- Zero is positive zero
unfoldable pub positive_zero : Float
positive_zero = of_int binary64 (pos 0)

-- ---- the point reading

-- every corner with a nonzero share has a nonzero support byte
unfoldable pub is_backed : (nx ny : ℕ) → Field ℕ → (x y : ℕ) → Bool
is_backed nx ny support x y = corners_at nx ny x y ◌&&◌ (λ share i j. eqb share 0 || not (eqb (support i j) 0))

-- a double: the interpolation sum, unrounded, divided by 262,144. It says 'backed' with the value, 'first guess' with the value if not, or
-- 'off grid'
unfoldable pub reading_in : (nx ny : ℕ) → Field ℤ → Field ℕ → (x y : ℤ) → Reading
reading_in nx ny z support x y =
    let px = place nx x in
    let py = place ny y in
    let value = double (sum_at nx ny z px py) 262144 in
    cond (on_grid nx ny x y) (cond (is_backed nx ny support px py) (Backed value) (FirstGuess value)) OffGrid

-- of any field of i32 and its support, at any i32 (x, y)
unfoldable pub reading : (nx ny : ℕ) → List ℤ → List ℕ → (x y : ℤ) → Reading
reading nx ny field support x y =
    unless_refused (reading_refusal nx ny (length field) (length support))
    (reading_in nx ny (field_of (pos 0) nx field) (field_of 0 nx support) x y) Refused

-- its kind, and its double: positive zero for kinds 0 and 3
unfoldable pub numbers_of : Reading → ℕ × Float
numbers_of OffGrid = (0, positive_zero)
numbers_of (FirstGuess value) = (1, value)
numbers_of (Backed value) = (2, value)
numbers_of Refused = (3, positive_zero)

abbrev pub kind_of : Reading → ℕ
kind_of r = (numbers_of r).0

abbrev pub value_of : Reading → Float
value_of r = (numbers_of r).1

-- ---- the summary

unfoldable pub lowest : ℤ → List ℤ → ℤ
lowest v [] = v
lowest v (w ∷ rest) = lowest (cond (le_z v w) v w) rest

unfoldable pub highest : ℤ → List ℤ → ℤ
highest v [] = v
highest v (w ∷ rest) = highest (cond (le_z v w) w v) rest

abbrev pub zeros : Units
zeros = record { lowest = positive_zero; highest = positive_zero; span = positive_zero }

-- lowest, highest and their span as doubles, each exact in units
unfoldable pub units_of : List ℤ → Units
units_of [] = zeros
units_of (v ∷ rest) =
    let low = lowest v rest in
    let high = highest v rest in
    record { lowest = double low parts_of_unit; highest = double high parts_of_unit; span = double (high -ℤ low) parts_of_unit }

-- a refused summary holds three zeros
unfoldable pub summary : (nx ny : ℕ) → List ℤ → Summary
summary nx ny field =
    let refusal = summary_refusal nx ny (length field) in
    record {
      refusal = number_of refusal;
      place = place_of refusal;
      units = unless_refused refusal (units_of field) zeros;
    }
