-- The lowest and the highest value of a field, as a loop finds them, and what the summary makes of them.
use Rattle.std.specs.Prelude.{ℕ, ◌+◌, ◌<◌, ◌≡◌, refl, true, false, List, [], ◌∷◌, length, ℤ, pos, ◌-ℤ◌}
use Rattle.std.proofs.Common.{arith, add-one, sym, ap, ◌∙◌}
use Rattle.std.proofs.lemmas.Int.{ints}
use Rattle.std.proofs.Math.ListN.{get_or, drop}
use Rattle.std.proofs.Math.Seq.{drop-cons, drop-length}
use Rattle.std.specs.Int.{int_min, int_max}
use Rattle.scheme.specs.declared.Units.{Units}
use Rattle.scheme.specs.Units.{parts_of_unit}
use Rattle.scheme.specs.Refusals.{refused_with, bad_shape, summary_refusal}
use Rattle.scheme.specs.Readings.{double, lowest, highest, units_of, zeros, summary}
use Rattle.scheme.specs.Exact.{lesser, greater}

-- the ends of the first k values, of which the first value is one: with what is left after them they make the ends of all
pub record EndsTo (field : List ℤ) (k : ℕ) (low high : ℤ) : Type 0 where
  pub low_more : lowest low (drop k field) ≡ lowest (get_or field 0 (pos 0)) field
  pub high_more : highest high (drop k field) ≡ highest (get_or field 0 (pos 0)) field

-- before the first turn
pub ends_first : (field : List ℤ) → 0 < length field → EndsTo field 0 (get_or field 0 (pos 0)) (get_or field 0 (pos 0))
ends_first field h = record { low_more = refl; high_more = refl }

int_min_is : (a b : ℤ) → int_min a b ≡ lesser a b
int_min_is a b = grind (arith, ints)

int_max_is : (a b : ℤ) → int_max a b ≡ greater a b
int_max_is a b = grind (arith, ints)

-- a turn
pub ends_next : (field : List ℤ) (k : ℕ) (low high : ℤ) → k < length field → EndsTo field k low high
    → EndsTo field (k + 1) (int_min low (get_or field k (pos 0))) (int_max high (get_or field k (pos 0)))
unfolding lowest highest
ends_next field k low high h e =
    let v = get_or field k (pos 0) in
    let next : drop k field ≡ v ∷ drop (k + 1) field = drop-cons field k (pos 0) h ∙ rw (add-one k) in
    record {
      low_more = rw (int_min_is low v) (sym (ap (lowest low) next) ∙ e.low_more);
      high_more = rw (int_max_is high v) (sym (ap (highest high) next) ∙ e.high_more);
    }

-- ---- the summary

abbrev pub units_between : (low high : ℤ) → Units
units_between low high = record { lowest = double low parts_of_unit; highest = double high parts_of_unit; span = double (high -ℤ low) parts_of_unit }

-- a value is the lesser and the greater of itself and itself
lesser_same : (v : ℤ) → lesser v v ≡ v
lesser_same v = grind (arith, ints)

greater_same : (v : ℤ) → greater v v ≡ v
greater_same v = grind (arith, ints)

-- the ends of all values are those of the field
pub units_are : (field : List ℤ) (low high : ℤ) → 0 < length field → EndsTo field (length field) low high → units_between low high ≡ units_of field
unfolding units_of lowest highest
units_are [] low high h e = absurd (omega arith)
units_are (v ∷ rest) low high h e =
    let nothing : drop (length (v ∷ rest)) (v ∷ rest) ≡ [] = drop-length (v ∷ rest) in
    let low-is = rw (lesser_same v) at (sym (ap (lowest low) nothing) ∙ e.low_more) in
    let high_is = rw (greater_same v) at (sym (ap (highest high) nothing) ∙ e.high_more) in
    rw (low-is, high_is)

module _ (nx ny : ℕ) (field : List ℤ) where
  pub summary_refused : bad_shape nx ny (length field) ≡ true → record { refusal = 1; place = 0; units = zeros } ≡ summary nx ny field
  unfolding summary summary_refusal refused_with
  summary_refused e = rw e

  pub summary_given : (units : Units) → bad_shape nx ny (length field) ≡ false → units ≡ units_of field → record { refusal = 0; place = 0; units = units } ≡ summary nx ny field
  unfolding summary summary_refusal refused_with
  summary_given units e u = rw (e, u)
