-- Numbers, digit by digit: those that a u64 cannot hold are not told apart.
use Rattle.std.proofs.Common.{ℕ, ◌+◌, ◌-◌, ◌*◌, ◌≤◌, ◌≡◌, min, ap, Bool, true, false, List, [], ◌∷◌, length, arith}
use Rattle.std.proofs.lemmas.List.{nil_from_length}
use Rattle.scheme.specs.Text.Reader.{reads}
use Rattle.scheme.specs.Text.Pieces.{digits}
use Rattle.scheme.specs.RoundTrip.{is_digit}
use Rattle.text_pieces.specs.Told.{greatest_u64, saturated}

-- numbers that are not told apart stay so, whatever digits follow
digits_capped : (a b : ℕ) (text : List ℕ) → min a greatest_u64 ≡ min b greatest_u64 → saturated (digits a text) ≡ saturated (digits b text)
unfolding digits
digits_capped a b [] e = ap (λ (n : ℕ). reads n []) e
digits_capped a b (x ∷ rest) e = go (is_digit x) (digits_capped (10 * a + (x - 48)) (10 * b + (x - 48)) rest (omega arith))
  where
    go : (t : Bool) → saturated (digits (10 * a + (x - 48)) rest) ≡ saturated (digits (10 * b + (x - 48)) rest)
        → saturated (elim t [ true ↦ digits (10 * a + (x - 48)) rest | false ↦ reads a (x ∷ rest) ]) ≡ saturated (elim t [ true ↦ digits (10 * b + (x - 48)) rest | false ↦ reads b (x ∷ rest) ])
    go true more = more
    go false more = ap (λ (n : ℕ). reads n (x ∷ rest)) e

-- a turn of the loop over digits
pub digits_more : (text rest : List ℕ) (digit value times next : ℕ) → text ≡ digit ∷ rest → is_digit digit ≡ true → times ≡ min (value * 10) greatest_u64 → next ≡ min (times + (digit - 48)) greatest_u64
    → saturated (digits next rest) ≡ saturated (digits value text)
unfolding digits
digits_more text rest digit value times next e is f g = rw (e, digits, is) (digits_capped next (10 * value + (digit - 48)) rest (omega arith))

least : (value : ℕ) → value ≤ greatest_u64 → (rest : List ℕ) → saturated (reads value rest) ≡ reads value rest
least value h rest = let e : min value greatest_u64 ≡ value = omega arith in ap (λ (n : ℕ). reads n rest) e

pub digits_stop : (text rest : List ℕ) (other value : ℕ) → text ≡ other ∷ rest → is_digit other ≡ false → value ≤ greatest_u64 → saturated (digits value text) ≡ reads value text
unfolding digits
digits_stop text rest other value e not h = rw (e, digits, not) (least value h (other ∷ rest))

pub digits_end : (text : List ℕ) (value : ℕ) → length text ≡ 0 → value ≤ greatest_u64 → saturated (digits value text) ≡ reads value text
unfolding digits
digits_end text value none h = rw (nil_from_length text none) (least value h [])
