-- Numbers from their digits, in their range, and negated.
use Rattle.std.proofs.Common.{ℕ, zero, suc, ◌-◌, ◌≤◌, ◌<◌, ◌^◌, ◌≡◌, min, refl, ap, sym, ◌∙◌, ◌⊎◌, inl, inr, Bool, ◌&&◌, true, false, List, [], ◌∷◌, length, arith, pos, neg_ℤ, ◌-ℤ◌, pow_pos, to_z-of_z}
use Rattle.std.proofs.lemmas.List.{nil_from_length}
use Rattle.std.proofs.Math.Bool.{and-false}
use borrow.Author.Tests.{le-leb, lt-leb, leb-true}
use Rattle.std.proofs.Math.Dec.{eqb, leb}
use Rattle.std.proofs.lemmas.Bool.Decides.{eqb_tells}
use Rattle.std.proofs.Math.IntN.{+ℤ_idl}
use Rattle.std.specs.Int.{Width, w32, w64}
use mir.Val.{SFits, to_z, of_z, hbits}
use Rattle.std.proofs.Math.Facts.{to_z_pos}
use Rattle.lists.specs.Tests.{lt_or_le, and_true}
use Rattle.scheme.specs.Units.{among}
use Rattle.scheme.specs.Text.Reader.{fails, reads, onward, ◌or◌}
use Rattle.scheme.specs.Text.Pieces.{word, digits, positive, natural, between, count, negative, signed}
use Rattle.scheme.specs.RoundTrip.{is_digit}
use Rattle.text_pieces.specs.Told.{Parsed, greatest_u64, saturated}

-- ---- a number of any length

module _ (text : List ℕ) where
  pub positive_end : length text ≡ 0 → positive text ≡ fails tt
  unfolding positive
  positive_end none = rw (nil_from_length text none)

  module _ (first : ℕ) (rest : List ℕ) (is : text ≡ first ∷ rest) where
    pub positive_other : is_digit first ≡ false → positive text ≡ fails tt
    unfolding positive
    positive_other other = rw (is, positive, narrower (lt_or_le first 49))
      where
        narrower : (first < 49) ⊎ (49 ≤ first) → among 49 57 first ≡ false
        narrower (inl under) = rw (lt-leb 49 first under)
        narrower (inr over) = ap (λ (t : Bool). t && leb first 57) (le-leb 49 first over ∙ sym (le-leb 48 first (omega arith))) ∙ other

    pub positive_zero : first ≡ 48 → positive text ≡ fails tt
    unfolding positive
    positive_zero nought = rw (is, nought)

    pub positive_is : is_digit first ≡ true → (first ≡ 48 → ⊥) → positive text ≡ digits (first - 48) rest
    unfolding positive
    positive_is digit some =
        let (low, high) = and_true (leb 48 first) (leb first 57) digit in
        rw (is, positive, le-leb 49 first (omega (arith, some, leb-true 48 first low)), high)

  pub natural_zero : (rest : List ℕ) → word (48 ∷ []) text ≡ reads tt rest → natural text ≡ reads 0 rest
  unfolding natural
  natural_zero rest e = rw (e, ◌or◌)

  pub natural_some : word (48 ∷ []) text ≡ fails tt → natural text ≡ positive text
  unfolding natural
  natural_some e = rw (e, ◌or◌)

-- ---- its range

pub between_under : (low high n : ℕ) (rest : List ℕ) → n < low → between low high n rest ≡ fails tt
unfolding between
between_under low high n rest h = rw (lt-leb low n h, between)

pub between_over : (low high n : ℕ) (rest : List ℕ) → high < n → between low high n rest ≡ fails tt
unfolding between
between_over low high n rest h = rw (lt-leb n high h, and-false (leb low n), between)

-- a number that is not told apart from the greatest u64 lies in no range of a u32
pub ranged : (low high : ℕ) (p : Parsed ℕ) → high < greatest_u64 → onward p (between low high) ≡ onward (saturated p) (between low high)
unfolding between
ranged low high (fails none) h = refl
ranged low high (reads n rest) h = go (lt_or_le high n)
  where
    go : (high < n) ⊎ (n ≤ high) → between low high n rest ≡ between low high (min n greatest_u64) rest
    go (inl k) = between_over low high n rest k ∙ sym (between_over low high (min n greatest_u64) rest (omega arith))
    go (inr k) = let e : n ≡ min n greatest_u64 = omega arith in ap (λ (m : ℕ). between low high m rest) e

-- ---- an i32

minus_front : (text rest : List ℕ) → word (45 ∷ []) text ≡ reads tt rest → text ≡ 45 ∷ rest
unfolding word
minus_front [] rest e = cc
minus_front (b ∷ bs) rest e = go (eqb_tells b 45)
  where
    go : ((eqb b 45 ≡ true) × (b ≡ 45)) ⊎ ((eqb b 45 ≡ false) × (b ≡ 45 → ⊥)) → b ∷ bs ≡ 45 ∷ rest
    go (inl same) = let f : word (45 ∷ []) (b ∷ bs) ≡ reads tt bs = rw (same.0, word) in cc (same.1, f, e)
    go (inr differ) = let f : word (45 ∷ []) (b ∷ bs) ≡ fails tt = rw (differ.0, word) in cc (f, e)

signed_front : (rest : List ℕ) → signed (45 ∷ rest) ≡ negative rest
unfolding signed count between natural positive word
signed_front rest = refl

module _ (text : List ℕ) where
  pub signed_minus : (rest : List ℕ) → word (45 ∷ []) text ≡ reads tt rest → signed text ≡ negative rest
  signed_minus rest minus = ap signed (minus_front text rest minus) ∙ signed_front rest

  module _ (no_minus : word (45 ∷ []) text ≡ fails tt) where
    pub signed_count : {n : ℕ} {rest : List ℕ} → count 0 (2 ^ 31 - 1) text ≡ reads n rest → signed text ≡ reads (pos n) rest
    unfolding signed
    signed_count e = rw (e, ◌or◌)

    pub signed_other : count 0 (2 ^ 31 - 1) text ≡ fails tt → signed text ≡ fails tt
    unfolding signed
    signed_other e = rw (e, ◌or◌, no_minus)

  pub negative_size : {n : ℕ} {rest : List ℕ} → onward (positive text) (between 0 (2 ^ 31)) ≡ reads n rest → negative text ≡ reads (neg_ℤ (pos n)) rest
  unfolding negative
  negative_size e = rw e

  pub negative_other : onward (positive text) (between 0 (2 ^ 31)) ≡ fails tt → negative text ≡ fails tt
  unfolding negative
  negative_other e = rw e

-- a number's negation, in the two types that the code goes through
neg_fits : (w : Width) (v : ℕ) → v ≤ 2 ^ hbits w → SFits w (neg_ℤ (pos v))
neg_fits w zero h = record { sfits = pow_pos (hbits w) }
neg_fits w (suc n) h = record { sfits = h }

module _ (v : ℕ) (h : v ≤ 2 ^ 31) where
  less : pos 0 -ℤ to_z w64 v ≡ neg_ℤ (pos v)
  less = let k : v < 2 ^ 63 = omega arith in rw (to_z_pos w64 k) (+ℤ_idl (neg_ℤ (pos v)))

  pub neg_wide : SFits w64 (pos 0 -ℤ to_z w64 v)
  neg_wide = rw less (neg_fits w64 v (omega arith))

  back : to_z w64 (of_z w64 (pos 0 -ℤ to_z w64 v)) ≡ neg_ℤ (pos v)
  back = to_z-of_z neg_wide ∙ less

  pub neg_narrow : SFits w32 (to_z w64 (of_z w64 (pos 0 -ℤ to_z w64 v)))
  neg_narrow = rw back (neg_fits w32 v h)

  pub negated : to_z w32 (of_z w32 (to_z w64 (of_z w64 (pos 0 -ℤ to_z w64 v)))) ≡ neg_ℤ (pos v)
  negated = to_z-of_z neg_narrow ∙ back
