-- A word in front of a text, and any other text.
use Rattle.std.proofs.Common.{ℕ, ◌≡◌, ◌≢◌, refl, ap, ◌∙◌, List, [], ◌∷◌, ◌++◌, ◌⊎◌, inl, inr, Bor, true, false}
use Rattle.std.specs.Prelude.{Option, Some, None, MatchOption}
use Rattle.std.proofs.Math.Dec.{eqb}
use borrow.Author.Tests.{eq-eqb}
use Rattle.std.proofs.lemmas.Bool.Decides.{eqb_tells}
use Rattle.scheme.specs.Text.Reader.{fails, reads}
use Rattle.scheme.specs.Text.Pieces.{word}
use Rattle.text_pieces.specs.Told.{rest_told}

pub word_here : (key rest : List ℕ) → word key (key ++ rest) ≡ reads tt rest
unfolding word
word_here [] rest = refl
word_here (k ∷ ks) rest = rw (eq-eqb k k refl, word) (word_here ks rest)

pub word_other : (key text : List ℕ) → ((rest : List ℕ) → text ≢ key ++ rest) → word key text ≡ fails tt
unfolding word
word_other [] text other = absurd (other text refl)
word_other (k ∷ ks) [] other = refl
word_other (k ∷ ks) (b ∷ bs) other = go (eqb_tells b k) (word_other ks bs)
  where
    go : ((eqb b k ≡ true) × (b ≡ k)) ⊎ ((eqb b k ≡ false) × (b ≢ k)) → (((rest : List ℕ) → bs ≢ ks ++ rest) → word ks bs ≡ fails tt) → word (k ∷ ks) (b ∷ bs) ≡ fails tt
    go (inl same) later = rw (same.0, word) (later (λ rest e. other rest (cc (same.1, e))))
    go (inr differ) later = rw (differ.0, word)

-- a text with the word in front, or none such, as code tests it
pub word_told : (key text : List ℕ) (read : Option (Bor (List ℕ))) → MatchOption read ((rest : List ℕ) → text ≢ key ++ rest) (λ rest. text ≡ key ++ rest.now) → word key text ≡ rest_told read
word_told key text None other = word_other key text other
word_told key text (Some rest) here = ap (word key) here ∙ word_here key rest.now
