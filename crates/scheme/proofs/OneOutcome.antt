-- For each public call: any two outcomes that its promise admits are one, the answer and all that is left in the memory it was lent.
use Rattle.std.specs.Prelude.{ℕ, ◌≡◌, refl, List, ℤ, Float}
use Rattle.std.proofs.Common.{arith, sym, ap, ap₂, ◌∙◌}
use Rattle.scheme.specs.declared.Reading.{Reading}
use Rattle.scheme.specs.declared.Reading.TheVariants.{Backed, FirstGuess, OffGrid, Refused}
use Rattle.scheme.specs.declared.Summary.{Summary}
use Rattle.scheme.specs.Units.{Call}
use Rattle.scheme.specs.Refusals.{Window, Screen}
use Rattle.scheme.specs.Scan.{Analysis}
use Rattle.scheme.specs.Reach.{Tile}
use Rattle.scheme.specs.Readings.{numbers_of}
use Rattle.scheme.specs.Promises.{Promised, Analyses, Queries, QueriesEach, Reads, ReadsKind, ReadsValue, Summarises, Replies}

-- what every promise has in common
pub one_outcome : {O : Type 0} {right outcome outcome' : O} → Promised right outcome → Promised right outcome' → outcome ≡ outcome'
one_outcome p p' = p ∙ sym p'

-- an outcome is right if its two parts are
pub both : {A B : Type 0} {a a' : A} {b b' : B} → a ≡ a' → b ≡ b' → ◌≡◌ {A = A × B} (a, b) (a', b')
both {A = A} {B = B} e f = ap₂ (λ (a : A) (b : B). (a, b)) e f

-- a reading can be read back from its numbers
pub numbers_tell : (r r' : Reading) → numbers_of r ≡ numbers_of r' → r ≡ r'
unfolding numbers_of
numbers_tell OffGrid OffGrid e = refl
numbers_tell (FirstGuess v) (FirstGuess v') e = ap FirstGuess (ap (λ (n : ℕ × Float). n.1) e)
numbers_tell (Backed v) (Backed v') e = ap Backed (ap (λ (n : ℕ × Float). n.1) e)
numbers_tell Refused Refused e = refl
numbers_tell OffGrid (FirstGuess v') e = absurd (let k : ◌≡◌ {A = ℕ} 0 1 = ap (λ (n : ℕ × Float). n.0) e in omega arith)
numbers_tell OffGrid (Backed v') e = absurd (let k : ◌≡◌ {A = ℕ} 0 2 = ap (λ (n : ℕ × Float). n.0) e in omega arith)
numbers_tell OffGrid Refused e = absurd (let k : ◌≡◌ {A = ℕ} 0 3 = ap (λ (n : ℕ × Float). n.0) e in omega arith)
numbers_tell (FirstGuess v) OffGrid e = absurd (let k : ◌≡◌ {A = ℕ} 1 0 = ap (λ (n : ℕ × Float). n.0) e in omega arith)
numbers_tell (FirstGuess v) (Backed v') e = absurd (let k : ◌≡◌ {A = ℕ} 1 2 = ap (λ (n : ℕ × Float). n.0) e in omega arith)
numbers_tell (FirstGuess v) Refused e = absurd (let k : ◌≡◌ {A = ℕ} 1 3 = ap (λ (n : ℕ × Float). n.0) e in omega arith)
numbers_tell (Backed v) OffGrid e = absurd (let k : ◌≡◌ {A = ℕ} 2 0 = ap (λ (n : ℕ × Float). n.0) e in omega arith)
numbers_tell (Backed v) (FirstGuess v') e = absurd (let k : ◌≡◌ {A = ℕ} 2 1 = ap (λ (n : ℕ × Float). n.0) e in omega arith)
numbers_tell (Backed v) Refused e = absurd (let k : ◌≡◌ {A = ℕ} 2 3 = ap (λ (n : ℕ × Float). n.0) e in omega arith)
numbers_tell Refused OffGrid e = absurd (let k : ◌≡◌ {A = ℕ} 3 0 = ap (λ (n : ℕ × Float). n.0) e in omega arith)
numbers_tell Refused (FirstGuess v') e = absurd (let k : ◌≡◌ {A = ℕ} 3 1 = ap (λ (n : ℕ × Float). n.0) e in omega arith)
numbers_tell Refused (Backed v') e = absurd (let k : ◌≡◌ {A = ℕ} 3 2 = ap (λ (n : ℕ × Float). n.0) e in omega arith)

-- ---- call by call

pub analysis_has_one_outcome : (c : Call) (found : Analysis) (answer answer' : ℕ) (left left' : Analysis)
    → Analyses c found answer left → Analyses c found answer' left' → ◌≡◌ {A = ℕ × Analysis} (answer, left) (answer', left')
analysis_has_one_outcome c found answer answer' left left' = one_outcome

pub window_has_one_outcome : (c : Call) (w : Window) (found : Tile) (answer answer' : ℕ) (left left' : Tile)
    → Queries c w found answer left → Queries c w found answer' left' → ◌≡◌ {A = ℕ × Tile} (answer, left) (answer', left')
window_has_one_outcome c w found answer answer' left left' = one_outcome

pub screen_has_one_outcome : (c : Call) (s : Screen) (found : Tile) (answer answer' : ℕ) (left left' : Tile)
    → QueriesEach c s found answer left → QueriesEach c s found answer' left' → ◌≡◌ {A = ℕ × Tile} (answer, left) (answer', left')
screen_has_one_outcome c s found answer answer' left left' = one_outcome

module _ (nx ny : ℕ) (field : List ℤ) where
  module _ (support : List ℕ) (x y : ℤ) where
    pub reading_has_one_outcome : (answer answer' : Reading) → Reads nx ny field support x y answer → Reads nx ny field support x y answer' → answer ≡ answer'
    reading_has_one_outcome answer answer' p p' = numbers_tell answer answer' (one_outcome p p')

    pub kind_has_one_outcome : (answer answer' : ℕ) → ReadsKind nx ny field support x y answer → ReadsKind nx ny field support x y answer' → answer ≡ answer'
    kind_has_one_outcome answer answer' = one_outcome

    pub value_has_one_outcome : (answer answer' : Float) → ReadsValue nx ny field support x y answer → ReadsValue nx ny field support x y answer' → answer ≡ answer'
    value_has_one_outcome answer answer' = one_outcome

  pub summary_has_one_outcome : (answer answer' : Summary) → Summarises nx ny field answer → Summarises nx ny field answer' → answer ≡ answer'
  summary_has_one_outcome answer answer' = one_outcome

pub text_has_one_outcome : (input found : List ℕ) (bytes bytes' : ℕ) (left left' : List ℕ)
    → Replies input found bytes left → Replies input found bytes' left' → ◌≡◌ {A = ℕ × List ℕ} (bytes, left) (bytes', left')
text_has_one_outcome input found bytes bytes' left left' = one_outcome
