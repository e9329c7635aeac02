-- What reading a piece answers, as the definitions of the text say it: what is read, and the bytes left after it.
use Rattle.std.specs.Prelude.{ℕ, ◌^◌, ◌-◌, min, List}
use Rattle.std.proofs.Common.{◌≡◌, ap, ◌∙◌}
use denote.Ref.{Bor}
use Rattle.std.specs.Prelude.{Option, Some, None}
use Rattle.scheme.specs.Text.Reader.{Result, fails, reads, onward, gives}
use Rattle.scheme.specs.Text.Pieces.{Piece}

-- what a piece reads
abbrev pub Parsed : Type 0 → Type 0
Parsed A = Result (List ℕ) (Unit {0}) A

abbrev pub told : {A : Type 0} → Option (A × Bor (List ℕ)) → Parsed A
told None = fails tt
told (Some read) = reads read.0 read.1.now

abbrev pub rest_told : Option (Bor (List ℕ)) → Parsed (Unit {0})
rest_told None = fails tt
rest_told (Some rest) = reads tt rest.now

-- a piece that was read, and what must follow it: `p before q` is this of what p reads
abbrev pub follows : {A B : Type 0} → Parsed A → Piece B → Parsed A
follows p q = onward p (λ a. λ bs. onward (q bs) (λ _. gives a))

-- the greatest u64: a number past this is not told apart from it
abbrev pub greatest_u64 : ℕ
greatest_u64 = 2 ^ 64 - 1

abbrev pub saturated : Parsed ℕ → Parsed ℕ
saturated (fails none) = fails none
saturated (reads n rest) = reads (min n greatest_u64) rest

-- a piece that was read, and then what must follow it, as code reads them
pub before_told : {A B : Type 0} {p m r : Parsed A} (q : Piece B) → p ≡ m → follows m q ≡ r → follows p q ≡ r
before_told {A = A} q e f = ap (λ (x : Parsed A). follows x q) e ∙ f
