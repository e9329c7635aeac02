-- Reading from the front, said once for the pieces of a line and for the lines of a text.
infixl 10 ◌or◌
infixl 15 ◌before◌
infixl 20 ◌>>◌ ◌>>=◌
-- what is in form says something and leaves what comes after it; what is not fails, with a fault to tell
pub data Result (Left Fault A : Type 0) : Type 0 where
  fails : Fault → Result Left Fault A
  reads : A → Left → Result Left Fault A

abbrev pub Reader : (Left Fault A : Type 0) → Type 0
Reader Left Fault A = Left → Result Left Fault A

-- one thing, and then the one that what it said calls for
abbrev pub onward : {L F A B : Type 0} → Result L F A → (A → Reader L F B) → Result L F B
onward (fails fault) next = fails fault
onward (reads a rest) next = next a rest

abbrev pub ◌>>=◌ : {L F A B : Type 0} → Reader L F A → (A → Reader L F B) → Reader L F B
◌>>=◌ p next = λ left. onward (p left) next

abbrev pub ◌>>◌ : {L F A B : Type 0} → Reader L F A → Reader L F B → Reader L F B
◌>>◌ p q = p >>= λ _. q

-- nothing is read
abbrev pub gives : {L F A : Type 0} → A → Reader L F A
gives a = λ left. reads a left

-- one thing, or where it is not in form the other
abbrev pub ◌or◌ : {L F A : Type 0} → Reader L F A → Reader L F A → Reader L F A
◌or◌ p q = λ left. elim (p left) [ fails fault ↦ q left | reads a rest ↦ reads a rest ]

-- one thing, and what must follow it
abbrev pub ◌before◌ : {L F A B : Type 0} → Reader L F A → Reader L F B → Reader L F A
◌before◌ p q = p >>= λ a. q >> gives a
