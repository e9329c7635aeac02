-- How lines follow one another, and the place of refusal 9: the first line not in form.
use Rattle.std.specs.Prelude.{ℕ, zero, suc}
use mathlib.Core.List.{List, [], ◌∷◌, flatten}
use Rattle.scheme.specs.Text.Reader.{fails, reads, Reader, ◌>>=◌, gives}
use Rattle.scheme.specs.Text.Pieces.{Piece}

-- lines, read from the number of the next line, counted from 1, and the bytes from it on; what fails tells the first line not in form
abbrev pub Text : Type 0 → Type 0
Text A = Reader (ℕ × List ℕ) ℕ A

-- one line: in form, or named. Where the text ends early, or the last line feed is missing, the line is not in form
abbrev pub line : {A : Type 0} → Piece A → Text A
line p = λ left. elim (p left.1) [ fails none ↦ fails left.0 | reads a rest ↦ reads a (suc left.0, rest) ]

-- n lines of a kind
unfoldable pub lines : {A : Type 0} → ℕ → Piece A → Text (List A)
lines zero p = gives []
lines (suc n) p = do
  a ← line p
  more ← lines n p
  gives (a ∷ more)

-- n lines of values, one after the other
unfoldable pub rows : {A : Type 0} → ℕ → Piece (List A) → Text (List A)
rows n p = lines n p >>= λ all. gives (flatten all)

-- nothing after: surplus bytes are a line not in form
unfoldable pub nothing_after : Text (Unit {0})
nothing_after (k, []) = reads tt (k, [])
nothing_after (k, b ∷ bs) = fails k
