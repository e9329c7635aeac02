-- What is left of a text after some of its lines, and what reading the next one answers, as the definitions of the text say it.
use Rattle.std.specs.Prelude.{ℕ, ◌+◌, List, Option, Some, None, Ok, Err}
use Rattle.std.specs.Prelude.{Result as Outcome}
use denote.Ref.{Bor}
use Rattle.scheme.specs.Text.Reader.{Result, fails, reads}
use Rattle.text_head.specs.declared.Left.{Left}
use Rattle.text_head.specs.declared.NotInForm.{NotInForm}

-- what lines read
abbrev pub Read : Type 0 → Type 0
Read A = Result (ℕ × List ℕ) ℕ A

abbrev pub left_of : Left → ℕ × List ℕ
left_of l = (l.line, l.text.now)

-- what was read of the next line, and what is left after it
abbrev pub line_of : {A : Type 0} → Left → Option (A × Bor (List ℕ)) → Outcome (A × Left) NotInForm
line_of left None = Err (record { line = left.line })
line_of left (Some read) = Ok (read.0, record { line = left.line + 1; text = read.1 })

-- what lines said, in the words of the definitions, or the first of them that is not in form
abbrev pub lines_told : {A B : Type 0} → (A → B) → Outcome (A × Left) NotInForm → Read B
lines_told f (Ok said) = reads (f said.0) (left_of said.1)
lines_told f (Err e) = fails e.line
