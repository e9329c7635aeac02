-- What reading a line answers, as the definitions of the text say it.
use Rattle.std.specs.Prelude.{List, ℕ, ℤ, Option, Some, None}
use denote.Ref.{Bor}
use Rattle.scheme.specs.Text.Reader.{fails, reads}
use Rattle.scheme.specs.Text.Lines.{Size, Entry}
use Rattle.text_pieces.specs.Told.{Parsed}
use Rattle.request.specs.declared.Entry.{Entry as Scan}
use Rattle.text_lines.specs.declared.Size.{Size as Sides}

-- what was read, in the words of the definitions
abbrev pub told_as : {A B : Type 0} → (A → B) → Option (A × Bor (List ℕ)) → Parsed B
told_as f None = fails tt
told_as f (Some read) = reads (f read.0) read.1.now

abbrev pub size_of : Sides → Size
size_of s = record { nx = s.nx; ny = s.ny }

abbrev pub entry_of : Scan → Entry
entry_of e = record { radius = e.radius; limit = e.limit }

-- values that were read into z
abbrev pub values_told : List ℤ → Option (Bor (List ℕ)) → Parsed (List ℤ)
values_told z None = fails tt
values_told z (Some rest) = reads z rest.now
