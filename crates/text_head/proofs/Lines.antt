-- A line that was read of what is left of a text, as the definitions read it, and a first line not in form that is handed on.
use Rattle.std.proofs.Common.{ℕ, suc, ◌≡◌, ◌+◌, refl, ap, sym, subst, ◌∙◌, add-one, List, Bor}
use Rattle.std.specs.Prelude.{Option, Some, None, Ok, Err, IfSome, Result as Outcome}
use Rattle.std.specs.Result.{IsErrAnd}
use Rattle.scheme.specs.Text.Reader.{fails, reads}
use Rattle.scheme.specs.Text.Pieces.{Piece}
use Rattle.scheme.specs.Text.Order.{line}
use Rattle.text_pieces.specs.Told.{told}
use Rattle.text_lines.specs.Told.{told_as}
use Rattle.text_head.specs.declared.Left.{Left}
use Rattle.text_head.specs.declared.NotInForm.{NotInForm}
use Rattle.text_head.specs.Left.{left_of, line_of, lines_told}

module _ {A B : Type 0} (p : Piece B) (f : A → B) (left : Left) (read : Option (A × Bor (List ℕ))) (said : p left.text.now ≡ told_as f read) where
  -- a line, in the words of the definitions
  pub line_as : (r : Outcome (A × Left) NotInForm) → r ≡ line_of left read → line p (left_of left) ≡ lines_told f r
  line_as r e = rw (line, said, e) (go read)
    where
      go : (o : Option (A × Bor (List ℕ))) → elim (told_as f o) [ fails none ↦ fails left.line | reads a rest ↦ reads a (suc left.line, rest) ] ≡ lines_told f (line_of left o)
      go None = refl
      go (Some s) = ap (λ (k : ℕ). reads (f s.0) (k, s.1.now)) (sym (add-one left.line))

same_told : {A : Type 0} (read : Option (A × Bor (List ℕ))) → told read ≡ told_as (λ x. x) read
same_told None = refl
same_told (Some s) = refl

pub line_is : {A : Type 0} (p : Piece A) (left : Left) (read : Option (A × Bor (List ℕ))) → p left.text.now ≡ told read → (r : Outcome (A × Left) NotInForm) → r ≡ line_of left read
    → line p (left_of left) ≡ lines_told (λ x. x) r
line_is p left read said = line_as p (λ x. x) left read (said ∙ same_told read)

-- what `?` hands on
pub handed_on : {A : Type 0} (r : Outcome A NotInForm) (e : NotInForm) → IsErrAnd r (λ x. x ≡ e) → r ≡ Err e
handed_on (Ok a) e h = absurd h
handed_on (Err x) e h = ap (λ (x : NotInForm). Err x) h

-- a line that was read: what holds of what it says, and the number of the line after it
module _ {A : Type 0} (left : Left) where
  pub holds : (P : A → Type 0) (read : Option (A × Bor (List ℕ))) (said : A × Left) → Ok said ≡ line_of left read → IfSome read (λ r. P r.0) → P said.0
  holds P None said e h = cc
  holds P (Some r) said e h = let f : r.0 ≡ said.0 = cc in subst P f h

  pub next_line : (read : Option (A × Bor (List ℕ))) (said : A × Left) → Ok said ≡ line_of left read → said.1.line ≡ left.line + 1
  next_line None said e = cc
  next_line (Some r) said e =
      let f : said ≡ (r.0, record { line = left.line + 1; text = r.1 }) = cc in
      ap (λ (s : A × Left). s.1.line) f
