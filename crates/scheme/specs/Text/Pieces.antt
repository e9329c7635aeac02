-- Pieces of a line: which bytes in front are in form, what they say, and the bytes left after them.
use Rattle.std.specs.Prelude.{ℕ, zero, suc, ◌+◌, ◌-◌, ◌*◌, ◌^◌, true, false, List, [], ◌∷◌, eqb, ℤ, pos, neg_ℤ}
use Prim.Native.Char.{code}
use Prim.Native.String.{String, [] as end, ◌∷◌ as ◌then◌}
use Rattle.scheme.specs.Units.{among}
use Rattle.scheme.specs.Text.Reader.{fails, reads, Reader, ◌>>=◌, ◌>>◌, gives, ◌or◌, ◌before◌}

-- the bytes of a quoted text
abbrev pub ascii : String → List ℕ
ascii end = []
ascii (c then s) = code c ∷ ascii s

-- a piece that fails tells nothing
abbrev pub Piece : Type 0 → Type 0
Piece A = Reader (List ℕ) (Unit {0}) A

-- exactly these bytes
unfoldable pub word : List ℕ → Piece (Unit {0})
word [] bs = reads tt bs
word (k ∷ ks) [] = fails tt
word (k ∷ ks) (b ∷ bs) = elim (eqb b k) [ true ↦ word ks bs | false ↦ fails tt ]

abbrev pub comma : Piece (Unit {0})
comma = word (ascii ",")

abbrev pub line_feed : Piece (Unit {0})
line_feed = word (ascii "\n")

-- ---- Numbers are decimal, no plus, no leading zero, no -0

-- the digits that follow, 48 for 0 to 57 for 9, after digits that say a
unfoldable pub digits : ℕ → Piece ℕ
digits a [] = reads a []
digits a (b ∷ bs) = elim (among 48 57 b) [ true ↦ digits (10 * a + (b - 48)) bs | false ↦ reads a (b ∷ bs) ]

-- a digit from 1 to 9, and all the digits that follow
unfoldable pub positive : Piece ℕ
positive [] = fails tt
positive (b ∷ bs) = elim (among 49 57 b) [ true ↦ digits (b - 48) bs | false ↦ fails tt ]

-- 0, or such a number
unfoldable pub natural : Piece ℕ
natural = (word (ascii "0") >> gives 0) or positive

-- a number that was read, if it lies in low..high
unfoldable pub between : (low high n : ℕ) → Piece ℕ
between low high n bs = elim (among low high n) [ true ↦ reads n bs | false ↦ fails tt ]

-- a count or a switch, in low..high
unfoldable pub count : (low high : ℕ) → Piece ℕ
count low high = natural >>= between low high

-- u32 for minutes and age
unfoldable pub unsigned : Piece ℕ
unsigned = count 0 (2 ^ 32 - 1)

-- i32 for the rest
unfoldable pub negative : Piece ℤ
negative = positive >>= between 0 (2 ^ 31) >>= λ n. gives (neg_ℤ (pos n))

unfoldable pub signed : Piece ℤ
signed = (count 0 (2 ^ 31 - 1) >>= λ n. gives (pos n)) or (word (ascii "-") >> negative)

-- values in a row: each is followed by a comma, the last by the line feed
abbrev pub mark : (more : ℕ) → ℕ
mark zero = 10
mark (suc more) = 44

unfoldable pub values : ℕ → Piece (List ℤ)
values zero = gives []
values (suc more) = do
  v ← signed before word (mark more ∷ [])
  vs ← values more
  gives (v ∷ vs)
