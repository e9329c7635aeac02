-- The lines of a request: one number, and a definition for each key that says more. Each is key=value, ended by a line feed.
use Rattle.std.specs.Prelude.{ℕ, true, List, ℤ}
use Rattle.scheme.specs.Units.{least_side, most_side, no_wind, Buddies, Station, missing_mark, no_end}
use Rattle.scheme.specs.Text.Reader.{◌>>=◌, ◌>>◌, gives, ◌or◌, ◌before◌}
use Rattle.scheme.specs.Text.Pieces.{ascii, Piece, word, comma, line_feed, count, unsigned, signed, values}

-- one number is the value
unfoldable pub number : List ℕ → Piece ℕ → Piece ℕ
number key kind = word key >> (kind before line_feed)

-- `grid` is nx,ny
pub record Size : Type 0 where
  pub nx : ℕ
  pub ny : ℕ

unfoldable pub grid_line : Piece Size
grid_line = do
  word (ascii "grid=")
  nx ← count least_side most_side before comma
  ny ← count least_side most_side before line_feed
  gives (record { nx = nx; ny = ny })

-- a radius and a limit
pub record Entry : Type 0 where
  pub radius : ℤ
  pub limit : ℤ

unfoldable pub entry_line : List ℕ → Piece Entry
entry_line key = do
  word key
  radius ← signed before comma
  limit ← signed before line_feed
  gives (record { radius = radius; limit = limit })

-- `scan` is R,E
abbrev pub scan_line : Piece Entry
scan_line = entry_line (ascii "scan=")

-- `buddy` is B,L, and means that the check is on (document 02, 7)
abbrev pub buddy_line : Piece Buddies
buddy_line = entry_line (ascii "buddy=") >>= λ t. gives (record { on = true; radius = t.radius; limit = t.limit })

-- `row` is one grid row
unfoldable pub row_line : ℕ → Piece (List ℤ)
row_line nx = word (ascii "row=") >> values nx

-- A station's value may be `M` (missing) and its until `open` (no end); the marks written as digits mean the same
unfoldable pub observation : Piece ℤ
observation = (word (ascii "M") >> gives missing_mark) or signed

unfoldable pub end : Piece ℕ
end = (word (ascii "open") >> gives no_end) or unsigned

-- `st` is x,y,value,observed,from,until. A text has no winds (document 02, 5)
unfoldable pub station_line : Piece Station
station_line = do
  word (ascii "st=")
  x ← signed before comma
  y ← signed before comma
  value ← observation before comma
  observed ← unsigned before comma
  from ← unsigned before comma
  until ← end before line_feed
  gives (record { x = x; y = y; value = value; observed = observed; from = from; until = until; wind = no_wind })
