-- "Request and answer text": the program `analyse` reads standard input and prints. Refusals 9 and 10, the answer byte for byte.
pub mod Reader
pub mod Pieces
pub mod Lines
pub mod Order
pub mod Printed
use Rattle.std.specs.Prelude.{ℕ, cond, List, [], ◌∷◌, ◌++◌, map, ltb, eqb, length}
use Reader.{Result, fails, reads, ◌>>=◌, ◌>>◌, gives, ◌or◌}
use Pieces.{ascii, count, unsigned}
use Lines.{number, grid_line, scan_line, buddy_line, row_line, station_line}
use Order.{Text, line, lines, rows, nothing_after}
use Printed.{decimal, integer, keyed, grid_lines}
use Rattle.scheme.specs.Units.{most_scans, most_stations, round_mode, equation_rule, listing_rule, no_buddies, asking, Request}
use Rattle.scheme.specs.Refusals.{number_of, place_of, unless_refused, in_order, from_five}
use Rattle.scheme.specs.Scan.{Analysis, analysis}

-- `age` may be left out, which means 120
abbrev pub default_age : ℕ
default_age = 120

-- `rule` may be left out, which means 1 (document 02, 6)
abbrev pub default_rule : ℕ
default_rule = equation_rule

abbrev pub most_bytes : ℕ
most_bytes = 65536

-- ---- the request: its lines, in this order, and nothing after. The text program stays with the round mode (document 02, 5). `buddy` may be left out,
-- which means that the check is off (document 02, 7)

unfoldable pub request_lines : Text Request
request_lines = do
  size ← line grid_line
  time ← line (number (ascii "time=") unsigned)
  age ← line (number (ascii "age=") unsigned) or gives default_age
  smooth ← line (number (ascii "smooth=") (count 0 1))
  rule ← line (number (ascii "rule=") (count equation_rule listing_rule)) or gives default_rule
  scans ← line (number (ascii "scans=") (count 1 most_scans))
  plan ← lines scans scan_line
  buddies ← line buddy_line or gives no_buddies
  guess ← rows size.ny (row_line size.nx)
  many ← line (number (ascii "stations=") (count 0 most_stations))
  stations ← lines many station_line
  nothing_after
  gives (asking size.nx size.ny guess stations scans (map (λ t. t.radius) plan) (map (λ t. t.limit) plan) (eqb smooth 1) round_mode rule buddies time age)

-- ---- the answer

unfoldable pub first_two : (number place : ℕ) → List ℕ
first_two number place = keyed (ascii "refusal=") decimal (number ∷ []) ++ keyed (ascii "place=") decimal (place ∷ [])

-- `row` and `sup` lines run from grid row 0, points from column 0; `ver` is in station order
unfoldable pub analysis_text : (nx ny : ℕ) → Analysis → List ℕ
analysis_text nx ny a =
    first_two 0 0
    ++ grid_lines (ascii "row=") integer nx ny a.grid
    ++ grid_lines (ascii "sup=") decimal nx ny a.support
    ++ keyed (ascii "ver=") decimal a.verdict

-- to a request in form. A refusal prints the first two lines alone
unfoldable pub reply_text : Request → List ℕ
reply_text q =
    let r = in_order (from_five q) in
    unless_refused r (analysis_text q.nx q.ny (analysis q)) (first_two (number_of r) (place_of r))

-- to what was read. 9: request text not in form, at the first line not in form
abbrev pub in_form : Result (ℕ × List ℕ) ℕ Request → List ℕ
in_form (fails k) = first_two 9 k
in_form (reads q rest) = reply_text q

-- to any text. 10, tested before 9: request text over 65,536 bytes
unfoldable pub answer_text : List ℕ → List ℕ
answer_text text = cond (ltb most_bytes (length text)) (first_two 10 0) (in_form (request_lines (1, text)))
