-- What each public call promises: its answer and what it leaves in the memory it is lent, from what it is handed and what it finds there.
use Rattle.std.specs.Prelude.{ℕ, ◌≡◌, List, ◌++◌, length, drop, ℤ, Float}
use Rattle.scheme.specs.declared.Reading.{Reading}
use Rattle.scheme.specs.declared.Summary.{Summary}
use Rattle.scheme.specs.Units.{Columns, Call, asked}
use Rattle.scheme.specs.Refusals.{Refusal, as_one, unless_refused, Window, Screen, windows_of, analysis_refusal, window_refusal, screen_refusal}
use Rattle.scheme.specs.Scan.{Analysis, analysis}
use Rattle.scheme.specs.Reach.{Tile, whole_at, whole_at_each}
use Rattle.scheme.specs.Readings.{reading, numbers_of, kind_of, value_of, summary}
use Rattle.scheme.specs.Text.{answer_text}

-- the eight columns, from the arguments of a call
abbrev pub eight_columns : (x y value : List ℤ) (observed from until : List ℕ) (wind_u wind_v : List ℤ) → Columns
eight_columns x y value observed from until wind_u wind_v =
    record { x = x; y = y; value = value; observed = observed; from = from; until = until; wind_u = wind_u; wind_v = wind_v }

-- ---- the shape of every promise: the outcome of the call is the one that documents 01 and 02 give

abbrev pub Promised : {O : Type 0} → (right outcome : O) → Type 0
Promised right outcome = outcome ≡ right

-- Of a call that is lent memory the outcome is its answer and what it leaves there. It answers refusal·65,536 + place and leaves its result;
-- refused, it writes to none of the memory
abbrev pub Settles : {A : Type 0} → Refusal → (result found : A) → ℕ → A → Type 0
Settles {A = A} refusal result found answer left = Promised {O = ℕ × A} (as_one refusal, unless_refused refusal result found) (answer, left)

-- or it answers the length of a text and leaves that at the start, and after it what stood there
unfoldable pub put_first : (text found : List ℕ) → ℕ × List ℕ
put_first text found = (length text, text ++ drop (length text) found)

abbrev pub Stands : (text found : List ℕ) → ℕ → List ℕ → Type 0
Stands text found bytes left = Promised (put_first text found) (bytes, left)

-- ---- the whole analysis

-- what stands in the three slices that the results go to
abbrev pub slices : List ℤ → (support verdict : List ℕ) → Analysis
slices grid support verdict = record { grid = grid; support = support; verdict = verdict }

abbrev pub Analyses : Call → Analysis → ℕ → Analysis → Type 0
Analyses c found answer left =
    Settles (analysis_refusal c (length found.grid) (length found.support) (length found.verdict)) (analysis (asked c)) found answer left

-- ---- the window query

-- what stands in the two slices that the results go to
abbrev pub tile : List ℤ → List ℕ → Tile
tile grid support = record { grid = grid; support = support }

-- the numbers of the whole grid
abbrev pub Queries : Call → Window → Tile → ℕ → Tile → Type 0
Queries c w found answer left =
    Settles (window_refusal c w (length found.grid) (length found.support)) (whole_at (asked c) w) found answer left

-- ---- a screen of windows (document 02, 2)

-- the four columns, from the arguments of a call
abbrev pub four_columns : (left right top bottom : List ℕ) → Screen
four_columns left right top bottom = record { left = left; right = right; top = top; bottom = bottom }

-- each window's numbers of the whole grid, one window after the other
abbrev pub QueriesEach : Call → Screen → Tile → ℕ → Tile → Type 0
QueriesEach c s found answer left =
    Settles (screen_refusal c s (length found.grid) (length found.support)) (whole_at_each (asked c) (windows_of s)) found answer left

-- ---- the point reading, and the two calls by which it crosses to C; they and the summary are lent no memory to write to

abbrev pub Reads : (nx ny : ℕ) → List ℤ → List ℕ → (x y : ℤ) → Reading → Type 0
Reads nx ny field support x y answer = Promised (numbers_of (reading nx ny field support x y)) (numbers_of answer)

abbrev pub ReadsKind : (nx ny : ℕ) → List ℤ → List ℕ → (x y : ℤ) → ℕ → Type 0
ReadsKind nx ny field support x y answer = Promised (kind_of (reading nx ny field support x y)) answer

abbrev pub ReadsValue : (nx ny : ℕ) → List ℤ → List ℕ → (x y : ℤ) → Float → Type 0
ReadsValue nx ny field support x y answer = Promised (value_of (reading nx ny field support x y)) answer

-- ---- the summary

abbrev pub Summarises : (nx ny : ℕ) → List ℤ → Summary → Type 0
Summarises nx ny field answer = Promised (summary nx ny field) answer

-- ---- the program

-- the answer to standard input, byte for byte
abbrev pub Replies : (input found : List ℕ) → ℕ → List ℕ → Type 0
Replies input found bytes left = Stands (answer_text input) found bytes left
