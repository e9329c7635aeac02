-- A printed request reads back: to print a request in range and to read the text gives the request again, so that no two print alike. The line of
-- rule 1 may be left out.
use Rattle.std.specs.Prelude.{ℕ, ◌+◌, ◌-◌, ◌*◌, ◌^◌, ◌≤◌, ◌<◌, ◌≡◌, Bool, true, cond, eqb, length, get_or, ℤ, pos}
use Rattle.std.proofs.Math.Bool.{false}
use mathlib.Core.List.{List, [], ◌∷◌, ◌++◌, map}
use Rattle.std.specs.Int.Signed.{mag}
use Rattle.lists.specs.Members.{All}
use Rattle.lists.specs.Tab.{tab}
use Rattle.scheme.specs.Units.{among, no_wind, Station, round_mode, equation_rule, listing_rule, Buddies, no_buddies, asking, Plan, Request, most_scans, most_stations}
use Rattle.scheme.specs.Text.Reader.{Result, fails, reads, gives, ◌or◌, ◌>>=◌, ◌>>◌}
use Rattle.scheme.specs.Text.Pieces.{ascii, Piece, count, unsigned}
use Rattle.scheme.specs.Text.Lines.{Size, Entry, number, scan_line, buddy_line, row_line, station_line}
use Rattle.scheme.specs.Text.Order.{Text, line, lines, rows, nothing_after}
use Rattle.scheme.specs.Text.Printed.{decimal, integer, keyed, grid_lines}

abbrev pub entry_text : Entry → List ℕ
entry_text t = keyed (ascii "scan=") integer (t.radius ∷ t.limit ∷ [])

-- no line, where the check is off
abbrev pub buddy_text : Buddies → List ℕ
buddy_text b = cond b.on (keyed (ascii "buddy=") integer (b.radius ∷ b.limit ∷ [])) []

abbrev pub station_text : Station → List ℕ
station_text s =
    ascii "st=" ++ (integer s.x ++ (44 ∷ (integer s.y ++ (44 ∷ (integer s.value ++ (44 ∷ (decimal s.observed ++ (44 ∷ (decimal s.from ++ (44 ∷ (decimal s.until ++ (10 ∷ []))))))))))))

-- a line for each
unfoldable pub lines_text : {A : Type 0} → (A → List ℕ) → List A → List ℕ
lines_text shown [] = []
lines_text shown (a ∷ rest) = shown a ++ lines_text shown rest

-- the entries of its plan
abbrev pub entries : Plan → List Entry
entries p = tab p.scans (λ m. record { radius = get_or p.radius m (pos 0); limit = get_or p.limit m (pos 0) })

-- with those bytes where the line of its rule stands
unfoldable pub request_text_with : List ℕ → Request → List ℕ
request_text_with rule q =
    keyed (ascii "grid=") decimal (q.nx ∷ q.ny ∷ [])
    ++ (keyed (ascii "time=") decimal (q.T ∷ [])
    ++ (keyed (ascii "age=") decimal (q.A ∷ [])
    ++ (keyed (ascii "smooth=") decimal (cond q.plan.smooth 1 0 ∷ [])
    ++ (rule
    ++ (keyed (ascii "scans=") decimal (q.plan.scans ∷ [])
    ++ (lines_text entry_text (entries q.plan)
    ++ (buddy_text q.plan.buddies
    ++ (grid_lines (ascii "row=") integer q.nx q.ny q.first_guess
    ++ (keyed (ascii "stations=") decimal (length q.stations ∷ [])
    ++ (lines_text station_text q.stations ++ []))))))))))

abbrev pub request_text : Request → List ℕ
request_text q = request_text_with (keyed (ascii "rule=") decimal (q.plan.rule ∷ [])) q

-- and without that line
abbrev pub shorter_text : Request → List ℕ
shorter_text q = request_text_with [] q

-- an i32
abbrev pub Signed : ℤ → Type 0
Signed z = mag z < 2 ^ 31

abbrev pub Unsigned : ℕ → Type 0
Unsigned n = n ≤ 2 ^ 32 - 1

pub record StationInRange (s : Station) : Type 0 where
  pub x : Signed s.x
  pub y : Signed s.y
  pub value : Signed s.value
  pub observed : Unsigned s.observed
  pub from : Unsigned s.from
  pub until : Unsigned s.until
  pub wind : s.wind ≡ no_wind

pub record EntryInRange (t : Entry) : Type 0 where
  pub radius : Signed t.radius
  pub limit : Signed t.limit

-- a text without the line says no B and no L
pub record BuddiesInRange (b : Buddies) : Type 0 where
  pub radius : Signed b.radius
  pub limit : Signed b.limit
  pub off : b.on ≡ false → b ≡ no_buddies

pub record InRange (q : Request) : Type 0 where
  pub two_columns : 2 ≤ q.nx
  pub few_columns : q.nx ≤ 64
  pub two_rows : 2 ≤ q.ny
  pub few_rows : q.ny ≤ 64
  pub time : Unsigned q.T
  pub age : Unsigned q.A
  pub some_scans : 1 ≤ q.plan.scans
  pub few_scans : q.plan.scans ≤ most_scans
  pub radii : length q.plan.radius ≡ q.plan.scans
  pub limits : length q.plan.limit ≡ q.plan.scans
  pub mode : q.plan.mode ≡ round_mode
  pub first_rule : equation_rule ≤ q.plan.rule
  pub last_rule : q.plan.rule ≤ listing_rule
  pub entries : All EntryInRange (entries q.plan)
  pub buddies : BuddiesInRange q.plan.buddies
  pub whole : length q.first_guess ≡ q.ny * q.nx
  pub first_guess : All Signed q.first_guess
  pub few_stations : length q.stations ≤ most_stations
  pub rows : All StationInRange q.stations

abbrev pub time_line : Piece ℕ
time_line = number (ascii "time=") unsigned

abbrev pub age_line : Piece ℕ
age_line = number (ascii "age=") unsigned

abbrev pub smooth_line : Piece ℕ
smooth_line = number (ascii "smooth=") (count 0 1)

abbrev pub rule_line : Piece ℕ
rule_line = number (ascii "rule=") (count equation_rule listing_rule)

abbrev pub scans_line : Piece ℕ
scans_line = number (ascii "scans=") (count 1 most_scans)

abbrev pub stations_line : Piece ℕ
stations_line = number (ascii "stations=") (count 0 most_stations)

unfoldable pub from_scans : Size → (time age smooth rule : ℕ) → Text Request
from_scans size time age smooth rule = do
  scans ← line scans_line
  plan ← lines scans scan_line
  buddies ← line buddy_line or gives no_buddies
  guess ← rows size.ny (row_line size.nx)
  many ← line stations_line
  stations ← lines many station_line
  nothing_after
  gives (asking size.nx size.ny guess stations scans (map (λ t. t.radius) plan) (map (λ t. t.limit) plan) (eqb smooth 1) round_mode rule buddies time age)

abbrev pub is_digit : ℕ → Bool
is_digit b = among 48 57 b

-- the number that bytes say, digit after digit
unfoldable pub value : ℕ → List ℕ → ℕ
value a [] = a
value a (b ∷ bs) = value (10 * a + (b - 48)) bs

abbrev pub Digits : List ℕ → Type 0
Digits bs = All (λ b. is_digit b ≡ true) bs

-- no digit stands in front
abbrev pub Stops : List ℕ → Type 0
Stops [] = Unit {0}
Stops (b ∷ bs) = is_digit b ≡ false

-- a number begins with a digit, from 1 on with a digit from 1 to 9
pub record Front (n : ℕ) : Type 0 where
  pub first : ℕ
  pub later : List ℕ
  pub is : decimal n ≡ first ∷ later
  pub low : 48 ≤ first
  pub some : 1 ≤ n → 49 ≤ first
  pub high : first ≤ 57
  pub all : Digits later

-- values of lines that were read before others
abbrev pub led : {A : Type 0} → List A → Result (ℕ × List ℕ) ℕ (List A) → Result (ℕ × List ℕ) ℕ (List A)
led l (fails k) = fails k
led l (reads vs left) = reads (l ++ vs) left
