-- What reading lines answers, as the definitions of the text say it.
use Rattle.std.specs.Prelude.{ℕ, ◌*◌, ◌≤◌, ◌≡◌, List, [], length, take, ℤ, Ok, Err}
use Rattle.std.specs.Prelude.{Result as Outcome}
use Rattle.scheme.specs.Units.{least_side, most_side, most_scans, most_stations, round_mode, asking, Request}
use Rattle.scheme.specs.Accepted.{Ruled}
use Rattle.scheme.specs.Text.{request_lines}
use Rattle.scheme.specs.Text.Reader.{fails, reads}
use Rattle.request.specs.declared.Station.{Station as Row}
use Rattle.request.specs.declared.Terms.{Terms}
use Rattle.request.specs.Tables.{stations_in, radii_in, limits_in, buddies_of}
use Rattle.text_head.specs.declared.Left.{Left}
use Rattle.text_head.specs.declared.NotInForm.{NotInForm}
use Rattle.text_head.specs.Left.{Read, left_of}

-- lines that were read, and what they said, or the first of them that is not in form
abbrev pub all_told : {A : Type 0} → A → Outcome Left NotInForm → Read A
all_told said (Ok left) = reads said (left_of left)
all_told said (Err e) = fails e.line

-- a request that was read, its lists the fronts of what was lent
abbrev pub request_read : Terms → ℕ → List ℤ → List Row → Request
request_read t n guess stations =
    asking t.nx t.ny (take (t.ny * t.nx) guess) (stations_in (take n stations)) t.scans (take t.scans (radii_in t.entries)) (take t.scans (limits_in t.entries)) t.smooth t.mode t.rule
    (buddies_of t.buddies) t.time t.age

-- its terms are in their ranges, and the fronts lie inside what was lent
pub record Fits (t : Terms) (n : ℕ) : Type 0 where
  pub two_columns : least_side ≤ t.nx
  pub few_columns : t.nx ≤ most_side
  pub two_rows : least_side ≤ t.ny
  pub few_rows : t.ny ≤ most_side
  pub scans_some : 1 ≤ t.scans
  pub scans_few : t.scans ≤ most_scans
  pub entries : length t.entries ≡ most_scans
  pub round : t.mode ≡ round_mode
  pub ruled : Ruled t.rule
  pub stations_few : n ≤ most_stations

-- a text whose lines say a request, up to its end
pub record Says (text : List ℕ) (guess : List ℤ) (stations : List Row) (t : Terms) (n after : ℕ) : Type 0 where
  pub said : request_lines (1, text) ≡ reads (request_read t n guess stations) (after, [])
  pub fits : Fits t n

abbrev pub RequestIs : List ℕ → List ℤ → List Row → Outcome (Terms × ℕ × ℕ) NotInForm → Type 0
RequestIs text guess stations (Ok read) = Says text guess stations read.0 read.1 read.2
RequestIs text guess stations (Err e) = request_lines (1, text) ≡ fails e.line
