-- The four cheats that document 01 names, refuted on its own example: the promises of analysis, window query and program admit none of them.
-- Each is asked for the example, whose plan has one scan, for the example with that scan twice, and for that with smoothing on, under either rule.
use Rattle.std.specs.Prelude.{ℕ, ◌+◌, ◌-◌, ◌*◌, ◌≡◌, length, take, drop, get_or, ℤ, pos, nat_abs}
use mathlib.Core.List.{List, ◌++◌}
use Rattle.scheme.specs.Scan.{Analysis}
use Rattle.scheme.specs.Text.Pieces.{ascii}
use Rattle.scheme.specs.Text.Printed.{integer, grid_lines}

abbrev pub first_of : List ℤ → ℕ
first_of l = nat_abs (get_or l 0 (pos 0))

-- slices of the right length
abbrev pub Long : Analysis → Type 0
Long found = (length found.grid ≡ 9) × (length found.support ≡ 9) × (length found.verdict ≡ 3)

-- the lines of the answer that the memory begins with: the first two, then three each of `row` and `sup`, then `ver`
abbrev pub first_two_lines : List ℕ → List ℕ
first_two_lines l = take 18 l

abbrev pub row_lines : List ℕ → List ℕ
row_lines l = take 48 (drop 18 l)

abbrev pub sup_lines : List ℕ → List ℕ
sup_lines l = take 30 (drop 66 l)

abbrev pub ver_line : List ℕ → List ℕ
ver_line l = take 10 (drop 96 l)

-- the three `row` lines of a grid
abbrev pub shown : List ℤ → List ℕ
shown grid = grid_lines (ascii "row=") integer 3 3 grid

-- the last two digits of the first of three-digit values, as one number
abbrev pub last_digits : List ℕ → ℕ
last_digits l = 10 * get_or l 5 0 + get_or l 6 0 - 528

-- what an answer says, whatever stands after it
pub record Says (digits : ℕ) (sup left : List ℕ) : Type 0 where
  pub opening : first_two_lines left ≡ ascii "refusal=0\nplace=0\n"
  pub values : last_digits (row_lines left) ≡ digits
  pub supports : sup_lines left ≡ sup
  pub verdicts : ver_line left ≡ ascii "ver=0,0,2\n"

abbrev pub SaysFirst : (digits : ℕ) (sup answer : List ℕ) → Type 0
SaysFirst digits sup answer = (after : List ℕ) → Says digits sup (answer ++ after)
