-- The lines of an answer: numbers in decimal, rows of them, and the rows of a grid.
use Rattle.std.specs.Prelude.{ℕ, zero, suc, ◌+◌, ◌/◌, ◌%◌, true, false, List, [], ◌∷◌, ◌++◌, ltb, length, take, drop, ℤ, pos, negsuc}
use Rattle.scheme.specs.Text.Pieces.{mark}

-- the digits of n, 48 for 0 to 57 for 9; it has at most one more than the first number says
unfoldable pub spelled : ℕ → ℕ → List ℕ
spelled zero n = (48 + n) ∷ []
spelled (suc more) n = elim (ltb n 10) [ true ↦ (48 + n) ∷ [] | false ↦ spelled more (n / 10) ++ ((48 + n % 10) ∷ []) ]

unfoldable pub decimal : ℕ → List ℕ
decimal n = spelled n n

unfoldable pub integer : ℤ → List ℕ
integer (pos n) = decimal n
integer (negsuc n) = 45 ∷ decimal (suc n)

-- a row of values, each with what follows it
unfoldable pub cells : {A : Type 0} → (A → List ℕ) → List A → List ℕ
cells shown [] = []
cells shown (v ∷ vs) = shown v ++ (mark (length vs) ∷ cells shown vs)

-- key=value, of a row of values. With none, the line feed follows the key
unfoldable pub keyed : {A : Type 0} → List ℕ → (A → List ℕ) → List A → List ℕ
keyed key shown [] = key ++ (10 ∷ [])
keyed key shown (v ∷ vs) = key ++ cells shown (v ∷ vs)

-- the rows of a grid nx wide, each as a line
unfoldable pub grid_lines : {A : Type 0} → List ℕ → (A → List ℕ) → (nx ny : ℕ) → List A → List ℕ
grid_lines key shown nx zero vs = []
grid_lines key shown nx (suc more) vs = keyed key shown (take nx vs) ++ grid_lines key shown nx more (drop nx vs)
