-- "One scan", Smoothing: after each scan, all points at once.
use Rattle.std.specs.Prelude.{ℕ, ◌+◌, ◌-◌, Bool, cond, ◌&&◌, List, [], ◌∷◌, ltb, get_or, ℤ, pos, ◌+ℤ◌, ◌*ℤ◌}
use Rattle.lists.specs.Sums.{up_to}
use Rattle.scheme.specs.Units.{Field}
use Rattle.scheme.specs.Rounding.{rounded}

-- The three-by-three pattern 1 2 1, 2 4 2, 1 2 1 is one table
abbrev pub pattern : List (List ℕ)
pattern = (1 ∷ 2 ∷ 1 ∷ []) ∷ (2 ∷ 4 ∷ 2 ∷ []) ∷ (1 ∷ 2 ∷ 1 ∷ []) ∷ []

abbrev pub pattern_at : (a b : ℕ) → ℕ
pattern_at a b = get_or (get_or pattern b []) a 0

-- 4 times itself + 2 times its four side neighbours + its four corner neighbours: the pattern laid on the point, row by row
unfoldable pub pattern_row : Field ℤ → (i j b : ℕ) → ℤ
pattern_row z i j b = up_to (pos 0) ◌+ℤ◌ 3 (λ a. pos (pattern_at a b) *ℤ z (i + a - 1) (j + b - 1))

unfoldable pub pattern_sum : Field ℤ → (i j : ℕ) → ℤ
pattern_sum z i j = up_to (pos 0) ◌+ℤ◌ 3 (pattern_row z i j)

-- neither the first nor the last of n
unfoldable pub inner : ℕ → ℕ → Bool
inner n i = ltb 0 i && ltb (i + 1) n

-- an inner point becomes the sum /16, rounded. Points on the border of the grid keep their value
unfoldable pub smoothed : (nx ny : ℕ) → Field ℤ → Field ℤ
smoothed nx ny z i j = cond (inner nx i && inner ny j) (rounded (pattern_sum z i j) 16) (z i j)
