-- Each element of a list beside the others: all but one of a list.
use Prim.Native.Nat.{ℕ, zero, suc}
use mathlib.Core.List.{List, [], ◌∷◌}

-- all but the k-th
unfoldable pub without : {A : Type 0} → ℕ → List A → List A
without k [] = []
without zero (a ∷ xs) = xs
without (suc k) (a ∷ xs) = a ∷ without k xs
