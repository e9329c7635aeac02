-- Two lists, the second made of a part of the first; and each element of a list beside the others.
use Prim.Native.Nat.{ℕ, zero, suc}
use Rattle.std.specs.Prelude.{Bool, cond}
use mathlib.Core.List.{List, [], ◌∷◌, ◌++◌}

-- how many of the first k are kept: where the k-th stands among the kept
unfoldable pub rank : {A : Type 0} → (A → Bool) → List A → ℕ → ℕ
rank p [] k = 0
rank p (a ∷ xs) zero = 0
rank p (a ∷ xs) (suc k) = cond (p a) (suc (rank p xs k)) (rank p xs k)

-- f of each element and the list of the others
unfoldable pub each_from : {A B : Type 0} → (A → List A → B) → List A → List A → List B
each_from f before [] = []
each_from f before (a ∷ xs) = f a (before ++ xs) ∷ each_from f (before ++ (a ∷ [])) xs

unfoldable pub each : {A B : Type 0} → (A → List A → B) → List A → List B
each f xs = each_from f [] xs

-- the second list is made of a part of the first: K holds of an element and what is made of it, G of one that is left out
pub data Parted {A B : Type 0} (K : A → B → Type 0) (G : A → Type 0) : List A → List B → Type 0 where
  end : Parted K G [] []
  kept : {a : A} {b : B} {xs : List A} {ys : List B} → K a b → Parted K G xs ys → Parted K G (a ∷ xs) (b ∷ ys)
  gone : {a : A} {xs : List A} {ys : List B} → G a → Parted K G xs ys → Parted K G (a ∷ xs) ys
