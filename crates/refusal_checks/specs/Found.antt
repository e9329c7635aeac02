-- What a search answers, as the definitions have it.
use Rattle.std.specs.Prelude.{ℕ, suc, ◌+◌, ◌*◌, ◌≤◌, ◌<◌, ◌≡◌, refl, Bool, true, false, cond, List, [], ◌∷◌, length, get_or, ℤ, pos, position, Option, None, Some, MatchOption}
use Rattle.std.specs.List.{position_from}
use Rattle.std.proofs.Common.{add-one, arith, sym, ap, ◌∙◌, mul-le-mul_right}
use Rattle.std.proofs.lemmas.Iterator.Adapters.{position_from-zero}
use Rattle.lists.specs.First.{Found, nowhere, at, first, first_from, first_in, Good, FirstAt, good_first, bad_first, in_places}
use Rattle.scheme.specs.Refusals.{bad_guess}
use Rattle.scheme.specs.Accepted.{Shaped}

abbrev pub found_of : Option ℕ → Found
found_of None = nowhere
found_of (Some k) = at k

-- of a search of the places 0 .. n - 1
pub found_first : (n : ℕ) (bad : ℕ → Bool) (r : Option ℕ)
    → MatchOption r ((k : ℕ) → 0 ≤ k → k < n → bad k ≡ false) (λ k. (0 ≤ k) × (k < n) × (bad k ≡ true) × ((m : ℕ) → 0 ≤ m → m < k → bad m ≡ false)) → found_of r ≡ first n bad
found_first n bad None h = sym (good_first n bad (λ k l. h k (omega arith) l))
found_first n bad (Some k) h = sym (bad_first n bad k (record { inside = h.1; here = h.2; before = λ m l. h.3 m (omega arith) l }))

-- of a search of a list
found_from : {A : Type 0} (bad : A → Bool) (k : ℕ) (l : List A) → found_of (position_from bad k l) ≡ first_from k bad l
unfolding first_from
found_from bad k [] = refl
found_from bad k (a ∷ l) = rw add-one (here (bad a) _ _ (found_from bad (suc k) l))
  where
    here : (b : Bool) (r : Option ℕ) (f : Found) → found_of r ≡ f → found_of (cond b (Some k) r) ≡ cond b (at k) f
    here true r f e = refl
    here false r f e = e

pub found_in : {A : Type 0} (bad : A → Bool) (l : List A) (r : Option ℕ) → r ≡ position bad l → found_of r ≡ first_in bad l
found_in bad l r e = ap found_of (e ∙ position_from-zero bad l) ∙ found_from bad 0 l

-- of a search of the values of a first guess, by their places
abbrev pub guess_bad : List ℤ → ℕ → Bool
guess_bad z k = bad_guess (get_or z k (pos 0))

module _ (z : List ℤ) where
  pub bad_value_at : (k : ℕ) → FirstAt (length z) (guess_bad z) k → at k ≡ first_in bad_guess z
  bad_value_at k f = sym (in_places bad_guess (pos 0) z ∙ bad_first (length z) (guess_bad z) k f)

  pub no_bad_value : Good (length z) (guess_bad z) → nowhere ≡ first_in bad_guess z
  no_bad_value g = sym (in_places bad_guess (pos 0) z ∙ good_first (length z) (guess_bad z) g)

-- a point of a grid, where a field has its value
pub in_grid : (nx ny len j i : ℕ) → Shaped nx ny len → j < ny → i < nx → j * nx + i < len
in_grid nx ny len j i s hj hi = omega (arith, mul-le-mul_right nx hj, s.whole)
