-- The first bad place of a search.
use Prim.Native.Nat.{ℕ, zero, suc, ◌+◌, ◌≤◌, ◌<◌}
use native.Mathlib.Omega.{arith}
use Rattle.std.specs.Prelude.{◌≡◌, ◌⊎◌, Bool, cond, ltb, length, get_or}
use Rattle.std.proofs.Math.Path.{refl, ap}
use Rattle.std.proofs.Common.{sym, ◌∙◌, inl, inr, lt-ltb, le-ltb}
use Rattle.std.proofs.Math.Bool.{true, false}
use mathlib.Core.List.{List, [], ◌∷◌, map}
use Rattle.lists.specs.Tests.{lt_or_le, true_or_false}
use Rattle.lists.specs.Tab.{tab, length-tab, get_or_tab}

pub data Found : Type 0 where
  nowhere : Found
  at : ℕ → Found

-- what was found, or else what the next place gives
unfoldable pub or_next : Found → Found → Found
or_next nowhere next = next
or_next (at k) next = at k

-- the first of the places 0 .. n - 1 that is bad
unfoldable pub first : ℕ → (ℕ → Bool) → Found
first zero bad = nowhere
first (suc n) bad = or_next (first n bad) (cond (bad n) (at n) nowhere)

-- the first bad element of a list, whose own first stands at k; and of a whole list
unfoldable pub first_from : {A : Type 0} → ℕ → (A → Bool) → List A → Found
first_from k bad [] = nowhere
first_from k bad (a ∷ l) = cond (bad a) (at k) (first_from (suc k) bad l)

abbrev pub first_in : {A : Type 0} → (A → Bool) → List A → Found
first_in bad l = first_from 0 bad l

-- a search over n places that ends at r: there, or past them all
abbrev pub ended : ℕ → ℕ → Found
ended n r = cond (ltb r n) (at r) nowhere

-- ---- laws

-- the places below n are good
abbrev pub Good : ℕ → (ℕ → Bool) → Type 0
Good n bad = (k : ℕ) → k < n → bad k ≡ false

-- k is bad, and the first
pub record FirstAt (n : ℕ) (bad : ℕ → Bool) (k : ℕ) : Type 0 where
  pub inside : k < n
  pub here : bad k ≡ true
  pub before : Good k bad

pub good_more : (n m : ℕ) (bad : ℕ → Bool) → m ≡ n + 1 → Good n bad → bad n ≡ false → Good m bad
good_more n m bad e g h k l = go (lt_or_le k n)
  where
    go : (k < n) ⊎ (n ≤ k) → bad k ≡ false
    go (inl p) = g k p
    go (inr p) = let q : k ≡ n = omega arith in rw q h

pub good_first : (n : ℕ) (bad : ℕ → Bool) → Good n bad → first n bad ≡ nowhere
unfolding first or_next
good_first zero bad g = refl
good_first (suc n) bad g = rw (good_first n bad (λ k h. g k (omega arith)), g n (omega arith))

pub bad_first : (n : ℕ) (bad : ℕ → Bool) (k : ℕ) → FirstAt n bad k → first n bad ≡ at k
unfolding first or_next
bad_first zero bad k f = absurd (omega (arith, f.inside))
bad_first (suc n) bad k f = go (lt_or_le k n) (λ p. bad_first n bad k (record { inside = p; here = f.here; before = f.before }))
  where
    go : (k < n) ⊎ (n ≤ k) → (k < n → first n bad ≡ at k) → or_next (first n bad) (cond (bad n) (at n) nowhere) ≡ at k
    go (inl p) r = rw (r p)
    go (inr p) r =
        let e : n ≡ k = omega (arith, f.inside) in
        rw e (rw (good_first k bad f.before, f.here))

-- and what was found is so
pub data Search (n : ℕ) (bad : ℕ → Bool) : Type 0 where
  all_good : first n bad ≡ nowhere → Good n bad → Search n bad
  bad-at : (k : ℕ) → first n bad ≡ at k → FirstAt n bad k → Search n bad

pub search : (n : ℕ) (bad : ℕ → Bool) → Search n bad
search zero bad = all_good (unfold first in refl) (λ k h. absurd (omega arith))
search (suc n) bad = go (search n bad) (true_or_false (bad n))
  where
    bad_here : Good n bad → bad n ≡ true → FirstAt (suc n) bad n
    bad_here g t = record { inside = omega arith; here = t; before = g }

    later : (k : ℕ) → FirstAt n bad k → FirstAt (suc n) bad k
    later k f = record { inside = omega (arith, f.inside); here = f.here; before = f.before }

    go : Search n bad → (bad n ≡ true) ⊎ (bad n ≡ false) → Search (suc n) bad
    go (bad-at k e f) b = bad-at k (bad_first (suc n) bad k (later k f)) (later k f)
    go (all_good e g) (inl t) = bad-at n (bad_first (suc n) bad n (bad_here g t)) (bad_here g t)
    go (all_good e g) (inr t) =
        let h : Good (suc n) bad = good_more n (suc n) bad (omega arith) g t in
        all_good (good_first (suc n) bad h) h

pub first_good : (n : ℕ) (bad : ℕ → Bool) → first n bad ≡ nowhere → Good n bad
first_good n bad e = go (search n bad)
  where
    go : Search n bad → Good n bad
    go (all_good q g) = g
    go (bad-at k q f) = absurd (let z : ◌≡◌ {A = ℕ} 0 1 = cc in omega arith)

-- how a search ends
pub ends_at : (n : ℕ) (bad : ℕ → Bool) (k : ℕ) → k < n → Good k bad → bad k ≡ true → ended n k ≡ first n bad
ends_at n bad k h g b = rw (lt-ltb k n h) (sym (bad_first n bad k (record { inside = h; here = b; before = g })))

pub ends_past : (n : ℕ) (bad : ℕ → Bool) (k : ℕ) → n ≤ k → Good n bad → ended n k ≡ first n bad
ends_past n bad k h g = rw (le-ltb k n h) (sym (good_first n bad g))

-- ---- a search of a list is one of its places

module _ {A : Type 0} (bad : A → Bool) (o : A) where
  abbrev bad_at : List A → ℕ → Bool
  bad_at l k = bad (get_or l k o)

  from_good : (l : List A) (k : ℕ) → Good (length l) (bad_at l) → first_from k bad l ≡ nowhere
  unfolding first_from
  from_good [] k g = refl
  from_good (a ∷ l) k g = let e : bad a ≡ false = g 0 (omega arith) in rw e (from_good l (suc k) (λ i h. g (suc i) (omega arith)))

  from_bad : (l : List A) (k i : ℕ) → FirstAt (length l) (bad_at l) i → first_from k bad l ≡ at (k + i)
  unfolding first_from
  from_bad [] k i f = absurd (omega (arith, f.inside))
  from_bad (a ∷ l) k zero f = let e : bad a ≡ true = f.here in let n : k ≡ k + 0 = omega arith in rw e (ap at n)
  from_bad (a ∷ l) k (suc i) f =
      let e : bad a ≡ false = f.before 0 (omega arith) in
      let n : suc k + i ≡ k + suc i = omega arith in
      rw e (from_bad l (suc k) i (record { inside = omega (arith, f.inside); here = f.here; before = λ m h. f.before (suc m) (omega arith) }) ∙ ap at n)

  pub in_places : (l : List A) → first_in bad l ≡ first (length l) (bad_at l)
  in_places l = go (search (length l) (bad_at l))
    where
      go : Search (length l) (bad_at l) → first_in bad l ≡ first (length l) (bad_at l)
      go (all_good e g) = from_good l 0 g ∙ sym e
      go (bad-at k e f) = from_bad l 0 k f ∙ ap at (let n : 0 + k ≡ k = omega arith in n) ∙ sym e

pub first_same : (n : ℕ) (p q : ℕ → Bool) → ((k : ℕ) → k < n → p k ≡ q k) → first n p ≡ first n q
unfolding first
first_same zero p q h = refl
first_same (suc n) p q h = rw (first_same n p q (λ k l. h k (omega arith)), h n (omega arith))

pub in_table : {A : Type 0} (bad : A → Bool) (n : ℕ) (f : ℕ → A) → first_in bad (tab n f) ≡ first n (λ k. bad (f k))
in_table bad n f =
    in_places bad (f 0) (tab n f)
    ∙ ap (λ (m : ℕ). first m (λ k. bad (get_or (tab n f) k (f 0)))) (length-tab n f)
    ∙ first_same n (λ k. bad (get_or (tab n f) k (f 0))) (λ k. bad (f k)) (λ k h. ap bad (get_or_tab n f k (f 0) h))

-- a search of what is made of a list, and one by the same tests
pub first_map : {A B : Type 0} (bad : B → Bool) (f : A → B) (k : ℕ) (l : List A) → first_from k bad (map f l) ≡ first_from k (λ a. bad (f a)) l
unfolding first_from
first_map bad f k [] = refl
first_map bad f k (a ∷ l) = rw (first_map bad f (suc k) l)

pub first_same_tests : {A : Type 0} (p q : A → Bool) (k : ℕ) (l : List A) → ((a : A) → p a ≡ q a) → first_from k p l ≡ first_from k q l
unfolding first_from
first_same_tests p q k [] h = refl
first_same_tests p q k (a ∷ l) h = rw (h a, first_same_tests p q (suc k) l h)

-- no element is bad
pub none_bad : {A : Type 0} (bad : A → Bool) (o : A) (l : List A) → first_in bad l ≡ nowhere → (k : ℕ) → k < length l → bad (get_or l k o) ≡ false
none_bad bad o l e = first_good (length l) (λ k. bad (get_or l k o)) (sym (in_places bad o l) ∙ e)

pub all_fine : {A : Type 0} (bad : A → Bool) (o : A) (l : List A) → ((k : ℕ) → k < length l → bad (get_or l k o) ≡ false) → first_in bad l ≡ nowhere
all_fine bad o l g = in_places bad o l ∙ good_first (length l) (λ k. bad (get_or l k o)) g
