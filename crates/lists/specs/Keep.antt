-- A list of which only some elements are kept, in order.
use Rattle.std.specs.Prelude.{ℕ, zero, suc, ◌≤◌, ◌<◌, ◌≡◌, refl, Bool, true, false, cond, List, [], ◌∷◌, map, ◌⊎◌, length, get_or}
use Rattle.std.proofs.Common.{arith, le_of_suc-le-suc, sym, ap, ◌∙◌, inl, inr}
use Rattle.lists.specs.Tests.{true_or_false}
use Rattle.lists.specs.Sums.{total}
use Rattle.lists.specs.Members.{All, none, more}

unfoldable pub keep : {A : Type 0} → (A → Bool) → List A → List A
keep p [] = []
keep p (a ∷ xs) = cond (p a) (a ∷ keep p xs) (keep p xs)

-- ---- laws

pub length-keep : {A : Type 0} (p : A → Bool) (xs : List A) → length (keep p xs) ≤ length xs
unfolding keep
length-keep p [] = omega arith
length-keep p (a ∷ xs) = go (p a) (length-keep p xs)
  where
    go : (b : Bool) → length (keep p xs) ≤ length xs → length (cond b (a ∷ keep p xs) (keep p xs)) ≤ suc (length xs)
    go true h = omega arith
    go false h = omega arith

-- what stands at r among the kept stands in the list, and is kept
pub record KeptFrom {A : Type 0} (p : A → Bool) (o : A) (xs : List A) (a : A) : Type 0 where
  pub place : ℕ
  pub inside : place < length xs
  pub same : a ≡ get_or xs place o
  pub kept : p (get_or xs place o) ≡ true

pub kept_from : {A : Type 0} (p : A → Bool) (o : A) (xs : List A) (r : ℕ) → r < length (keep p xs) → KeptFrom p o xs (get_or (keep p xs) r o)
unfolding keep
kept_from p o [] r l = absurd (omega arith)
kept_from {A = A} p o (a ∷ xs) r l = go (true_or_false (p a)) r l (kept_from p o xs)
  where
    later : (b : A) → KeptFrom p o xs b → KeptFrom p o (a ∷ xs) b
    later b k = record { place = suc k.place; inside = omega (arith, k.inside); same = k.same; kept = k.kept }

    go : (p a ≡ true) ⊎ (p a ≡ false) → (r : ℕ) → r < length (cond (p a) (a ∷ keep p xs) (keep p xs))
        → ((r : ℕ) → r < length (keep p xs) → KeptFrom p o xs (get_or (keep p xs) r o))
        → KeptFrom p o (a ∷ xs) (get_or (cond (p a) (a ∷ keep p xs) (keep p xs)) r o)
    go (inl e) zero l f = rw e (record { place = 0; inside = omega arith; same = refl; kept = e })
    go (inl e) (suc r) l f = rw e (later (get_or (keep p xs) r o) (f r (le_of_suc-le-suc (rw e at l))))
    go (inr e) r l f = rw e (later (get_or (keep p xs) r o) (f r (rw e at l)))

-- what is left out gives nothing: the totals are equal
pub total_keep : {A S : Type 0} (nil : S) (plus : S → S → S) (nil_plus : (t : S) → plus nil t ≡ t) (f : A → S) (p : A → Bool) {xs : List A}
    → All (λ a. p a ≡ false → f a ≡ nil) xs → total nil plus f (keep p xs) ≡ total nil plus f xs
unfolding total keep
total_keep nil plus nil_plus f p none = refl
total_keep {A = A} {S = S} nil plus nil_plus f p (more {a = a} {xs = xs} h r) = go (p a) h (total_keep nil plus nil_plus f p r)
  where
    go : (b : Bool) → (b ≡ false → f a ≡ nil) → total nil plus f (keep p xs) ≡ total nil plus f xs
        → total nil plus f (cond b (a ∷ keep p xs) (keep p xs)) ≡ plus (f a) (total nil plus f xs)
    go true g e = ap (plus (f a)) e
    go false g e = e ∙ sym (rw (g refl) (nil_plus (total nil plus f xs)))

-- keeping, and a change that the test does not see
pub keep-map : {A B : Type 0} (p : A → Bool) (q : B → Bool) (f : A → B) → ((a : A) → q (f a) ≡ p a) → (xs : List A)
    → keep q (map f xs) ≡ map f (keep p xs)
unfolding keep
keep-map p q f e [] = refl
keep-map {A = A} {B = B} p q f e (a ∷ xs) = rw (e a) (go (p a) (keep-map p q f e xs))
  where
    go : (b : Bool) → keep q (map f xs) ≡ map f (keep p xs)
        → cond b (f a ∷ keep q (map f xs)) (keep q (map f xs)) ≡ map f (cond b (a ∷ keep p xs) (keep p xs))
    go true h = ap (λ (r : List B). f a ∷ r) h
    go false h = h
