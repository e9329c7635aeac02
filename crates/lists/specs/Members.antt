-- What holds of each element of a list, or of some.
use Rattle.std.specs.Prelude.{ℕ, zero, suc, ◌+◌, ◌≤◌, ◌<◌, ◌≡◌, ◌⊎◌, Bool, true, ◌&&◌, List, [], ◌∷◌, map, length, take, drop, get_or}
use Rattle.std.proofs.Common.{arith, inl, inr}
use Rattle.lists.specs.Tests.{lt_or_le, and_true}
use Rattle.lists.specs.Tab.{tab}
use Rattle.lists.specs.Sums.{total}

-- P holds of each
pub data All {A : Type 0} (P : A → Type 0) : List A → Type 0 where
  none : All P []
  more : {a : A} {xs : List A} → P a → All P xs → All P (a ∷ xs)

-- P holds of some
pub data Some {A : Type 0} (P : A → Type 0) : List A → Type 0 where
  here : {a : A} {xs : List A} → P a → Some P (a ∷ xs)
  later : {a : A} {xs : List A} → Some P xs → Some P (a ∷ xs)

-- a test that computes over the whole list
unfoldable pub every : {A : Type 0} → (A → Bool) → List A → Bool
every p [] = true
every p (a ∷ xs) = p a && every p xs

-- ---- laws

-- what the test finds of every element, and of what stands past the end, holds at every place
pub every_at : {A : Type 0} (p : A → Bool) (o : A) → p o ≡ true → (xs : List A) → every p xs ≡ true → (k : ℕ) → p (get_or xs k o) ≡ true
unfolding every
every_at p o e [] h k = e
every_at p o e (a ∷ xs) h zero = (and_true (p a) (every p xs) h).0
every_at p o e (a ∷ xs) h (suc k) = every_at p o e xs (and_true (p a) (every p xs) h).1 k

pub all_map : {A B : Type 0} (P : A → Type 0) (Q : B → Type 0) (f : A → B) → ((a : A) → P a → Q (f a)) → {xs : List A} → All P xs → All Q (map f xs)
all_map P Q f g none = none
all_map P Q f g (more {a = a} h r) = more (g a h) (all_map P Q f g r)

pub all_also : {A : Type 0} (P Q : A → Type 0) → ((a : A) → P a → Q a) → {xs : List A} → All P xs → All Q xs
all_also P Q f none = none
all_also P Q f (more {a = a} h r) = more (f a h) (all_also P Q f r)

pub all_of : {A : Type 0} (P : A → Type 0) → ((a : A) → P a) → (xs : List A) → All P xs
all_of P f [] = none
all_of P f (a ∷ xs) = more (f a) (all_of P f xs)

-- of a part, and of a table
-- by the index
pub all_get_d : {A : Type 0} (P : A → Type 0) (o : A) (xs : List A) → ((k : ℕ) → k < length xs → P (get_or xs k o)) → All P xs
all_get_d P o [] h = none
all_get_d P o (x ∷ xs) h = more (h 0 (omega arith)) (all_get_d P o xs (λ k l. h (suc k) (omega arith)))

pub all_take : {A : Type 0} (P : A → Type 0) (n : ℕ) {xs : List A} → All P xs → All P (take n xs)
all_take P zero r = none
all_take P (suc n) none = none
all_take P (suc n) (more h r) = more h (all_take P n r)

pub all_drop : {A : Type 0} (P : A → Type 0) (n : ℕ) {xs : List A} → All P xs → All P (drop n xs)
all_drop P zero r = r
all_drop P (suc n) none = none
all_drop P (suc n) (more h r) = all_drop P n r

pub all_below : {A : Type 0} (P : A → Type 0) (n : ℕ) (f : ℕ → A) → ((k : ℕ) → k < n → P (f k)) → All P (tab n f)
unfolding tab
all_below P zero f h = none
all_below P (suc n) f h = more (h 0 (omega arith)) (all_below P n (λ k. f (suc k)) (λ k l. h (suc k) (omega arith)))

pub all_at : {A : Type 0} (P : A → Type 0) (n : ℕ) (f : ℕ → A) → All P (tab n f) → (k : ℕ) → k < n → P (f k)
unfolding tab
all_at P zero f h k l = absurd (omega arith)
all_at P (suc n) f (more e h) zero l = e
all_at P (suc n) f (more e h) (suc k) l = all_at P n (λ i. f (suc i)) h k (omega arith)

pub all_tab : {A : Type 0} (P : A → Type 0) (n : ℕ) (f : ℕ → A) → ((k : ℕ) → P (f k)) → All P (tab n f)
all_tab P n f h = all_below P n f (λ k l. h k)

pub some_also : {A : Type 0} (P Q : A → Type 0) → ((a : A) → P a → Q a) → {xs : List A} → Some P xs → Some Q xs
some_also P Q f (here {a = a} h) = here (f a h)
some_also P Q f (later r) = later (some_also P Q f r)

-- a sum of naturals is above 0 exactly where some share is
pub some_share : {A : Type 0} (f : A → ℕ) (xs : List A) → 0 < total 0 ◌+◌ f xs → Some (λ a. 0 < f a) xs
unfolding total
some_share f [] h = absurd (omega arith)
some_share f (a ∷ xs) h = go (lt_or_le 0 (f a)) (some_share f xs)
  where
    go : (0 < f a) ⊎ (f a ≤ 0) → (0 < total 0 ◌+◌ f xs → Some (λ a. 0 < f a) xs) → Some (λ a. 0 < f a) (a ∷ xs)
    go (inl p) r = here p
    go (inr p) r = later (r (unfold total in omega arith))

pub share_some : {A : Type 0} (f : A → ℕ) {xs : List A} → Some (λ a. 0 < f a) xs → 0 < total 0 ◌+◌ f xs
unfolding total
share_some f (here h) = omega arith
share_some f (later r) = omega (arith, share_some f r)
