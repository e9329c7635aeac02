-- Sums over the records of a list, and over an index as a loop counts them.
use Prim.Native.Nat.{ℕ, zero, suc, ◌+◌, ◌*◌, ◌≤◌, ◌<◌}
use Rattle.std.proofs.Common.{arith, add-one, ◌∙◌}
use Rattle.std.specs.Prelude.{◌≡◌, ℤ, pos, nat_abs, ◌+ℤ◌}
use Rattle.std.proofs.Math.Path.{refl, sym, ap}
use mathlib.Core.List.{List, [], ◌∷◌, map}
use Rattle.integers.specs.Sizes.{size_add}
use Rattle.lists.specs.Tab.{tab}

-- the sum of what each element gives
unfoldable pub total : {A S : Type 0} → S → (S → S → S) → (A → S) → List A → S
total nil plus f [] = nil
total nil plus f (a ∷ xs) = plus (f a) (total nil plus f xs)

-- the sum of f 0, f 1, .. , n of them: after n turns of a loop
unfoldable pub up_to : {S : Type 0} → S → (S → S → S) → ℕ → (ℕ → S) → S
up_to nil plus zero f = nil
up_to nil plus (suc n) f = plus (up_to nil plus n f) (f n)

-- ---- laws

-- the sum over a table of records is the sum over its index
module _ {S : Type 0} (nil : S) (plus : S → S → S) (nil_plus : (t : S) → plus nil t ≡ t) (plus_nil : (t : S) → plus t nil ≡ t)
    (assoc : (a b c : S) → plus (plus a b) c ≡ plus a (plus b c)) where
  pub front : (n : ℕ) (f : ℕ → S) → up_to nil plus (suc n) f ≡ plus (f 0) (up_to nil plus n (λ k. f (suc k)))
  unfolding up_to
  front zero f = nil_plus (f 0) ∙ sym (plus_nil (f 0))
  front (suc n) f =
      ap (λ (t : S). plus t (f (suc n))) (front n f) ∙ assoc (f 0) (up_to nil plus n (λ k. f (suc k))) (f (suc n))

  pub total_tab : {A : Type 0} (f : A → S) (n : ℕ) (g : ℕ → A) → total nil plus f (tab n g) ≡ up_to nil plus n (λ k. f (g k))
  unfolding total tab
  total_tab f zero g = unfold up_to in refl
  total_tab f (suc n) g =
      ap (plus (f (g 0))) (total_tab f n (λ k. g (suc k))) ∙ sym (front n (λ k. f (g k)))

module _ {A S : Type 0} (nil : S) (plus : S → S → S) where
  pub total_map : {B : Type 0} (f : B → S) (g : A → B) (xs : List A) → total nil plus f (map g xs) ≡ total nil plus (λ a. f (g a)) xs
  unfolding total
  total_map f g [] = refl
  total_map f g (a ∷ xs) = ap (plus (f (g a))) (total_map f g xs)

  -- what holds of nothing, of each share, and of a sum if of its two parts, holds of the total
  pub total_ind : (P : S → Type 0) (f : A → S) → P nil → ((a : A) (t : S) → P t → P (plus (f a) t)) → (xs : List A) → P (total nil plus f xs)
  unfolding total
  total_ind P f none more [] = none
  total_ind P f none more (a ∷ xs) = more a (total nil plus f xs) (total_ind P f none more xs)

pub up_to_same : {S : Type 0} (nil : S) (plus : S → S → S) (n : ℕ) (f g : ℕ → S) → ((k : ℕ) → k < n → f k ≡ g k) → up_to nil plus n f ≡ up_to nil plus n g
unfolding up_to
up_to_same nil plus zero f g h = refl
up_to_same {S = S} nil plus (suc n) f g h =
    ap (λ (t : S). plus t (f n)) (up_to_same nil plus n f g (λ k l. h k (omega arith))) ∙ ap (plus (up_to nil plus n g)) (h n (omega arith))

-- a turn of a loop
pub up_to_next : {S : Type 0} (nil : S) (plus : S → S → S) (n : ℕ) (f : ℕ → S) → up_to nil plus (n + 1) f ≡ plus (up_to nil plus n f) (f n)
unfolding up_to
up_to_next nil plus n f = rw (add-one n)

-- a sum of n numbers of at most that size each
pub up_to_most : (most n : ℕ) (f : ℕ → ℤ) → ((k : ℕ) → k < n → nat_abs (f k) ≤ most) → nat_abs (up_to (pos 0) ◌+ℤ◌ n f) ≤ n * most
unfolding up_to
up_to_most most zero f h = omega arith
up_to_most most (suc n) f h =
    omega (arith, size_add (up_to (pos 0) ◌+ℤ◌ n f) (f n), up_to_most most n f (λ k l. h k (omega arith)), h n (omega arith))

-- a sum is no larger than the sum of sizes
pub up_to_size : (n : ℕ) (f : ℕ → ℤ) (g : ℕ → ℕ) → ((k : ℕ) → k < n → nat_abs (f k) ≤ g k) → nat_abs (up_to (pos 0) ◌+ℤ◌ n f) ≤ up_to 0 ◌+◌ n g
unfolding up_to
up_to_size zero f g h = omega arith
up_to_size (suc n) f g h =
    omega (arith, size_add (up_to (pos 0) ◌+ℤ◌ n f) (f n), up_to_size n f g (λ k l. h k (omega arith)), h n (omega arith))

-- two sums over one index are one
module _ {S : Type 0} (nil : S) (plus : S → S → S) (nil_plus : (t : S) → plus nil t ≡ t)
    (assoc : (a b c : S) → plus (plus a b) c ≡ plus a (plus b c)) (comm : (a b : S) → plus a b ≡ plus b a) where
  exchange : (a b c d : S) → plus (plus a b) (plus c d) ≡ plus (plus a c) (plus b d)
  exchange a b c d =
      assoc a b (plus c d) ∙ ap (plus a) (sym (assoc b c d) ∙ ap (λ (t : S). plus t d) (comm b c) ∙ assoc c b d) ∙ sym (assoc a c (plus b d))

  pub up_to_both : (n : ℕ) (f g : ℕ → S) → plus (up_to nil plus n f) (up_to nil plus n g) ≡ up_to nil plus n (λ k. plus (f k) (g k))
  unfolding up_to
  up_to_both zero f g = nil_plus nil
  up_to_both (suc n) f g =
      exchange (up_to nil plus n f) (f n) (up_to nil plus n g) (g n) ∙ ap (λ (t : S). plus t (plus (f n) (g n))) (up_to_both n f g)
