-- Parts that a loop counts, and writes one after the other into a slice.
use Rattle.std.specs.Prelude.{ℕ, zero, suc, ◌+◌, ◌*◌, ◌≤◌, ◌<◌, ◌≡◌, refl, ◌⊎◌, List, [], ◌++◌, length, take, drop}
use Rattle.std.proofs.Common.{arith, zero-add, add-zero, add_assoc, sym, ap, ◌∙◌, inl, inr, append-nil, append_assoc, length-append, length-drop, take_at, length-take-le}
use Rattle.std.proofs.Math.Seq.{take-length}
use Rattle.lists.specs.Tests.{lt_or_le}
use Rattle.lists.specs.Tab.{tab}
use Rattle.lists.specs.Sums.{total, up_to, total_tab}

-- how many elements n parts have, and the parts one after the other
abbrev pub sum_to : ℕ → (ℕ → ℕ) → ℕ
sum_to n f = up_to 0 ◌+◌ n f

abbrev pub join_to : {A : Type 0} → ℕ → (ℕ → List A) → List A
join_to n f = up_to [] ◌++◌ n f

-- ---- laws

pub sum_tab : {A : Type 0} (f : A → ℕ) (n : ℕ) (g : ℕ → A) → total 0 ◌+◌ f (tab n g) ≡ sum_to n (λ k. f (g k))
sum_tab = total_tab 0 ◌+◌ zero-add add-zero add_assoc

pub join_tab : {A B : Type 0} (f : A → List B) (n : ℕ) (g : ℕ → A) → total [] ◌++◌ f (tab n g) ≡ join_to n (λ k. f (g k))
join_tab = total_tab [] ◌++◌ (λ t. refl) append-nil append_assoc

pub sum_most : (most n : ℕ) (f : ℕ → ℕ) → ((k : ℕ) → k < n → f k ≤ most) → sum_to n f ≤ n * most
unfolding up_to
sum_most most zero f h = omega arith
sum_most most (suc n) f h = omega (arith, sum_most most n f (λ k l. h k (omega arith)), h n (omega arith))

-- part k has room
pub sum_room : (n k : ℕ) (f : ℕ → ℕ) → k < n → sum_to k f + f k ≤ sum_to n f
unfolding up_to
sum_room zero k f h = absurd (omega arith)
sum_room (suc n) k f h = go (lt_or_le k n) (sum_room n k f)
  where
    go : (k < n) ⊎ (n ≤ k) → (k < n → sum_to k f + f k ≤ sum_to n f) → sum_to k f + f k ≤ sum_to n f + f n
    go (inl p) r = omega (arith, r p)
    go (inr p) r = let e : k ≡ n = omega arith in rw e (omega arith)

-- ---- a slice of so many elements whose first ones are written, and are xs

pub record Written {A : Type 0} (long : ℕ) (xs : List A) (at : ℕ) (l : List A) : Type 0 where
  pub same_length : length l ≡ long
  pub so_far : take at l ≡ xs

module _ {A : Type 0} where
  pub written_none : (l : List A) → Written (length l) [] 0 l
  written_none l = record { same_length = refl; so_far = refl }

  -- a part more, in the place of as many elements
  pub written_more : {long : ℕ} {xs : List A} {at : ℕ} {l : List A} → Written long xs at l → (m : ℕ) (ys : List A) → length ys ≡ m → at + m ≤ long
      → Written long (xs ++ ys) (at + m) (take at l ++ (ys ++ drop m (drop at l)))
  written_more {long} {xs} {at} {l} w m ys e room = record { same_length = long'; so_far = so }
    where
      head : length (take at l) ≡ at
      head = length-take-le at l (omega (arith, w.same_length))

      long' : length (take at l ++ (ys ++ drop m (drop at l))) ≡ long
      long' = simp (length-append, length-drop) (omega (arith, head, w.same_length))

      both : length (take at l ++ ys) ≡ at + m
      both = simp length-append (omega (arith, head))

      so : take (at + m) (take at l ++ (ys ++ drop m (drop at l))) ≡ xs ++ ys
      so =
          ap (take (at + m)) (sym (append_assoc (take at l) ys (drop m (drop at l))))
          ∙ take_at (take at l ++ ys) (drop m (drop at l)) (at + m) both
          ∙ ap (λ (z : List A). z ++ ys) w.so_far

  -- written to its end it is xs
  pub written_all : {long : ℕ} {xs : List A} {at : ℕ} {l : List A} → Written long xs at l → at ≡ long → l ≡ xs
  written_all {at = at} {l = l} w e = sym (ap (λ (n : ℕ). take n l) (e ∙ sym w.same_length) ∙ take-length l) ∙ w.so_far
