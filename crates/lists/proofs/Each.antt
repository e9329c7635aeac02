-- Each element of a list beside the others: laws of `each`.
use Prim.Native.Nat.{ℕ, zero, suc, ◌<◌}
use Rattle.std.proofs.Common.{arith, le_of_suc-le-suc, ◌∙◌}
use Rattle.std.specs.Prelude.{◌≡◌, Bool, eqb, length, get_or}
use Rattle.std.proofs.Math.Path.{refl, sym, ap}
use Rattle.std.proofs.Math.Bool.{cond}
use mathlib.Core.List.{List, [], ◌∷◌, ◌++◌, map, append_assoc}
use Rattle.std.proofs.Math.Dec.{eqb-zero-suc, eqb-suc-zero, eqb-suc-suc}
use Rattle.lists.specs.Tab.{tab, length-tab, get_or_tab, is_tab}
use Rattle.lists.specs.Sums.{total, up_to, front, up_to_same, total_tab}
use Rattle.lists.specs.Members.{All, none, more}
use Rattle.lists.specs.Parted.{each_from, each}
use Rattle.lists.specs.Each.{without}

-- ---- as many, and the k-th is f of the k-th and of all but it

module _ {A B : Type 0} (f : A → List A → B) where
  length-each_from : (ws xs : List A) → length (each_from f ws xs) ≡ length xs
  unfolding each_from
  length-each_from ws [] = refl
  length-each_from ws (a ∷ xs) = ap suc (length-each_from (ws ++ (a ∷ [])) xs)

  pub length-each : (xs : List A) → length (each f xs) ≡ length xs
  unfolding each
  length-each xs = length-each_from [] xs

  each_from_at : (o : A) (o' : B) (ws xs : List A) (k : ℕ) → k < length xs → get_or (each_from f ws xs) k o' ≡ f (get_or xs k o) (ws ++ without k xs)
  unfolding each_from without
  each_from_at o o' ws [] k h = absurd (omega arith)
  each_from_at o o' ws (a ∷ xs) zero h = refl
  each_from_at o o' ws (a ∷ xs) (suc k) h =
      each_from_at o o' (ws ++ (a ∷ [])) xs k (le_of_suc-le-suc h) ∙ ap (f (get_or xs k o)) (append_assoc ws (a ∷ []) (without k xs))

  pub each_at : (o : A) (o' : B) (xs : List A) (k : ℕ) → k < length xs → get_or (each f xs) k o' ≡ f (get_or xs k o) (without k xs)
  unfolding each
  each_at o o' xs k h = each_from_at o o' [] xs k h

  -- what holds of f of each, whatever the others are
  module _ (P : A → Type 0) (Q : B → Type 0) (so : (a : A) (others : List A) → P a → Q (f a others)) where
    all_each_from : (ws : List A) {xs : List A} → All P xs → All Q (each_from f ws xs)
    unfolding each_from
    all_each_from ws none = none
    all_each_from ws (more {a = a} {xs = xs} h r) = more (so a (ws ++ xs) h) (all_each_from (ws ++ (a ∷ [])) r)

    pub all_each : {xs : List A} → All P xs → All Q (each f xs)
    unfolding each
    all_each r = all_each_from [] r

-- ---- of a list made from another

map-append : {A B : Type 0} (g : A → B) (xs ys : List A) → map g (xs ++ ys) ≡ map g xs ++ map g ys
map-append g [] ys = refl
map-append {B = B} g (a ∷ xs) ys = ap (λ (r : List B). g a ∷ r) (map-append g xs ys)

module _ {A B C : Type 0} (f : B → List B → C) (g : A → B) where
  each_from_of_map : (ws xs : List A) → each_from f (map g ws) (map g xs) ≡ each_from (λ a others. f (g a) (map g others)) ws xs
  unfolding each_from
  each_from_of_map ws [] = refl
  each_from_of_map ws (a ∷ xs) =
      cc (map-append g ws xs, ap (λ (zs : List B). each_from f zs (map g xs)) (sym (map-append g ws (a ∷ []))) ∙ each_from_of_map (ws ++ (a ∷ [])) xs)

  pub each_of_map : (xs : List A) → each f (map g xs) ≡ each (λ a others. f (g a) (map g others)) xs
  unfolding each
  each_of_map xs = each_from_of_map [] xs

-- of a list turned element by element
module _ {A B : Type 0} (turn : A → B) (f : A → List A → A) (f' : B → List B → B) (same : (a : A) (others : List A) → f' (turn a) (map turn others) ≡ turn (f a others)) where
  each_from_turned : (ws xs : List A) → each_from f' (map turn ws) (map turn xs) ≡ map turn (each_from f ws xs)
  unfolding each_from
  each_from_turned ws [] = refl
  each_from_turned ws (a ∷ xs) =
      cc (
        ap (f' (turn a)) (sym (map-append turn ws xs)) ∙ same a (ws ++ xs),
        ap (λ (zs : List B). each_from f' zs (map turn xs)) (sym (map-append turn ws (a ∷ []))) ∙ each_from_turned (ws ++ (a ∷ [])) xs,
      )

  pub each_turned : (xs : List A) → each f' (map turn xs) ≡ map turn (each f xs)
  unfolding each
  each_turned xs = each_from_turned [] xs

-- of a table
pub each-tab : {A B : Type 0} (f : A → List A → B) (o : B) (n : ℕ) (r : ℕ → A) → each f (tab n r) ≡ tab n (λ k. f (r k) (without k (tab n r)))
each-tab f o n r = is_tab o n _ (each f (tab n r)) (length-each f (tab n r) ∙ length-tab n r) at
  where
    at : (k : ℕ) → k < n → get_or (each f (tab n r)) k o ≡ f (r k) (without k (tab n r))
    at k h =
        let l : k < length (tab n r) = rw (length-tab n r) h in
        each_at f (r k) o (tab n r) k l ∙ ap (λ a. f a (without k (tab n r))) (get_or_tab n r k (r k) h)

-- ---- the total over the others of a table: over its index, but for one

module _ {S : Type 0} (nil : S) (plus : S → S → S) (nil_plus : (t : S) → plus nil t ≡ t) (plus_nil : (t : S) → plus t nil ≡ t)
    (assoc : (a b c : S) → plus (plus a b) c ≡ plus a (plus b c)) {A : Type 0} (g : A → S) where
  pub total_without : (n k : ℕ) (r : ℕ → A) → total nil plus g (without k (tab n r)) ≡ up_to nil plus n (λ j. cond (eqb j k) nil (g (r j)))
  unfolding without tab total
  total_without zero k r = unfold up_to in refl
  total_without (suc n) zero r =
      total_tab nil plus nil_plus plus_nil assoc g n (λ j. r (suc j))
      ∙ up_to_same nil plus n _ (λ j. cond (eqb (suc j) 0) nil (g (r (suc j)))) (λ j h. rw (eqb-suc-zero j))
      ∙ sym (front nil plus nil_plus plus_nil assoc n (λ j. cond (eqb j 0) nil (g (r j))) ∙ nil_plus _)
  total_without (suc n) (suc k) r =
      ap (plus (g (r 0))) (total_without n k (λ j. r (suc j)) ∙ up_to_same nil plus n _ (λ j. cond (eqb (suc j) (suc k)) nil (g (r (suc j)))) (λ j h. rw (eqb-suc-suc j k)))
      ∙ sym (front nil plus nil_plus plus_nil assoc n (λ j. cond (eqb j (suc k)) nil (g (r j)))
      ∙ ap (λ (b : Bool). plus (cond b nil (g (r 0))) (up_to nil plus n (λ j. cond (eqb (suc j) (suc k)) nil (g (r (suc j)))))) (eqb-zero-suc k))
