-- Two lists, the second made of a part of the first; and each element of a list beside the others.
use Prim.Native.Nat.{ℕ, zero, suc, ◌<◌}
use Rattle.std.proofs.Common.{arith, le_of_suc-le-suc, sym, ◌∙◌}
use Rattle.std.specs.Prelude.{◌≡◌, Bool, cond, length, get_or}
use Rattle.std.proofs.Math.Path.{refl}
use Rattle.std.proofs.Math.Bool.{true, false}
use mathlib.Core.List.{List, [], ◌∷◌, ◌++◌, map}
use Rattle.lists.specs.Tests.{not_both}
use Rattle.lists.specs.Sums.{total}
use Rattle.lists.specs.Keep.{keep}
use Rattle.lists.specs.Parted.{Parted, each, each_from, end, gone, kept, rank}

-- ---- laws

pub rank_map : {A B : Type 0} (p : B → Bool) (f : A → B) (xs : List A) (k : ℕ) → rank p (map f xs) k ≡ rank (λ a. p (f a)) xs k
unfolding rank
rank_map p f [] k = refl
rank_map p f (a ∷ xs) zero = refl
rank_map p f (a ∷ xs) (suc k) = rw (rank_map p f xs k)

-- where none sees the others
each_from_map : {A B : Type 0} (f : A → B) (ws xs : List A) → each_from (λ a others. f a) ws xs ≡ map f xs
unfolding each_from
each_from_map f ws [] = refl
each_from_map f ws (a ∷ xs) = cc (each_from_map f (ws ++ (a ∷ [])) xs)

pub each_map : {A B : Type 0} (f : A → B) (xs : List A) → each (λ a others. f a) xs ≡ map f xs
unfolding each
each_map f xs = each_from_map f [] xs

-- what f does not change, each leaves in place
module _ {A C : Type 0} (h : A → C) (f : A → List A → A) (same : (a : A) (xs : List A) → h (f a xs) ≡ h a) where
  map-each_from : (ws xs : List A) → map h (each_from f ws xs) ≡ map h xs
  unfolding each_from
  map-each_from ws [] = refl
  map-each_from ws (a ∷ xs) = cc (same a (ws ++ xs), map-each_from (ws ++ (a ∷ [])) xs)

  pub map_each : (xs : List A) → map h (each f xs) ≡ map h xs
  unfolding each
  map_each xs = map-each_from [] xs

module _ {A B : Type 0} {K : A → B → Type 0} {G : A → Type 0} where
  -- what is left out gives nothing: the totals are equal
  pub total_parted : {S : Type 0} (nil : S) (plus : S → S → S) (f : A → S) (g : B → S) → ((t : S) → plus nil t ≡ t)
      → ((a : A) (b : B) → K a b → f a ≡ g b) → ((a : A) → G a → f a ≡ nil)
      → {xs : List A} {ys : List B} → Parted K G xs ys → total nil plus f xs ≡ total nil plus g ys
  unfolding total
  total_parted nil plus f g unit same away end = refl
  total_parted nil plus f g unit same away (kept {a = a} {b = b} h r) = cc (same a b h, total_parted nil plus f g unit same away r)
  total_parted nil plus f g unit same away (gone {a = a} {xs = xs} h r) =
      cc (away a h, unit (total nil plus f xs), total_parted nil plus f g unit same away r)

  -- what is made of the elements that are kept
  pub keep_parted : {C : Type 0} (p : C → Bool) (f : C → A) (g : C → B) → ((c : C) → p c ≡ true → K (f c) (g c)) → ((c : C) → p c ≡ false → G (f c))
      → (xs : List C) → Parted K G (map f xs) (map g (keep p xs))
  unfolding keep
  keep_parted p f g here away [] = end
  keep_parted {C = C} p f g here away (c ∷ xs) = go (p c) refl (keep_parted p f g here away xs)
    where
      go : (b : Bool) → p c ≡ b → Parted K G (map f xs) (map g (keep p xs)) → Parted K G (f c ∷ map f xs) (map g (cond b (c ∷ keep p xs) (keep p xs)))
      go true e r = kept (here c e) r
      go false e r = gone (away c e) r

  append_parted : {xs xs' : List A} {ys ys' : List B} → Parted K G xs ys → Parted K G xs' ys' → Parted K G (xs ++ xs') (ys ++ ys')
  append_parted end s = s
  append_parted (kept h r) s = kept h (append_parted r s)
  append_parted (gone h r) s = gone h (append_parted r s)

  gone_last : {xs : List A} {ys : List B} {a : A} → Parted K G xs ys → G a → Parted K G (xs ++ (a ∷ [])) ys
  gone_last end g = gone g end
  gone_last (kept h r) g = kept h (gone_last r g)
  gone_last (gone h r) g = gone h (gone_last r g)

  pub parted_also : (K' : A → B → Type 0) (G' : A → Type 0) → ((a : A) (b : B) → K a b → K' a b) → ((a : A) → G a → G' a)
      → {xs : List A} {ys : List B} → Parted K G xs ys → Parted K' G' xs ys
  parted_also K' G' f g end = end
  parted_also K' G' f g (kept {a = a} {b = b} h r) = kept (f a b h) (parted_also K' G' f g r)
  parted_also K' G' f g (gone {a = a} h r) = gone (g a h) (parted_also K' G' f g r)

  -- a change of each element beside the others
  module _ (K' : A → B → Type 0) (G' : A → Type 0) (f : A → List A → A) (g : B → List B → B)
      (fk : (a : A) (b : B) (xs : List A) (ys : List B) → K a b → Parted K G xs ys → K' (f a xs) (g b ys))
      (fg : (a : A) (xs : List A) → G a → G' (f a xs)) where
    each_from_parted : {ws xs : List A} {zs ys : List B} → Parted K G ws zs → Parted K G xs ys
        → Parted K' G' (each_from f ws xs) (each_from g zs ys)
    unfolding each_from
    each_from_parted p end = end
    each_from_parted {ws = ws} {zs = zs} p (kept {a = a} {b = b} h r) =
        kept (fk a b _ _ h (append_parted p r)) (each_from_parted {ws = ws ++ a ∷ []} {zs = zs ++ b ∷ []} (append_parted p (kept h end)) r)
    each_from_parted {ws = ws} p (gone {a = a} h r) = gone (fg a _ h) (each_from_parted {ws = ws ++ a ∷ []} (gone_last p h) r)

    pub each_parted : {xs : List A} {ys : List B} → Parted K G xs ys → Parted K' G' (each f xs) (each g ys)
    unfolding each
    each_parted r = each_from_parted end r

  -- a kept element and what is made of it: the k-th, and the one at its rank
  pub parted_at : (p : A → Bool) → ((a : A) (b : B) → K a b → p a ≡ true) → ((a : A) → G a → p a ≡ false)
      → (o : A) (o' : B) {xs : List A} {ys : List B} → Parted K G xs ys
      → (k : ℕ) → k < length xs → p (get_or xs k o) ≡ true → K (get_or xs k o) (get_or ys (rank p xs k) o')
  unfolding rank
  parted_at p fk fg o o' end k l e = absurd (omega arith)
  parted_at p fk fg o o' (kept h r) zero l e = h
  parted_at p fk fg o o' (gone {a = a} h r) zero l e = absurd (not_both (sym e ∙ fg a h))
  parted_at p fk fg o o' (kept {a = a} {b = b} h r) (suc k) l e =
      rw (fk a b h) (parted_at p fk fg o o' r k (le_of_suc-le-suc l) e)
  parted_at p fk fg o o' (gone {a = a} h r) (suc k) l e =
      rw (fg a h) (parted_at p fk fg o o' r k (le_of_suc-le-suc l) e)

-- a kept element stands among the kept at its rank
pub keep_at : {A : Type 0} (p : A → Bool) (o : A) (xs : List A) (k : ℕ) → k < length xs → p (get_or xs k o) ≡ true
    → (rank p xs k < length (keep p xs)) × (get_or (keep p xs) (rank p xs k) o ≡ get_or xs k o)
unfolding rank keep
keep_at p o [] k l e = absurd (omega arith)
keep_at p o (a ∷ xs) zero l e = rw e (omega arith, refl)
keep_at p o (a ∷ xs) (suc k) l e = go (p a) (keep_at p o xs k (le_of_suc-le-suc l) e)
  where
    go : (b : Bool) → (rank p xs k < length (keep p xs)) × (get_or (keep p xs) (rank p xs k) o ≡ get_or xs k o)
        → (cond b (suc (rank p xs k)) (rank p xs k) < length (cond b (a ∷ keep p xs) (keep p xs)))
        × (get_or (cond b (a ∷ keep p xs) (keep p xs)) (cond b (suc (rank p xs k)) (rank p xs k)) o ≡ get_or xs k o)
    go true (r, s) = (omega arith, s)
    go false h = h
