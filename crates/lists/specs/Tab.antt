-- A list by a function of the index.
use Prim.Native.Nat.{ℕ, zero, suc, ◌+◌, ◌<◌}
use Rattle.std.proofs.Common.{arith, add-one, le_of_suc-le-suc, sym, ◌∙◌, ext_get_or}
use Rattle.std.specs.Prelude.{◌≡◌, length, get_or}
use Rattle.std.proofs.Math.Path.{refl, ap}
use mathlib.Core.List.{List, [], ◌∷◌, ◌++◌, map}

-- f 0, f 1, .. , n of them
unfoldable pub tab : {A : Type 0} → ℕ → (ℕ → A) → List A
tab zero f = []
tab (suc n) f = f 0 ∷ tab n (λ k. f (suc k))

-- ---- laws

module _ {A : Type 0} where
  pub length-tab : (n : ℕ) (f : ℕ → A) → length (tab n f) ≡ n
  unfolding tab
  length-tab zero f = refl
  length-tab (suc n) f = ap suc (length-tab n (λ k. f (suc k)))

  pub get_or_tab : (n : ℕ) (f : ℕ → A) (k : ℕ) (o : A) → k < n → get_or (tab n f) k o ≡ f k
  unfolding tab
  get_or_tab zero f k o h = absurd (omega arith)
  get_or_tab (suc n) f zero o h = refl
  get_or_tab (suc n) f (suc k) o h = get_or_tab n (λ i. f (suc i)) k o (le_of_suc-le-suc h)

  -- inside a list nothing past its end is seen
  pub get_d_any : (l : List A) (k : ℕ) (o o' : A) → k < length l → get_or l k o ≡ get_or l k o'
  get_d_any [] k o o' h = absurd (omega arith)
  get_d_any (a ∷ l) zero o o' h = refl
  get_d_any (a ∷ l) (suc k) o o' h = get_d_any l k o o' (le_of_suc-le-suc h)

  -- a list is the table of its elements
  pub tab_get_or : (l : List A) (o : A) → tab (length l) (λ k. get_or l k o) ≡ l
  unfolding tab
  tab_get_or [] o = refl
  tab_get_or (a ∷ l) o = ap (λ (r : List A). a ∷ r) (tab_get_or l o)

  -- a list that has f's value at each of n places is the table of f
  pub is_tab : (o : A) (n : ℕ) (f : ℕ → A) (l : List A) → length l ≡ n → ((k : ℕ) → k < n → get_or l k o ≡ f k) → l ≡ tab n f
  is_tab o n f l e h = ext_get_or o l (tab n f) (e ∙ sym (length-tab n f)) (λ k p. h k (below k p) ∙ sym (get_or_tab n f k o (below k p)))
    where
      below : (k : ℕ) → k < length l → k < n
      below k p = omega arith

  pub tab_same : (n : ℕ) (f g : ℕ → A) → ((k : ℕ) → k < n → f k ≡ g k) → tab n f ≡ tab n g
  tab_same n f g h = is_tab (f 0) n g (tab n f) (length-tab n f) (λ k p. get_or_tab n f k (f 0) p ∙ h k p)

-- equal tables are as long, and have the same at each place
pub tab_tells : {A : Type 0} (n m : ℕ) (f g : ℕ → A) → tab n f ≡ tab m g → (n ≡ m) × ((k : ℕ) → k < n → f k ≡ g k)
tab_tells {A = A} n m f g e = (long, λ k h. sym (get_or_tab n f k (f 0) h) ∙ ap (λ (l : List A). get_or l k (f 0)) e ∙ get_or_tab m g k (f 0) (omega (arith, long)))
  where
    long : n ≡ m
    long = sym (length-tab n f) ∙ ap length e ∙ length-tab m g

-- a table grows at its end, as a loop fills it
tab_last : {A : Type 0} (n : ℕ) (f : ℕ → A) → tab (suc n) f ≡ tab n f ++ (f n ∷ [])
unfolding tab
tab_last zero f = refl
tab_last {A = A} (suc n) f = ap (λ (l : List A). f 0 ∷ l) (tab_last n (λ k. f (suc k)))

pub tab_more : {A : Type 0} (n : ℕ) (f : ℕ → A) → tab (n + 1) f ≡ tab n f ++ (f n ∷ [])
tab_more n f = ap (λ (m : ℕ). tab m f) (add-one n) ∙ tab_last n f

pub tab_grows : {A : Type 0} (n : ℕ) (f g : ℕ → A) (a : A) → ((k : ℕ) → k < n → g k ≡ f k) → g n ≡ a → tab (n + 1) g ≡ tab n f ++ (a ∷ [])
tab_grows {A = A} n f g a h e =
    tab_more n g ∙ ap (λ (l : List A). l ++ (g n ∷ [])) (tab_same n g f h)
    ∙ ap (λ (b : A). tab n f ++ (b ∷ [])) e

pub map-tab : {A B : Type 0} (g : A → B) (n : ℕ) (f : ℕ → A) → map g (tab n f) ≡ tab n (λ k. g (f k))
unfolding tab
map-tab g zero f = refl
map-tab {B = B} g (suc n) f = ap {B = List B} (λ r. g (f 0) ∷ r) (map-tab g n (λ k. f (suc k)))
