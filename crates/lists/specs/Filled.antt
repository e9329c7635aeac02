-- A slice that a loop fills by a function of the index, and the list that it then is.
use Rattle.std.specs.Prelude.{ℕ, ◌+◌, ◌≤◌, ◌<◌, ◌≡◌, refl, ◌⊎◌, List, length, get_or, set}
use Rattle.std.proofs.Common.{arith, ◌∙◌, inl, inr, length-set, get_or-set_same, get_or-set_other}
use Rattle.lists.specs.Tests.{lt_or_le}
use Rattle.lists.specs.Tab.{tab, is_tab}

-- l is l₀ with g's values at a, .., b - 1. o is what get_or gives past the end
pub record Filled {A : Type 0} (o : A) (g : ℕ → A) (a b : ℕ) (l₀ l : List A) : Type 0 where
  pub same_length : length l ≡ length l₀
  pub low : (k : ℕ) → k < a → get_or l k o ≡ get_or l₀ k o
  pub new : (k : ℕ) → a ≤ k → k < b → get_or l k o ≡ g k
  pub rest : (k : ℕ) → b ≤ k → get_or l k o ≡ get_or l₀ k o

module _ {A : Type 0} (o : A) where
  -- before the first turn
  pub filled_none : (g : ℕ → A) (a b : ℕ) (l : List A) → b ≡ a → Filled o g a b l l
  filled_none g a b l e =
      record { same_length = refl; low = λ k h. refl; new = λ k h m. absurd (omega arith); rest = λ k h. refl }

  -- a turn
  pub filled_set : (g : ℕ → A) (a b m : ℕ) (l₀ l : List A) (v : A) → m ≡ b + 1 → a ≤ b → b < length l → v ≡ g b
      → Filled o g a b l₀ l → Filled o g a m l₀ (set l b v)
  filled_set g a b m l₀ l v em hab hb e p =
      record {
        same_length = length-set l b v ∙ p.same_length;
        low = λ k h. get_or-set_other l b k v o (λ (q : k ≡ b). omega arith) ∙ p.low k h;
        new = λ k h u. go k h u (lt_or_le k b);
        rest = λ k h. get_or-set_other l b k v o (λ (q : k ≡ b). omega arith) ∙ p.rest k (omega arith);
      }
    where
      go : (k : ℕ) → a ≤ k → k < m → (k < b) ⊎ (b ≤ k) → get_or (set l b v) k o ≡ g k
      go k h u (inl q) = get_or-set_other l b k v o (λ (w : k ≡ b). omega arith) ∙ p.new k h q
      go k h u (inr q) = let w : k ≡ b = omega arith in rw w (get_or-set_same l b v o hb ∙ e)

  -- one part after another, as rows of a grid follow
  pub filled_join : (g g' : ℕ → A) (a b c : ℕ) (l₀ l l' : List A) → a ≤ b → b ≤ c → ((k : ℕ) → b ≤ k → k < c → g' k ≡ g k)
      → Filled o g a b l₀ l → Filled o g' b c l l' → Filled o g a c l₀ l'
  filled_join g g' a b c l₀ l l' hab hbc e p q =
      record {
        same_length = q.same_length ∙ p.same_length;
        low = λ k h. q.low k (omega arith) ∙ p.low k h;
        new = λ k h u. go k h u (lt_or_le k b);
        rest = λ k h. q.rest k h ∙ p.rest k (omega arith);
      }
    where
      go : (k : ℕ) → a ≤ k → k < c → (k < b) ⊎ (b ≤ k) → get_or l' k o ≡ g k
      go k h u (inl w) = q.low k w ∙ p.new k h w
      go k h u (inr w) = q.new k w u ∙ e k w u

  -- filled from end to end it is the table of g, whatever stood there
  pub filled_all : (g : ℕ → A) (n : ℕ) (l₀ l : List A) → length l₀ ≡ n → Filled o g 0 n l₀ l → l ≡ tab n g
  filled_all g n l₀ l e p = is_tab o n g l (p.same_length ∙ e) (λ k h. p.new k (omega arith) h)
