-- Tests: what a boolean says, and what follows for a choice by it.
use Rattle.std.specs.Prelude.{ℕ, ◌≤◌, ◌<◌, ◌≡◌, refl, ◌⊎◌, Bool, true, false, not, cond, ◌&&◌, ◌||◌, T, leb, ltb}
use Rattle.std.proofs.Common.{arith, sym, ◌∙◌, inl, inr, lt-ltb, le-ltb, le-leb, ltb→lt, nltb→le}
use Rattle.std.proofs.lemmas.Bool.{lt-leb}

pub lt_or_le : (a b : ℕ) → (a < b) ⊎ (b ≤ a)
lt_or_le a b = go (ltb a b) (ltb→lt a b) (nltb→le a b)
  where
    go : (t : Bool) → (T t → a < b) → (T (not t) → b ≤ a) → (a < b) ⊎ (b ≤ a)
    go true f g = inl (f tt)
    go false f g = inr (g tt)

pub true_or_false : (b : Bool) → (b ≡ true) ⊎ (b ≡ false)
true_or_false true = inl refl
true_or_false false = inr refl

pub not_both : true ≡ false → ⊥
not_both e = let z : ◌≡◌ {A = ℕ} 0 1 = cc in omega arith

pub and_true : (a b : Bool) → a && b ≡ true → (a ≡ true) × (b ≡ true)
and_true true b e = (refl, e)
and_true false b e = absurd (not_both (cc))

pub or_false : (a b : Bool) → a || b ≡ false → (a ≡ false) × (b ≡ false)
or_false true b e = absurd (not_both e)
or_false false b e = (refl, e)

-- two comparisons of which each says the other are one
pub ltb_same : (a b c d : ℕ) → (a < b → c < d) → (c < d → a < b) → ltb a b ≡ ltb c d
ltb_same a b c d f g = go (lt_or_le a b) (lt_or_le c d)
  where
    go : (a < b) ⊎ (b ≤ a) → (c < d) ⊎ (d ≤ c) → ltb a b ≡ ltb c d
    go (inl p) q = lt-ltb a b p ∙ sym (lt-ltb c d (f p))
    go (inr p) (inl q) = lt-ltb a b (g q) ∙ sym (lt-ltb c d q)
    go (inr p) (inr q) = le-ltb a b p ∙ sym (le-ltb c d q)

pub leb_same : (a b c d : ℕ) → (a ≤ b → c ≤ d) → (c ≤ d → a ≤ b) → leb a b ≡ leb c d
leb_same a b c d f g = go (lt_or_le b a) (lt_or_le d c)
  where
    go : (b < a) ⊎ (a ≤ b) → (d < c) ⊎ (c ≤ d) → leb a b ≡ leb c d
    go (inr p) q = le-leb a b p ∙ sym (le-leb c d (f p))
    go (inl p) (inr q) = le-leb a b (g q) ∙ sym (le-leb c d q)
    go (inl p) (inl q) = lt-leb a b p ∙ sym (lt-leb c d q)

-- a choice by a test is settled by what the test says
module _ {A : Type 0} where
  pub cond_same : (b : Bool) (x y z : A) → (b ≡ true → x ≡ z) → (b ≡ false → y ≡ z) → cond b x y ≡ z
  cond_same true x y z f g = f refl
  cond_same false x y z f g = g refl

-- and what holds of both holds of the choice
pub cond_both : {A : Type 0} (P : A → Type 0) (b : Bool) (x y : A) → (b ≡ true → P x) → (b ≡ false → P y) → P (cond b x y)
cond_both P true x y f g = f refl
cond_both P false x y f g = g refl
