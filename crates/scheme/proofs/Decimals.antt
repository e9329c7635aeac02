-- Printed numbers, digit by digit, and how many digits they have.
use Rattle.std.specs.Prelude.{ℕ, zero, suc, ◌/◌, ◌%◌, ◌^◌, ◌≤◌, ◌<◌, ◌≡◌, refl, ◌⊎◌, List, [], ◌∷◌, ◌++◌, length, ℤ, pos, negsuc, nat_abs}
use Rattle.std.proofs.Common.{arith, pow-suc, sym, ap, ◌∙◌, inl, inr, lt-ltb, le-ltb, length-append}
use Rattle.lists.specs.Tests.{lt_or_le}
use Rattle.scheme.specs.Text.Printed.{spelled, decimal, integer}
use Rattle.scheme.specs.Decimals.{digit}

-- ---- digit by digit

spelled_one : (f n : ℕ) → n < 10 → spelled f n ≡ digit n ∷ []
unfolding spelled
spelled_one zero n h = refl
spelled_one (suc f) n h = rw (lt-ltb n 10 h, spelled)

spelled_more : (f n : ℕ) → 10 ≤ n → spelled (suc f) n ≡ spelled f (n / 10) ++ (digit (n % 10) ∷ [])
unfolding spelled
spelled_more f n h = rw (le-ltb n 10 h, spelled)

-- more steps than enough change nothing
enough : (f g n : ℕ) → n ≤ f → n ≤ g → spelled f n ≡ spelled g n
enough zero g n h k = spelled_one zero n (omega arith) ∙ sym (spelled_one g n (omega arith))
enough (suc f) zero n h k = spelled_one (suc f) n (omega arith) ∙ sym (spelled_one zero n (omega arith))
enough (suc f) (suc g) n h k = go (lt_or_le n 10) (λ u. enough f g (n / 10) (omega arith) (omega arith))
  where
    go : (n < 10) ⊎ (10 ≤ n) → (10 ≤ n → spelled f (n / 10) ≡ spelled g (n / 10)) → spelled (suc f) n ≡ spelled (suc g) n
    go (inl u) r = spelled_one (suc f) n u ∙ sym (spelled_one (suc g) n u)
    go (inr u) r =
        spelled_more f n u ∙ ap (λ (l : List ℕ). l ++ (digit (n % 10) ∷ [])) (r u) ∙ sym (spelled_more g n u)

pub decimal_one : (n : ℕ) → n < 10 → decimal n ≡ digit n ∷ []
unfolding decimal
decimal_one n h = spelled_one n n h

pub decimal_more : (n : ℕ) → 10 ≤ n → decimal n ≡ decimal (n / 10) ++ (digit (n % 10) ∷ [])
unfolding decimal
decimal_more zero h = absurd (omega arith)
decimal_more (suc m) h =
    spelled_more m (suc m) h
    ∙ ap (λ (l : List ℕ). l ++ (digit (suc m % 10) ∷ [])) (enough m (suc m / 10) (suc m / 10) (omega arith) (omega arith))

-- what holds of one digit, and of a number if it holds of the number without its last digit, holds of every number
pub digit_ind : (P : ℕ → Type 0) → ((n : ℕ) → n < 10 → P n) → ((n : ℕ) → 10 ≤ n → P (n / 10) → P n) → (n : ℕ) → P n
digit_ind P one more n = below n n (omega arith)
  where
    step : (f n : ℕ) → n ≤ suc f → ((m : ℕ) → m ≤ f → P m) → P n
    step f n h r = go (lt_or_le n 10)
      where
        go : (n < 10) ⊎ (10 ≤ n) → P n
        go (inl u) = one n u
        go (inr u) = more n u (r (n / 10) (omega arith))

    below : (f n : ℕ) → n ≤ f → P n
    below zero n h = one n (omega arith)
    below (suc f) n h = step f n h (below f)

-- ---- lengths

-- a number below 10 ^ (k + 1) has at most k + 1 digits
pub decimal_length : (k n : ℕ) → n < 10 ^ suc k → length (decimal n) ≤ suc k
decimal_length zero n h = rw (decimal_one n h) (omega arith)
decimal_length (suc k) n h = go (lt_or_le n 10) (decimal_length k (n / 10))
  where
    go : (n < 10) ⊎ (10 ≤ n) → (n / 10 < 10 ^ suc k → length (decimal (n / 10)) ≤ suc k) → length (decimal n) ≤ suc (suc k)
    go (inl u) r = rw (decimal_one n u) (omega arith)
    go (inr u) r =
        let e = r (omega (arith, pow-suc 10 (suc k))) in
        rw (decimal_more n u, length-append) (omega arith)

-- and a sign at most before them
pub integer_length : (k : ℕ) (z : ℤ) → nat_abs z < 10 ^ suc k → length (integer z) ≤ suc (suc k)
unfolding integer
integer_length k (pos n) h = omega (arith, decimal_length k n h)
integer_length k (negsuc n) h = omega (arith, decimal_length k (suc n) h)
