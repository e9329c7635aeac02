-- The stations near a grid row that are inside the radius at one of its points.
use Rattle.std.specs.Prelude.{ℕ, ◌+◌, ◌-◌, ◌*◌, ◌≤◌, ◌≡◌, refl, Bool, true, false, cond, List, [], ◌∷◌, length, ltb, get_or, take, drop, sum_by, count_by, pos, nat_abs, ◌-ℤ◌}
use mir.Val.{bool_byte}
use Rattle.std.proofs.Common.{arith, sym, ap, ◌∙◌}
use Rattle.std.proofs.lemmas.List.Sums.{sum_by-cons}
use Rattle.std.proofs.Math.Seq.{take-length}
use Rattle.lists.specs.Sums.{up_to, front}
use Rattle.scheme.specs.Units.{step}
use Rattle.scheme.specs.Weight.{square}
use Rattle.scheme.specs.Most.{most_along, most_square}
use Rattle.scan_along.specs.Streak.{still}
use Rattle.scan_lone.specs.declared.Near.{Near}

-- where there is none
abbrev pub nobody : Near
nobody = record { x = pos 0; gap = 0; d = pos 0; streak = still }

-- the squared distance to the point in column i
abbrev pub distance : Near → ℕ → ℕ
distance s i = square (s.x -ℤ pos (step * i)) + s.gap

pub record Placed (s : Near) : Type 0 where
  pub x_small : nat_abs s.x ≤ most_along
  pub y_small : s.gap ≤ most_square

-- 1 for an entry that is inside at column i, and else 0
unfoldable pub inside_in : (near : List Near) (r2 i t : ℕ) → ℕ
inside_in near r2 i t = cond (ltb (distance (get_or near t nobody) i) r2) 1 0

-- a test, as code counts it: one more where it holds
pub counted : (b c : Bool) → b ≡ c → bool_byte b ≡ cond {A = ℕ} c 1 0
counted true c e = rw (← e) refl
counted false c e = rw (← e) refl

-- a sum over a list is one over its index
sum_at : (f : Near → ℕ) (xs : List Near) → sum_by f xs ≡ up_to 0 ◌+◌ (length xs) (λ t. f (get_or xs t nobody))
sum_at f [] = unfold up_to in refl
sum_at f (x ∷ xs) =
    sum_by-cons f x xs
    ∙ ap (λ (n : ℕ). f x + n) (sum_at f xs)
    ∙ sym (front 0 ◌+◌ (λ t. omega arith) (λ t. omega arith) (λ a b c. omega arith) (length xs) (λ t. f (get_or (x ∷ xs) t nobody)))

-- how many are inside
pub inside_counted : (near : List Near) (r2 i : ℕ) → count_by (λ s. ltb (distance s i) r2) near ≡ up_to 0 ◌+◌ (length near) (inside_in near r2 i)
unfolding inside_in
inside_counted near r2 i = sum_at (λ s. cond (ltb (distance s i) r2) 1 0) near

-- a count, four in a turn
abbrev pub one : (Near → Bool) → Near → ℕ
one p s = cond (p s) 1 0

pub count_four : (p : Near → Bool) (rest : List Near) → 4 ≤ length rest
    → count_by p rest ≡ one p (get_or rest 0 nobody) + one p (get_or rest 1 nobody) + one p (get_or rest 2 nobody) + one p (get_or rest 3 nobody) + count_by p (take (length rest - 4) (drop 4 rest))
count_four p [] h = absurd (omega arith)
count_four p (a ∷ []) h = absurd (omega arith)
count_four p (a ∷ b ∷ []) h = absurd (omega arith)
count_four p (a ∷ b ∷ c ∷ []) h = absurd (omega arith)
count_four p (a ∷ b ∷ c ∷ d ∷ xs) h =
    let e : length (a ∷ b ∷ c ∷ d ∷ xs) - 4 ≡ length xs = omega arith in
    rw (e, take-length xs)
    (omega (arith, sum_by-cons (one p) a (b ∷ c ∷ d ∷ xs), sum_by-cons (one p) b (c ∷ d ∷ xs), sum_by-cons (one p) c (d ∷ xs), sum_by-cons (one p) d xs))
