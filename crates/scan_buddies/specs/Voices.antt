-- What a station hears adds in any order, and is small; and what it hears of those in some cells.
use Rattle.std.specs.Prelude.{ℕ, zero, suc, ◌+◌, ◌*◌, ◌≤◌, ◌<◌, ◌≡◌, refl, ◌⊎◌, Bool, true, false, cond, ◌&&◌, leb, ltb, eqb, ℤ, nat_abs, ◌+ℤ◌, ◌-ℤ◌}
use Rattle.std.proofs.Common.{arith, add_comm, ap, ap₂, ◌∙◌, inl, inr, lt-ltb, le-ltb, le-leb, eq-eqb, ne_eqb}
use Rattle.std.proofs.lemmas.Bool.{lt-leb}
use Rattle.std.proofs.Math.IntN.{+ℤ_comm}
use Rattle.integers.specs.Parts.{eq_parts, add_parts, minus_parts}
use Rattle.integers.specs.Sizes.{size_add, size_minus}
use Rattle.lists.specs.Tests.{lt_or_le, cond_both}
use Rattle.lists.specs.Sums.{up_to, up_to_same, up_to_both}
use Rattle.lists.specs.Chains.{sum_of, Walked}
use Rattle.scheme.specs.Units.{most_limit}
use Rattle.scheme.specs.Buddies.{Heard, silence, both}
use Rattle.scheme.proofs.Adding.{silence_both, both_silence, both_assoc}

-- from a count and a sum
abbrev pub told : ℕ → ℤ → Heard
told n s = record { count = n; sum = s }

pub both_comm : (a b : Heard) → both a b ≡ both b a
both_comm a b = ap₂ told (add_comm a.count b.count) (+ℤ_comm a.sum b.sum)

-- ---- of at most n stations

pub record OfAtMost (n : ℕ) (h : Heard) : Type 0 where
  pub few : h.count ≤ n
  pub small : nat_abs h.sum ≤ n * most_limit

pub of_none : (n : ℕ) → OfAtMost n silence
of_none n = record { few = omega arith; small = omega arith }

pub of_one : (d : ℤ) → nat_abs d ≤ most_limit → OfAtMost 1 (told 1 d)
of_one d h = record { few = omega arith; small = omega arith }

pub of_more : (n m : ℕ) (h : Heard) → n ≤ m → OfAtMost n h → OfAtMost m h
of_more n m h l p = record { few = omega (arith, p.few); small = omega (arith, p.small) }

pub of_both : (n m : ℕ) (a b : Heard) → OfAtMost n a → OfAtMost m b → OfAtMost (n + m) (both a b)
of_both n m a b p q =
    record { few = omega (arith, p.few, q.few); small = omega (arith, size_add a.sum b.sum, p.small, q.small) }

pub sum_of_most : (n : ℕ) (f : ℕ → Heard) → ((j : ℕ) → j < n → OfAtMost 1 (f j)) → OfAtMost n (up_to silence both n f)
unfolding up_to
sum_of_most zero f h = of_none 0
sum_of_most (suc n) f h =
    let so_far = sum_of_most n f (λ j l. h j (omega arith)) in
    let one = h n (omega arith) in
    record {
      few = omega (arith, so_far.few, one.few);
      small = omega (arith, so_far.small, one.small, size_add (up_to silence both n f).sum (f n).sum);
    }

-- ---- of those in the cells low, .. , high - 1

abbrev pub between : (low high a : ℕ) → Bool
between low high a = leb low a && ltb a high

unfoldable pub from_cells : (cell : ℕ → ℕ) (n low high : ℕ) → (ℕ → Heard) → Heard
from_cells cell n low high f = up_to silence both n (λ j. cond (between low high (cell j)) (f j) silence)

pub among_them : (low high a : ℕ) → low ≤ a → a < high → between low high a ≡ true
among_them low high a h l = rw (le-leb low a h, lt-ltb a high l)

pub below_them : (low high a : ℕ) → a < low → between low high a ≡ false
below_them low high a h = rw (lt-leb low a h)

pub beyond_them : (low high a : ℕ) → high ≤ a → between low high a ≡ false
beyond_them low high a h = rw (le-ltb a high h) (never (leb low a))
  where
    never : (b : Bool) → (b && false) ≡ false
    never true = refl
    never false = refl

-- cells after other cells
pub from_join : (cell : ℕ → ℕ) (n low mid high : ℕ) (f : ℕ → Heard) → low ≤ mid → mid ≤ high
    → both (from_cells cell n low mid f) (from_cells cell n mid high f) ≡ from_cells cell n low high f
unfolding from_cells
from_join cell n low mid high f h l =
    up_to_both silence both silence_both both_assoc both_comm n (λ j. cond (between low mid (cell j)) (f j) silence) (λ j. cond (between mid high (cell j)) (f j) silence)
    ∙ up_to_same silence both n _ _ (λ j m. here (cell j) (f j) (lt_or_le (cell j) mid) (lt_or_le (cell j) low) (lt_or_le (cell j) high))
  where
    here : (a : ℕ) (v : Heard) → (a < mid) ⊎ (mid ≤ a) → (a < low) ⊎ (low ≤ a) → (a < high) ⊎ (high ≤ a)
        → both (cond (between low mid a) v silence) (cond (between mid high a) v silence) ≡ cond (between low high a) v silence
    here a v (inl p) (inl q) r = rw (below_them low mid a q, below_them mid high a p, below_them low high a q) (silence_both silence)
    here a v (inl p) (inr q) r = rw (among_them low mid a q p, below_them mid high a p, among_them low high a q (omega arith)) (both_silence v)
    here a v (inr p) q (inl r) = rw (beyond_them low mid a p, among_them mid high a p r, among_them low high a (omega arith) r) (silence_both v)
    here a v (inr p) q (inr r) = rw (beyond_them low mid a p, beyond_them mid high a r, beyond_them low high a r) (silence_both silence)

-- one more cell, with what was heard before
pub from_more : (cell : ℕ → ℕ) (n low i : ℕ) (f : ℕ → Heard) (before h h' : Heard) → h ≡ both before (from_cells cell n low (low + i) f)
    → h' ≡ both h (from_cells cell n (low + i) (low + i + 1) f) → h' ≡ both before (from_cells cell n low (low + (i + 1)) f)
from_more cell n low i f before h h' e e' =
    let last : low + i + 1 ≡ low + (i + 1) = omega arith in
    e' ∙ ap (λ (t : Heard). both t (from_cells cell n (low + i) (low + i + 1) f)) e
    ∙ both_assoc before (from_cells cell n low (low + i) f) (from_cells cell n (low + i) (low + i + 1) f)
    ∙ ap (both before) (from_join cell n low (low + i) (low + i + 1) f (omega arith) (omega arith) ∙ ap (λ (high : ℕ). from_cells cell n low high f) last)

-- none
nobody : (n : ℕ) → up_to silence both n (λ j. silence) ≡ silence
unfolding up_to
nobody zero = refl
nobody (suc n) = ap (λ (h : Heard). both h silence) (nobody n)

pub from_none : (cell : ℕ → ℕ) (n low high : ℕ) (f : ℕ → Heard) → high ≡ low → from_cells cell n low high f ≡ silence
unfolding from_cells
from_none cell n low high f e = up_to_same silence both n _ (λ j. silence) (λ j h. here (cell j) (f j) (lt_or_le (cell j) low)) ∙ nobody n
  where
    here : (a : ℕ) (v : Heard) → (a < low) ⊎ (low ≤ a) → cond (between low high a) v silence ≡ silence
    here a v (inl p) = rw (below_them low high a p)
    here a v (inr p) = rw (beyond_them low high a (omega arith))

-- one cell, whose chain is walked
pub from_one : (cell : ℕ → ℕ) (n c : ℕ) (f : ℕ → Heard) → sum_of silence both cell c f n ≡ from_cells cell n c (c + 1) f
unfolding sum_of from_cells
from_one cell n c f = up_to_same silence both n _ _ (λ j h. here (cell j) (f j) (lt_or_le (cell j) c) (lt_or_le c (cell j)))
  where
    here : (a : ℕ) (v : Heard) → (a < c) ⊎ (c ≤ a) → (c < a) ⊎ (a ≤ c) → cond (eqb a c) v silence ≡ cond (between c (c + 1) a) v silence
    here a v (inl p) q = rw (ne_eqb a c (λ e. omega arith), below_them c (c + 1) a p)
    here a v (inr p) (inl q) = rw (ne_eqb a c (λ e. omega arith), beyond_them c (c + 1) a (omega arith))
    here a v (inr p) (inr q) = rw (eq-eqb a c (omega arith), among_them c (c + 1) a p (omega arith))

-- they are few
pub from_few : (cell : ℕ → ℕ) (n low high : ℕ) (f : ℕ → Heard) → ((j : ℕ) → j < n → cell j < high → OfAtMost 1 (f j)) → OfAtMost n (from_cells cell n low high f)
unfolding from_cells
from_few cell n low high f h = sum_of_most n (λ j. cond (between low high (cell j)) (f j) silence) (λ j l. here j l (lt_or_le (cell j) high))
  where
    here : (j : ℕ) → j < n → (cell j < high) ⊎ (high ≤ cell j) → OfAtMost 1 (cond (between low high (cell j)) (f j) silence)
    here j l (inl p) = cond_both (OfAtMost 1) (between low high (cell j)) (f j) silence (λ e. h j l p) (λ e. of_none 1)
    here j l (inr p) = rw (beyond_them low high (cell j) p) (of_none 1)

-- a sum less its second part
size_first : (a b : ℤ) → nat_abs a ≤ nat_abs (a +ℤ b) + nat_abs b
size_first a b = omega (arith, size_minus (a +ℤ b) b, ap nat_abs back)
  where
    back : (a +ℤ b) -ℤ b ≡ a
    back = eq_parts ((a +ℤ b) -ℤ b) a (omega (arith, minus_parts (a +ℤ b) b, add_parts a b))

-- and so are those passed on a walk
pub walked_few : (cell : ℕ → ℕ) (c n r m : ℕ) (f : ℕ → Heard) (h all : Heard) → ((j : ℕ) → j < n → cell j < c + 1 → OfAtMost 1 (f j)) → OfAtMost m all
    → Walked silence both cell c f n r h all → OfAtMost (m + n) h
walked_few cell c n r m f h all some few w =
    record {
      few = omega (arith, count_is, few.few);
      small = omega (arith, size_first h.sum (sum_of silence both cell c f r).sum, ap nat_abs sum_is, few.small, rest.small, w.no_more);
    }
  where
    rest : OfAtMost r (sum_of silence both cell c f r)
    rest = rw (from_one cell r c f) (from_few cell r c (c + 1) f (λ j l. some j (omega (arith, w.no_more))))

    count_is : h.count + (sum_of silence both cell c f r).count ≡ all.count
    count_is = ap (λ (t : Heard). t.count) w.sum

    sum_is : h.sum +ℤ (sum_of silence both cell c f r).sum ≡ all.sum
    sum_is = ap (λ (t : Heard). t.sum) w.sum
