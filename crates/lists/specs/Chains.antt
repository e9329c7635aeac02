-- Chains of the numbers below n that are of one kind: of each kind its last number is kept, and of each number the one before it of its kind. A
-- number is kept as one more than it is, so that 0 ends a chain.
use Prim.Native.Nat.{ℕ, zero, suc, ◌+◌, ◌≤◌, ◌<◌}
use native.Mathlib.Omega.{arith}
use Rattle.std.specs.Prelude.{◌≡◌, ◌⊎◌, true, false, List, eqb, get_or, set, length}
use Rattle.std.proofs.Math.Path.{refl, sym, ap}
use Rattle.std.proofs.Common.{◌∙◌, inl, inr, eqb-true, eq-eqb, ne_eqb, get_or-set_same, get_or-set_other}
use Rattle.std.proofs.Math.Bool.{cond}
use Rattle.std.proofs.lemmas.Bool.{eqb-false}
use Rattle.lists.specs.Tests.{lt_or_le, true_or_false}
use Rattle.lists.specs.Sums.{up_to}

-- the last number below n of the kind c, or 0 where there is none
unfoldable pub last : (kind : ℕ → ℕ) (c n : ℕ) → ℕ
last kind c zero = 0
last kind c (suc k) = cond (eqb (kind k) c) (suc k) (last kind c k)

-- the chains of so many kinds, of the numbers below n
pub record Chained (kind : ℕ → ℕ) (kinds n : ℕ) (heads next : List ℕ) : Type 0 where
  pub head : (c : ℕ) → c < kinds → get_or heads c 0 ≡ last kind c n
  pub link : (k : ℕ) → k < n → get_or next k 0 ≡ last kind (kind k) k

-- the sum of what the numbers below n give that are of the kind c
unfoldable pub sum_of : {S : Type 0} → S → (S → S → S) → (kind : ℕ → ℕ) (c : ℕ) → (ℕ → S) → ℕ → S
sum_of nil plus kind c f n = up_to nil plus n (λ k. cond (eqb (kind k) c) (f k) nil)

-- a chain is walked down to r: those passed give so_far, and with the others it is all
pub record Walked {S : Type 0} (nil : S) (plus : S → S → S) (kind : ℕ → ℕ) (c : ℕ) (f : ℕ → S) (n r : ℕ) (so_far all : S) : Type 0 where
  pub no_more : r ≤ n
  pub in_chain : last kind c r ≡ r
  pub sum : plus so_far (sum_of nil plus kind c f r) ≡ all

-- ---- laws

module _ (kind : ℕ → ℕ) (c : ℕ) where
  last_here : (k : ℕ) → kind k ≡ c → last kind c (suc k) ≡ suc k
  unfolding last
  last_here k e = rw (eq-eqb (kind k) c e)

  last_before : (k : ℕ) → (kind k ≡ c → ⊥) → last kind c (suc k) ≡ last kind c k
  unfolding last
  last_before k e = rw (ne_eqb (kind k) c e)

  pub last_most : (n : ℕ) → last kind c n ≤ n
  unfolding last
  last_most zero = omega arith
  last_most (suc k) = go (true_or_false (eqb (kind k) c)) (last_most k)
    where
      go : (eqb (kind k) c ≡ true) ⊎ (eqb (kind k) c ≡ false) → last kind c k ≤ k → cond (eqb (kind k) c) (suc k) (last kind c k) ≤ suc k
      go (inl e) h = rw e (omega arith)
      go (inr e) h = rw e (omega arith)

  -- what a chain shows is in it, and is its own last
  last_again : (n : ℕ) → last kind c (last kind c n) ≡ last kind c n
  last_again zero = unfold last in refl
  last_again (suc k) = go (true_or_false (eqb (kind k) c)) (last_again k)
    where
      go : (eqb (kind k) c ≡ true) ⊎ (eqb (kind k) c ≡ false) → last kind c (last kind c k) ≡ last kind c k
          → last kind c (last kind c (suc k)) ≡ last kind c (suc k)
      go (inl e) h = let s = last_here k (eqb-true (kind k) c e) in ap (last kind c) s
      go (inr e) h = rw (last_before k (eqb-false (kind k) c e)) h

  pub in_kind : (k : ℕ) → last kind c (suc k) ≡ suc k → kind k ≡ c
  in_kind k e = go (true_or_false (eqb (kind k) c))
    where
      go : (eqb (kind k) c ≡ true) ⊎ (eqb (kind k) c ≡ false) → kind k ≡ c
      go (inl t) = eqb-true (kind k) c t
      go (inr t) = absurd (omega (arith, last_before k (eqb-false (kind k) c t), last_most k, e))

-- ---- a loop makes them

module _ (kind : ℕ → ℕ) (kinds : ℕ) where
  pub chained_none : (heads next : List ℕ) → ((c : ℕ) → c < kinds → get_or heads c 0 ≡ 0) → Chained kind kinds 0 heads next
  unfolding last
  chained_none heads next h = record { head = h; link = λ k l. absurd (omega arith) }

  -- one more number, of the kind c
  pub chained_more : (n m c v : ℕ) (heads next : List ℕ) → m ≡ n + 1 → c ≡ kind n → c < kinds → c < length heads → n < length next → v ≡ get_or heads c 0
      → Chained kind kinds n heads next → Chained kind kinds m (set heads c m) (set next n v)
  chained_more n m c v heads next em ec small wide long ev p = record { head = head; link = link }
    where
      next_is : m ≡ suc n
      next_is = omega arith

      head : (b : ℕ) → b < kinds → get_or (set heads c m) b 0 ≡ last kind b m
      head b h = go (true_or_false (eqb (kind n) b))
        where
          go : (eqb (kind n) b ≡ true) ⊎ (eqb (kind n) b ≡ false) → get_or (set heads c m) b 0 ≡ last kind b m
          go (inl t) =
              let e = eqb-true (kind n) b t in
              let s : b ≡ c = sym (ec ∙ e) in
              ap (λ (i : ℕ). get_or (set heads c m) i 0) s ∙ get_or-set_same heads c m 0 wide ∙ sym (ap (last kind b) next_is ∙ last_here kind b n e ∙ sym next_is)
          go (inr t) =
              let e = eqb-false (kind n) b t in
              get_or-set_other heads c b m 0 (λ (q : b ≡ c). e (sym (q ∙ ec))) ∙ p.head b h ∙ sym (ap (last kind b) next_is ∙ last_before kind b n e)

      link : (k : ℕ) → k < m → get_or (set next n v) k 0 ≡ last kind (kind k) k
      link k h = go (lt_or_le k n)
        where
          go : (k < n) ⊎ (n ≤ k) → get_or (set next n v) k 0 ≡ last kind (kind k) k
          go (inl l) = get_or-set_other next n k v 0 (λ (q : k ≡ n). omega arith) ∙ p.link k l
          go (inr l) =
              let e : k ≡ n = omega arith in
              rw e (get_or-set_same next n v 0 long ∙ ev ∙ p.head c small ∙ ap (λ (b : ℕ). last kind b n) ec)

-- ---- and one walks them

module _ {S : Type 0} (nil : S) (plus : S → S → S) (plus_nil : (t : S) → plus t nil ≡ t)
    (assoc : (a b c : S) → plus (plus a b) c ≡ plus a (plus b c)) (comm : (a b : S) → plus a b ≡ plus b a) (kind : ℕ → ℕ) (c : ℕ) (f : ℕ → S) where
  abbrev sum_to : ℕ → S
  sum_to = sum_of nil plus kind c f

  sum_here : (k : ℕ) → kind k ≡ c → sum_to (suc k) ≡ plus (sum_to k) (f k)
  unfolding sum_of up_to
  sum_here k e = rw (eq-eqb (kind k) c e)

  sum_other : (k : ℕ) → (kind k ≡ c → ⊥) → sum_to (suc k) ≡ sum_to k
  unfolding sum_of up_to
  sum_other k e = rw (ne_eqb (kind k) c e) (plus_nil _)

  -- past the last there are none
  sum_last : (n : ℕ) → sum_to (last kind c n) ≡ sum_to n
  sum_last zero = unfold last in refl
  sum_last (suc k) = go (true_or_false (eqb (kind k) c)) (sum_last k)
    where
      go : (eqb (kind k) c ≡ true) ⊎ (eqb (kind k) c ≡ false) → sum_to (last kind c k) ≡ sum_to k → sum_to (last kind c (suc k)) ≡ sum_to (suc k)
      go (inl e) h = let s = last_here kind c k (eqb-true (kind k) c e) in ap sum_to s
      go (inr e) h = let s = last_before kind c k (eqb-false (kind k) c e) in ap sum_to s ∙ h ∙ sym (sum_other k (eqb-false (kind k) c e))

  -- from what was there before
  pub walk_start : (n : ℕ) (before : S) → Walked nil plus kind c f n (last kind c n) before (plus before (sum_to n))
  walk_start n before = record { no_more = last_most kind c n; in_chain = last_again kind c n; sum = ap (plus before) (sum_last n) }

  pub walk_turn : (n r k : ℕ) (so_far all : S) → r ≡ suc k → Walked nil plus kind c f n r so_far all
      → (kind k ≡ c) × Walked nil plus kind c f n (last kind (kind k) k) (plus so_far (f k)) all
  walk_turn n r k so_far all er w = (here, subst_kind)
    where
      here : kind k ≡ c
      here = in_kind kind c k (rw er at w.in_chain)

      rest : plus (plus so_far (f k)) (sum_to (last kind c k)) ≡ all
      rest =
          ap (plus (plus so_far (f k))) (sum_last k) ∙ assoc so_far (f k) (sum_to k)
          ∙ ap (plus so_far) (comm (f k) (sum_to k) ∙ sym (sum_here k here)) ∙ sym (ap (λ (i : ℕ). plus so_far (sum_to i)) er) ∙ w.sum

      next : Walked nil plus kind c f n (last kind c k) (plus so_far (f k)) all
      next = record { no_more = omega (arith, last_most kind c k, w.no_more); in_chain = last_again kind c k; sum = rest }

      subst_kind : Walked nil plus kind c f n (last kind (kind k) k) (plus so_far (f k)) all
      subst_kind = rw here next

  sum_none : sum_to 0 ≡ nil
  unfolding sum_of up_to
  sum_none = refl

  pub walk_end : (n r : ℕ) (so_far all : S) → r ≡ 0 → Walked nil plus kind c f n r so_far all → so_far ≡ all
  walk_end n r so_far all e w = sym (plus_nil so_far) ∙ ap (plus so_far) (sym (ap sum_to e ∙ sum_none)) ∙ w.sum
