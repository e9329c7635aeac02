-- The support byte: bit scan-1 is set exactly where some accepted row has a nonzero weight in that scan, and without smoothing a point
-- with no support keeps its first guess.
use Prim.Native.Nat.{ℕ, zero, suc, ◌+◌, ◌-◌, ◌*◌, ◌/◌, ◌%◌, ◌≤◌, ◌<◌, ◌^◌}
use native.Mathlib.Omega.{arith}
use Rattle.std.proofs.Common.{pow-suc, add-zero, sym, ◌∙◌, inl, inr, ltb-true, ltb-false, lt-ltb, eq-eqb, pow-add}
use Rattle.std.proofs.Math.Nat.{two-pow-succ, div-eq_of_lt, add-div_right, add-mul-div_right}
use Rattle.std.specs.Prelude.{◌≡◌, ◌⊎◌, ◌↔◌, Bool, ltb, ℤ, pos, ◌+ℤ◌}
use Rattle.std.proofs.Math.Path.{refl, ap}
use Rattle.std.proofs.Math.Bool.{true, false, cond}
use mathlib.Core.List.{List, [], ◌∷◌}
use Rattle.std.proofs.Math.Pow.{pow_pos}
use Rattle.std.proofs.Math.IntN.{+ℤ_idr}
use Rattle.lists.specs.Tests.{lt_or_le, true_or_false}
use Rattle.lists.specs.Sums.{total}
use Rattle.lists.specs.Parted.{each_from, each}
use Rattle.lists.specs.Members.{Some, some_also, some_share, share_some}
use Rattle.scheme.specs.Units.{Station, R, Request, guess}
use Rattle.scheme.specs.Verdicts.{is_accepted}
use Rattle.scheme.specs.Difference.{Row}
use Rattle.scheme.specs.Correction.{Sums, share, correction, backed_by}
use Rattle.scheme.specs.Gifts.{sums}
use Rattle.scheme.proofs.Gifts.{accepted_weight, rejected_gives_nothing}
use Rattle.scheme.specs.Scan.{differences, start, all_judged, rows_judged, sums_at, corrected, scan, after_within, after}
use Rattle.scheme.specs.Support.{Weighs, bit}

-- ---- bits of a byte that is made bit by bit, from the lowest on

bit_new : (m n : ℕ) (b : Bool) → n < 2 ^ m → bit m (n + cond b (2 ^ m) 0) ≡ b
unfolding bit
bit_new m n true h =
    let e : (n + 2 ^ m) / 2 ^ m ≡ 1 = add-div_right n (pow_pos m) ∙ ap (λ (t : ℕ). t + 1) (div-eq_of_lt h) in
    rw e
bit_new m n false h =
    let e : (n + 0) / 2 ^ m ≡ 0 = div-eq_of_lt (omega arith) in
    rw e

bit_old : (k m n : ℕ) (b : Bool) → k < m → bit k (n + cond b (2 ^ m) 0) ≡ bit k n
unfolding bit
bit_old k m n false h = rw (add-zero n)
bit_old k m n true h =
    let e : (n + 2 ^ m) / 2 ^ k ≡ n / 2 ^ k + 2 * 2 ^ (m - suc k) =
    ap (λ (t : ℕ). (n + t) / 2 ^ k) higher ∙ add-mul-div_right n (2 * 2 ^ (m - suc k)) (pow_pos k) in
    let f : (n / 2 ^ k + 2 * 2 ^ (m - suc k)) % 2 ≡ n / 2 ^ k % 2 = omega arith in
    rw (e, f)
  where
    higher : 2 ^ m ≡ 2 * 2 ^ (m - suc k) * 2 ^ k
    higher =
        let s : m ≡ m - suc k + suc k = omega arith in
        ap (λ (t : ℕ). 2 ^ t) s ∙ pow-add 2 (m - suc k) (suc k) ∙ omega (arith, ap (λ (t : ℕ). 2 ^ (m - suc k) * t) (pow-suc 2 k))

module _ (q : Request) (i j : ℕ) where
  -- the sum of weights at the point, in scan number k + 1
  abbrev pub weights_in : ℕ → ℕ
  weights_in k = (sums_at q k (after q k) i j).weights

  support_next : (m : ℕ) → (after q (suc m)).support i j ≡ (after q m).support i j + cond (ltb 0 (weights_in m)) (2 ^ m) 0
  unfolding after_within scan backed_by
  support_next m = refl

  -- no bit is set but those of the scans made
  pub support_small : (m : ℕ) → (after q m).support i j < 2 ^ m
  unfolding after_within start
  support_small zero = omega arith
  support_small (suc m) = go (ltb 0 (weights_in m)) (support_small m) (support_next m)
    where
      go : {s : ℕ} (b : Bool) → (after q m).support i j < 2 ^ m → s ≡ (after q m).support i j + cond b (2 ^ m) 0 → s < 2 ^ suc m
      go true h e = omega (arith, two-pow-succ m)
      go false h e = omega (arith, two-pow-succ m)

  pub support_bit : (m k : ℕ) → k < m → bit k ((after q m).support i j) ≡ ltb 0 (weights_in k)
  support_bit zero k h = absurd (omega arith)
  support_bit (suc m) k h = ap (bit k) (support_next m) ∙ go (lt_or_le k m) (support_bit m k)
    where
      go : (k < m) ⊎ (m ≤ k) → (k < m → bit k ((after q m).support i j) ≡ ltb 0 (weights_in k))
          → bit k ((after q m).support i j + cond (ltb 0 (weights_in m)) (2 ^ m) 0) ≡ ltb 0 (weights_in k)
      go (inl l) r = bit_old k m ((after q m).support i j) (ltb 0 (weights_in m)) l ∙ r l
      go (inr l) r =
          let e : k ≡ m = omega arith in
          rw e (bit_new m ((after q m).support i j) (ltb 0 (weights_in m)) (support_small m))

-- ---- a sum of weights is above 0 exactly where some accepted row has a nonzero weight

module _ (mode radius : ℕ) (D : Station → ℤ) (i j : ℕ) where
  -- the weight of a row at the point
  abbrev weight_of : Row → ℕ
  weight_of r = (share mode radius D i j r).weights

  weighs : (r : Row) → 0 < weight_of r → Weighs mode radius i j r
  weighs r h = go (true_or_false (is_accepted r.verdict))
    where
      go : (is_accepted r.verdict ≡ true) ⊎ (is_accepted r.verdict ≡ false) → Weighs mode radius i j r
      go (inl e) = (e, rw (← accepted_weight mode radius D i j r e) h)
      go (inr e) = absurd (let l : weight_of r ≡ 0 = rw (rejected_gives_nothing mode radius D i j r e, weight_of) in omega arith)

  weighed : (r : Row) → Weighs mode radius i j r → 0 < weight_of r
  weighed r w = rw (accepted_weight mode radius D i j r w.0) w.1

  weights_total : (rows : List Row) → (sums mode radius D rows i j).weights ≡ total 0 ◌+◌ weight_of rows
  unfolding total
  weights_total [] = refl
  weights_total (r ∷ rows) = ap (λ (t : ℕ). weight_of r + t) (weights_total rows)

-- bit k, of a scan that has been made, is set exactly where some accepted row has a nonzero weight in that scan
pub supported_exactly_where_a_mast_weighs : (q : Request) (m k i j : ℕ) → k < m
    → (bit k ((after q m).support i j) ≡ true) ↔ Some (Weighs q.plan.mode (R q.plan k) i j) (rows_judged q k (after q k))
supported_exactly_where_a_mast_weighs q m k i j h = (there, back)
  where
    same : weights_in q i j k ≡ total 0 ◌+◌ (weight_of q.plan.mode (R q.plan k) (differences q (after q k)) i j) (rows_judged q k (after q k))
    same = unfold sums_at in weights_total q.plan.mode (R q.plan k) (differences q (after q k)) i j (rows_judged q k (after q k))

    there : bit k ((after q m).support i j) ≡ true → Some (Weighs q.plan.mode (R q.plan k) i j) (rows_judged q k (after q k))
    there e =
        let l = ltb-true 0 (weights_in q i j k) (sym (support_bit q i j m k h) ∙ e) in
        some_also (λ r. 0 < weight_of q.plan.mode (R q.plan k) (differences q (after q k)) i j r) (Weighs q.plan.mode (R q.plan k) i j) (weighs q.plan.mode (R q.plan k) (differences q (after q k)) i j)
        (some_share (weight_of q.plan.mode (R q.plan k) (differences q (after q k)) i j) (rows_judged q k (after q k)) (rw same at l))

    back : Some (Weighs q.plan.mode (R q.plan k) i j) (rows_judged q k (after q k)) → bit k ((after q m).support i j) ≡ true
    back s =
        let l = share_some (weight_of q.plan.mode (R q.plan k) (differences q (after q k)) i j) (some_also (Weighs q.plan.mode (R q.plan k) i j) (λ r. 0 < weight_of q.plan.mode (R q.plan k) (differences q (after q k)) i j r) (weighed q.plan.mode (R q.plan k) (differences q (after q k)) i j) s) in
        support_bit q i j m k h ∙ lt-ltb 0 (weights_in q i j k) (rw same l)

-- ---- without smoothing, a point with no support keeps its first guess

no_correction : (rule : ℕ) (s : Sums) → s.weights ≡ 0 → correction rule s ≡ pos 0
unfolding correction
no_correction rule s e = rw (eq-eqb s.weights 0 e)

module _ (q : Request) (rough : q.plan.smooth ≡ false) (i j : ℕ) where
  pub unsupported_point_keeps_first_guess : (m : ℕ) → (after q m).support i j ≡ 0 → (after q m).field i j ≡ guess q i j
  unfolding after_within start scan
  unsupported_point_keeps_first_guess zero e = refl
  unsupported_point_keeps_first_guess (suc m) e =
      let (old, none) = parts ((after q m).support i j) (ltb 0 (weights_in q i j m)) (sym (support_next q i j m) ∙ e) in
      let w : weights_in q i j m ≡ 0 = zeroth (ltb-false 0 (weights_in q i j m) none) in
      same_field ∙ unmoved w ∙ unsupported_point_keeps_first_guess m old
    where
      parts : (s : ℕ) (b : Bool) → s + cond b (2 ^ m) 0 ≡ 0 → (s ≡ 0) × (b ≡ false)
      parts s true e = absurd (omega (arith, pow_pos m))
      parts s false e = (omega arith, refl)

      zeroth : {n : ℕ} → n ≤ 0 → n ≡ 0
      zeroth h = omega arith

      same_field : (scan q m (after q m)).field i j ≡ corrected q m (after q m) i j
      same_field = unfold scan in rw rough

      unmoved : weights_in q i j m ≡ 0 → corrected q m (after q m) i j ≡ (after q m).field i j
      unmoved w =
          unfold corrected in
          ap (λ (c : ℤ). (after q m).field i j +ℤ c) (no_correction q.plan.rule (sums_at q m (after q m) i j) w) ∙ +ℤ_idr ((after q m).field i j)

-- ---- with no stations there is no support

module _ (q : Request) (empty : q.stations ≡ []) where
  no_rows : (m : ℕ) → (after q m).rows ≡ []
  unfolding after_within start scan rows_judged all_judged each each_from
  no_rows zero = rw empty
  no_rows (suc m) = rw (no_rows m)

  no_weights : (m i j : ℕ) → weights_in q i j m ≡ 0
  unfolding sums_at total rows_judged all_judged each each_from
  no_weights m i j =
      ap (λ (rows : List Row). (sums q.plan.mode (R q.plan m) (differences q (after q m)) (all_judged q.plan m (differences q (after q m)) rows) i j).weights)
      (no_rows m)

  pub no_stations_no_support : (m i j : ℕ) → (after q m).support i j ≡ 0
  unfolding after_within start
  no_stations_no_support zero i j = refl
  no_stations_no_support (suc m) i j = support_next q i j m ∙ rw (no_weights m i j, no_stations_no_support m i j)
