-- "This double is exact": a whole number below 2^53 as a double, divided by a power of 2, loses nothing. So no reading and no summary is
-- rounded, over any i32 values and any grid.
use Rattle.std.specs.Prelude.{ℕ, zero, suc, ◌+◌, ◌-◌, ◌*◌, ◌^◌, ◌≤◌, ◌<◌, ◌≡◌, ◌⊎◌, Bool, not, cond, ◌||◌, List, [], ◌∷◌, T, eqb, length, get_or, ℤ, pos, negsuc, nat_abs, ◌+ℤ◌, ◌-ℤ◌, ◌*ℤ◌, Float}
use Rattle.std.proofs.Common.{arith, mul_assoc, mul-pos, zero-mul, mul-le-mul_left, le_of_lt, lt_of_lt_of_le, sym, ap, ◌∙◌, inl, inr, ne_eqb, pow_pos, pow_mono, pow-add, shl_lt, SFits}
use Rattle.std.proofs.Math.Nat.{eq_of_mul-eq-mul_right}
use Rattle.std.proofs.Math.Path.{refl}
use Rattle.std.proofs.Math.Bool.{true, false}
use Rattle.std.specs.Int.Signed.{le_z}
use Rattle.std.specs.Float.{nan, inf, fin, binary64}
use Rattle.std.specs.Float.Ieee.{up, down, unlike, fits, round, div, of_int}
use Rattle.std.specs.Float.Ieee.Fits.{down_pos, div-fits, of_int-fits}
use Rattle.std.specs.Float.Ieee.Exact.{HasValue, round_exact}
use Rattle.std.specs.Float.Ieee.Back.{round_whole, whole_unique}
use Rattle.std.specs.Float.Ieee.Scale.{round_same}
use Rattle.std.specs.Int.{w32}
use Rattle.integers.specs.Parts as parts
use Rattle.integers.specs.Sizes.{size_add, size_mul}
use Rattle.integers.specs.Order.{most_parts, not_most_parts}
use Rattle.integers.specs.Words.{size_fits}
use Rattle.lists.specs.Tests.{cond_both, true_or_false}
use Rattle.lists.specs.Members.{All, none, more, all_also}
use Rattle.scheme.specs.declared.Reading.{Reading}
use Rattle.scheme.specs.declared.Reading.TheVariants.{Backed, FirstGuess, OffGrid, Refused}
use Rattle.scheme.specs.declared.Units.{Units}
use Rattle.scheme.specs.Units.{Field, field_of}
use Rattle.scheme.specs.Refusals.{Refusal, accepted, refused, unless_refused, summary_refusal, reading_refusal, refused_with, bad_shape}
use Rattle.scheme.specs.Verdicts.{on_grid}
use Rattle.scheme.specs.Value.{place, cell, corners, sum_at}
use Rattle.scheme.specs.Readings.{double, positive_zero, is_backed, reading_in, reading, numbers_of, value_of, lowest, highest, zeros, units_of, summary}
use Rattle.scheme.specs.Accepted.{Shaped}
use Rattle.scheme.proofs.Accepted.{shaped}
use Rattle.scheme.proofs.Cells.{cell_low, cell_high}
use Rattle.scheme.specs.Bounds.{Within}
use Rattle.scheme.specs.Exact.{IsZero, ZerosPositive, greater, lesser, negative}

-- a double that is exactly n / d: finite, of n's sign, of that size, and written in the one way that a double has
pub record Exactly (x : Float) (n : ℤ) (d : ℕ) : Type 0 where
  pub value : HasValue x (negative n) (nat_abs n) d
  pub held : T (fits binary64 x)

-- ---- Zero is positive zero

pub positive-zero : Exactly positive_zero (pos 0) 1
unfolding positive_zero of_int
positive-zero = record { value = round_whole binary64 false 0 (omega arith); held = of_int-fits binary64 (pos 0) }

pub zero_is_positive : (x : Float) (d : ℕ) → 0 < d → Exactly x (pos 0) d → x ≡ positive_zero
zero_is_positive x d some e =
    whole_unique binary64 x positive_zero false 0 e.held positive-zero.held (go x e.value) positive-zero.value
  where
    go : (x : Float) → HasValue x false 0 d → HasValue x false 0 1
    go nan v = v
    go (inf t) v = v
    go (fin t m e) v = (v.0, omega (arith, eq_of_mul-eq-mul_right d some (m * up e) 0 (v.1 ∙ omega arith)))

-- ---- a quotient of two whole numbers that are doubles

unlike_positive : (s : Bool) → unlike s false ≡ s
unlike_positive true = refl
unlike_positive false = refl

-- n is the fraction N / D and d is M / F: then n / d is (N · F) / (M · D)
quotient_of : (n d N D M F : ℕ) → N ≡ n * D → M ≡ d * F → N * F * d ≡ n * (M * D)
quotient_of n d N D M F e f = rw (e, f) (omega arith)

divided : (x y : Float) (s : Bool) (n d : ℕ) → 0 < d → HasValue x s n 1 → HasValue y false d 1 → div binary64 x y ≡ round binary64 s n d
unfolding div
divided nan y s n d h v w = absurd v
divided (inf t) y s n d h v w = absurd v
divided (fin t a e) nan s n d h v w = absurd w
divided (fin t a e) (inf u) s n d h v w = absurd w
divided (fin t a e) (fin u b f) s n d h v w =
    rw (v.0, w.0, unlike_positive s, some_digits)
    (round_same binary64 s (a * up e * down f) (b * up f * down e) n d (rw divisor (mul-pos (mul-pos h (down_pos f)) (down_pos e))) h
    (quotient_of n d (a * up e) (down e) (b * up f) (down f) (omega (arith, v.1)) divisor))
  where
    divisor : b * up f ≡ d * down f
    divisor = omega (arith, w.1)

    some_digits : eqb b 0 ≡ false
    some_digits = ne_eqb b 0 (λ (z : b ≡ 0). let k = rw z at divisor in omega (arith, mul-pos h (down_pos f)))

whole : (n : ℤ) → nat_abs n ≤ 2 ^ 53 → HasValue (of_int binary64 n) (negative n) (nat_abs n) 1
unfolding of_int
whole (pos n) h = round_whole binary64 false n h
whole (negsuc n) h = round_whole binary64 true (suc n) h

-- dividing by a power of 2 moves the point, and no digit is lost
moved : (s : Bool) (n k : ℕ) → n < 2 ^ 53 → k ≤ 53 → HasValue (round binary64 s n (2 ^ k)) s n (2 ^ k)
moved s n k h few = round_exact binary64 s n (2 ^ k) n (1074 - k) (pow_pos k) h room shifted
  where
    room : n * 2 ^ (1074 - k) < 2 ^ 2098
    room = lt_of_lt_of_le (shl_lt 53 (1074 - k) h) (pow_mono {i = 53 + (1074 - k)} {j = 2098} (omega arith))

    shifted : n * 2 ^ 1074 ≡ n * 2 ^ (1074 - k) * 2 ^ k
    shifted =
        let e : 1074 ≡ (1074 - k) + k = omega arith in
        ap (λ (j : ℕ). n * 2 ^ j) e ∙ ap (λ (p : ℕ). n * p) (pow-add 2 (1074 - k) k) ∙ sym (mul_assoc n (2 ^ (1074 - k)) (2 ^ k))

-- conversion and division lose nothing
pub exact : (n : ℤ) (k : ℕ) → nat_abs n < 2 ^ 53 → k ≤ 53 → Exactly (double n (2 ^ k)) n (2 ^ k)
unfolding double
exact n k h few =
    record {
      value = rw quotient (moved (negative n) (nat_abs n) k h few);
      held = div-fits binary64 (of_int binary64 n) (of_int binary64 (pos (2 ^ k)));
    }
  where
    quotient : div binary64 (of_int binary64 n) (of_int binary64 (pos (2 ^ k))) ≡ round binary64 (negative n) (nat_abs n) (2 ^ k)
    quotient =
        divided (of_int binary64 n) (of_int binary64 (pos (2 ^ k))) (negative n) (nat_abs n) (2 ^ k) (pow_pos k) (whole n (le_of_lt h))
        (whole (pos (2 ^ k)) (pow_mono few))

-- ---- the interpolation sum: its shares are 4096 parts in all, so it is at most that many times the largest value

four_shares : (a b c d : ℕ) → a + c ≡ 64 → b + d ≡ 64 → c * d + a * d + c * b + a * b ≡ 4096
four_shares a b c d h k = let e : (a + c) * (b + d) ≡ 4096 = rw (h, k) in omega arith

share_size : (most w : ℕ) (v : ℤ) → nat_abs v ≤ most → nat_abs (pos w *ℤ v) ≤ w * most
share_size most w v h = rw (size_mul (pos w) v) (mul-le-mul_left w h)

shares_size : (most i j k l : ℕ) (p q r s : ℤ) → i + j + k + l ≡ 4096 → nat_abs p ≤ most → nat_abs q ≤ most → nat_abs r ≤ most → nat_abs s ≤ most
    → nat_abs (pos i *ℤ p +ℤ pos j *ℤ q +ℤ pos k *ℤ r +ℤ pos l *ℤ s) ≤ most * 4096
shares_size most i j k l p q r s e hp hq hr hs =
    let all : (i + j + k + l) * most ≡ 4096 * most = ap (λ (n : ℕ). n * most) e in
    omega (
      arith,
      size_add (pos i *ℤ p) (pos j *ℤ q),
      size_add (pos i *ℤ p +ℤ pos j *ℤ q) (pos k *ℤ r),
      size_add (pos i *ℤ p +ℤ pos j *ℤ q +ℤ pos k *ℤ r) (pos l *ℤ s),
      share_size most i p hp,
      share_size most j q hq,
      share_size most k r hr,
      share_size most l s hs,
    )

pub sum_size : (most nx ny x y : ℕ) (z : Field ℤ) → Within most z → 2 ≤ nx → 2 ≤ ny → x ≤ 64 * (nx - 1) → y ≤ 64 * (ny - 1)
    → nat_abs (sum_at nx ny z x y) ≤ most * 4096
unfolding sum_at corners
sum_size most nx ny x y z h two_columns two_rows on_x on_y =
    let m = cell nx x in
    let n = cell ny y in
    let a = x - 64 * m in
    let b = y - 64 * n in
    shares_size most ((64 - a) * (64 - b)) (a * (64 - b)) ((64 - a) * b) (a * b) (z m n) (z (m + 1) n) (z m (n + 1)) (z (m + 1) (n + 1))
    (four_shares a b (64 - a) (64 - b) (omega (arith, cell_low nx x, cell_high nx x two_columns on_x)) (omega (arith, cell_low ny y, cell_high ny y two_rows on_y)))
    (h m n) (h (m + 1) n) (h m (n + 1)) (h (m + 1) (n + 1))

-- ---- the point reading

-- the values of a field of i32, also where nothing is stored
value_size : {field : List ℤ} → All (SFits w32) field → (k : ℕ) → nat_abs (get_or field k (pos 0)) ≤ 2 ^ 31
value_size none k = omega arith
value_size (more {a = v} h rest) zero = size_fits w32 v h
value_size (more h rest) (suc k) = value_size rest k

on-grid : (n : ℕ) (x : ℤ) → place n x ≤ 64 * (n - 1)
unfolding place
on-grid n (pos x) = omega arith
on-grid n (negsuc x) = omega arith

-- a value that a reading gives is exactly n / 262,144
abbrev pub ReadsExactly : Reading → ℤ → Type 0
ReadsExactly (Backed value) n = Exactly value n 262144
ReadsExactly (FirstGuess value) n = Exactly value n 262144
ReadsExactly OffGrid n = Unit {0}
ReadsExactly Refused n = Unit {0}

-- at any position, whose place is on the grid
module _ (nx ny : ℕ) (field : List ℤ) (x y : ℤ) (i32 : All (SFits w32) field) where
  abbrev pub sum : ℤ
  sum = sum_at nx ny (field_of (pos 0) nx field) (place nx x) (place ny y)

  abbrev pub value : Float
  value = double (sum_at nx ny (field_of (pos 0) nx field) (place nx x) (place ny y)) 262144

  module _ (two_columns : 2 ≤ nx) (two_rows : 2 ≤ ny) where
    pub reading_sum_size : nat_abs sum ≤ 2 ^ 43
    unfolding field_of
    reading_sum_size =
        sum_size (2 ^ 31) nx ny (place nx x) (place ny y) (field_of (pos 0) nx field) (λ i j. value_size i32 (j * nx + i)) two_columns two_rows
        (on-grid nx x) (on-grid ny y)

    pub reading_value_exact : Exactly value sum 262144
    reading_value_exact = exact sum 18 (omega (arith, reading_sum_size)) (omega arith)

  pub reading_exact : (support : List ℕ) → ReadsExactly (reading nx ny field support x y) sum
  unfolding reading reading_refusal refused_with reading_in
  reading_exact support = go (bad_shape nx ny (length field)) (not (eqb (length support) (length field))) (shaped nx ny (length field))
    where
      on : (on backed : Bool) → Exactly value sum 262144 → ReadsExactly (cond on (cond backed (Backed value) (FirstGuess value)) OffGrid) sum
      on false backed e = tt
      on true true e = e
      on true false e = e

      go : (bad other : Bool) → (bad ≡ false → Shaped nx ny (length field))
          → ReadsExactly (unless_refused (cond (bad || other) (refused 1 0) accepted) (reading_in nx ny (field_of (pos 0) nx field) (field_of 0 nx support) x y) Refused) sum
      go true other shape = tt
      go false true shape = tt
      go false false shape =
          let s = shape refl in
          on (on_grid nx ny x y) (is_backed nx ny (field_of 0 nx support) (place nx x) (place ny y)) (reading_value_exact s.two_columns s.two_rows)

-- ---- the summary

-- what holds of both holds of the lesser and of the greater
pub of_lesser : (P : ℤ → Type 0) (a b : ℤ) → P a → P b → P (lesser a b)
of_lesser P a b p q = cond_both P (le_z a b) a b (λ e. p) (λ e. q)

pub of_greater : (P : ℤ → Type 0) (a b : ℤ) → P a → P b → P (greater a b)
of_greater P a b p q = cond_both P (le_z a b) b a (λ e. q) (λ e. p)

-- a at most b, as omega reads it
AtMost : ℤ → ℤ → Type 0
AtMost a b = parts.up a + parts.dn b ≤ parts.up b + parts.dn a

lesser_is : (a b : ℤ) → AtMost (lesser a b) a × AtMost (lesser a b) b
unfolding AtMost
lesser_is a b =
    cond_both (λ (c : ℤ). AtMost c a × AtMost c b) (le_z a b) a b
    (λ e. (omega arith, most_parts a b e)) (λ e. (omega (arith, not_most_parts a b e), omega arith))

greater_is : (a b : ℤ) → AtMost a (greater a b) × AtMost b (greater a b)
unfolding AtMost
greater_is a b =
    cond_both (λ (c : ℤ). AtMost a c × AtMost b c) (le_z a b) b a
    (λ e. (most_parts a b e, omega arith)) (λ e. (omega arith, omega (arith, not_most_parts a b e)))

-- both ends of a field are found alike: one value after the other, the better is kept
module _ (better : ℤ → ℤ → ℤ) (best : ℤ → List ℤ → ℤ) (ended : (v : ℤ) → best v [] ≡ v)
    (next : (v w : ℤ) (rest : List ℤ) → best v (w ∷ rest) ≡ best (better v w) rest) where
  -- the best is one of them: what holds of each holds of it
  one_of : (P : ℤ → Type 0) → ((a b : ℤ) → P a → P b → P (better a b)) → (v : ℤ) {rest : List ℤ} → P v → All P rest → P (best v rest)
  one_of P either v p none = rw (ended v) p
  one_of P either v p (more {a = w} {xs = rest} q r) = rw (next v w rest) (one_of P either (better v w) (either v w p q) r)

  -- and no other is better
  best_of : (R : ℤ → ℤ → Type 0) → ((a : ℤ) → R a a) → ((a b c : ℤ) → R a b → R b c → R a c) → ((a b : ℤ) → R (better a b) a × R (better a b) b)
      → (v : ℤ) (rest : List ℤ) → All (R (best v rest)) (v ∷ rest)
  best_of R same through both v [] = rw (ended v) (more (same v) none)
  best_of R same through both v (w ∷ rest) =
      rw (next v w rest) (go (best (better v w) rest) (best_of R same through both (better v w) rest))
    where
      go : (b : ℤ) → All (R b) (better v w ∷ rest) → All (R b) (v ∷ w ∷ rest)
      go b (more h r) = more (through b (better v w) v h (both v w).0) (more (through b (better v w) w h (both v w).1) r)

pub lowest_is_one : (P : ℤ → Type 0) (v : ℤ) {rest : List ℤ} → P v → All P rest → P (lowest v rest)
unfolding lowest
lowest_is_one P = one_of lesser lowest (λ v. refl) (λ v w rest. refl) P (of_lesser P)

pub highest_is_one : (P : ℤ → Type 0) (v : ℤ) {rest : List ℤ} → P v → All P rest → P (highest v rest)
unfolding highest
highest_is_one P = one_of greater highest (λ v. refl) (λ v w rest. refl) P (of_greater P)

tested : (a b : ℤ) → AtMost a b → le_z a b ≡ true
unfolding AtMost
tested a b h = go (true_or_false (le_z a b))
  where
    go : (le_z a b ≡ true) ⊎ (le_z a b ≡ false) → le_z a b ≡ true
    go (inl e) = e
    go (inr e) = absurd (omega (arith, not_most_parts a b e))

pub lowest_is_least : (v : ℤ) (rest : List ℤ) → All (λ w. le_z (lowest v rest) w ≡ true) (v ∷ rest)
unfolding lowest
lowest_is_least v rest =
    all_also (AtMost (lowest v rest)) (λ w. le_z (lowest v rest) w ≡ true) (tested (lowest v rest))
    (best_of lesser lowest (λ v. refl) (λ v w rest. refl) AtMost (λ a. unfold AtMost in omega arith) (λ a b c h k. unfold AtMost in omega arith) lesser_is v rest)

pub highest_is_greatest : (v : ℤ) (rest : List ℤ) → All (λ w. le_z w (highest v rest) ≡ true) (v ∷ rest)
unfolding highest
highest_is_greatest v rest =
    all_also (λ w. AtMost w (highest v rest)) (λ w. le_z w (highest v rest) ≡ true) (λ w. tested w (highest v rest))
    (best_of greater highest (λ v. refl) (λ v w rest. refl) (λ a b. AtMost b a) (λ a. unfold AtMost in omega arith) (λ a b c h k. unfold AtMost in omega arith) greater_is v rest)

part_size : (z : ℤ) → SFits w32 z → (parts.up z ≤ 2147483647) × (parts.dn z ≤ 2147483648)
part_size (pos n) f = (omega (arith, f.sfits), omega arith)
part_size (negsuc n) f = (omega arith, omega (arith, f.sfits))

-- the span is not negative, and at most 2^32 - 1
spanned : (low high : ℤ) → SFits w32 low → SFits w32 high → le_z low high ≡ true
    → (high -ℤ low ≡ pos (nat_abs (high -ℤ low))) × (nat_abs (high -ℤ low) ≤ 4294967295)
spanned low high l h e = go (high -ℤ low) (parts.minus_parts high low)
  where
    go : (z : ℤ) → parts.up z + (parts.dn high + parts.up low) ≡ parts.dn z + (parts.up high + parts.dn low) → (z ≡ pos (nat_abs z)) × (nat_abs z ≤ 4294967295)
    go (pos n) k = (refl, omega (arith, part_size low l, part_size high h))
    go (negsuc n) k = absurd (omega (arith, most_parts low high e))

pub span_size : (v : ℤ) {rest : List ℤ} → SFits w32 v → All (SFits w32) rest
    → (let span = highest v rest -ℤ lowest v rest in (span ≡ pos (nat_abs span)) × (nat_abs span ≤ 4294967295))
span_size v {rest} f r =
    spanned (lowest v rest) (highest v rest) (lowest_is_one (SFits w32) v f r) (highest_is_one (SFits w32) v f r)
    (go (lowest v rest) (highest v rest) (lowest_is_least v rest) (highest_is_greatest v rest))
  where
    go : (low high : ℤ) → All (λ w. le_z low w ≡ true) (v ∷ rest) → All (λ w. le_z w high ≡ true) (v ∷ rest) → le_z low high ≡ true
    go low high (more h hs) (more k ks) = tested low high (unfold AtMost in omega (arith, most_parts low v h, most_parts v high k))

-- lowest, highest and their span, each exact in units
pub record ExactUnits (u : Units) (low high : ℤ) : Type 0 where
  pub lowest_exact : Exactly u.lowest low 64
  pub highest_exact : Exactly u.highest high 64
  pub span_exact : Exactly u.span (high -ℤ low) 64

units_exact : (v : ℤ) {rest : List ℤ} → SFits w32 v → All (SFits w32) rest → ExactUnits (units_of (v ∷ rest)) (lowest v rest) (highest v rest)
unfolding units_of
units_exact v {rest} f r =
    let low = lowest v rest in
    let high = highest v rest in
    record {
      lowest_exact = exact low 6 (omega (arith, size_fits w32 low (lowest_is_one (SFits w32) v f r))) (omega arith);
      highest_exact = exact high 6 (omega (arith, size_fits w32 high (highest_is_one (SFits w32) v f r))) (omega arith);
      span_exact = exact (high -ℤ low) 6 (omega (arith, (span_size v f r).1)) (omega arith);
    }

-- of any field of i32: refusal and place, and of one that is not refused its lowest and highest value and their span, exactly
pub summary_exact : (nx ny : ℕ) (v : ℤ) {rest : List ℤ} → SFits w32 v → All (SFits w32) rest → bad_shape nx ny (length (v ∷ rest)) ≡ false
    → ((summary nx ny (v ∷ rest)).refusal ≡ 0) × ((summary nx ny (v ∷ rest)).place ≡ 0)
    × ExactUnits (summary nx ny (v ∷ rest)).units (lowest v rest) (highest v rest)
unfolding summary summary_refusal refused_with
summary_exact nx ny v f r good = rw good (refl, refl, units_exact v f r)

-- and of one that is refused three zeros
pub refused_summary_is_zeros : (nx ny : ℕ) (field : List ℤ) → bad_shape nx ny (length field) ≡ true
    → summary nx ny field ≡ record { refusal = 1; place = 0; units = zeros }
unfolding summary summary_refusal refused_with
refused_summary_is_zeros nx ny field bad = rw bad

-- ---- so of each call that gives a double, one that is zero is positive zero

exact_zero : (x : Float) (n : ℤ) (k : ℕ) → Exactly x n (2 ^ k) → IsZero x → x ≡ positive_zero
exact_zero x n k e (s, z) = zero_is_positive x (2 ^ k) (pow_pos k) (rw (none x n e.value z) at e)
  where
    none : (x : Float) (n : ℤ) → HasValue x (negative n) (nat_abs n) (2 ^ k) → HasValue x s 0 1 → n ≡ pos 0
    none nan n v z = absurd v
    none (inf t) n v z = absurd v
    none (fin t m e) n v z = go n (size (nat_abs n) v.1 (omega (arith, z.1)))
      where
        go : (n : ℤ) → nat_abs n ≡ 0 → n ≡ pos 0
        go (pos n) h = ap pos h
        go (negsuc n) h = absurd (omega arith)

        size : (a : ℕ) → m * up e * 2 ^ k ≡ a * down e → m * up e ≡ 0 → a ≡ 0
        size a p q = eq_of_mul-eq-mul_right (down e) (down_pos e) a 0 (sym p ∙ (rw q (zero-mul (2 ^ k))) ∙ sym (zero-mul (down e)))

pub zero_reading_is_positive : (nx ny : ℕ) (field : List ℤ) (support : List ℕ) (x y : ℤ) → All (SFits w32) field
    → IsZero (value_of (reading nx ny field support x y)) → value_of (reading nx ny field support x y) ≡ positive_zero
zero_reading_is_positive nx ny field support x y i32 = go (reading nx ny field support x y) (reading_exact nx ny field x y i32 support)
  where
    go : (r : Reading) → ReadsExactly r (sum nx ny field x y i32) → IsZero (value_of r) → value_of r ≡ positive_zero
    go OffGrid e z = unfold numbers_of in refl
    go (FirstGuess v) e z = unfold numbers_of in exact_zero v _ 18 e (unfold numbers_of in z)
    go (Backed v) e z = unfold numbers_of in exact_zero v _ 18 e (unfold numbers_of in z)
    go Refused e z = unfold numbers_of in refl

pub zero_summary_is_positive : (nx ny : ℕ) (field : List ℤ) → All (SFits w32) field → ZerosPositive (summary nx ny field).units
unfolding summary
zero_summary_is_positive nx ny field i32 = go (summary_refusal nx ny (length field)) i32
  where
    all_zeros : ZerosPositive zeros
    all_zeros = record { lowest_zero = λ z. refl; highest_zero = λ z. refl; span_zero = λ z. refl }

    ends : {field : List ℤ} → All (SFits w32) field → ZerosPositive (units_of field)
    ends none = unfold units_of in all_zeros
    ends (more {a = v} {xs = rest} f r) =
        let e = units_exact v f r in
        record {
          lowest_zero = exact_zero _ _ 6 e.lowest_exact;
          highest_zero = exact_zero _ _ 6 e.highest_exact;
          span_zero = exact_zero _ _ 6 e.span_exact;
        }

    go : (f : Refusal) → All (SFits w32) field → ZerosPositive (unless_refused f (units_of field) zeros)
    go accepted i32 = ends i32
    go (refused number place) i32 = all_zeros
