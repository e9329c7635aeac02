-- Every accepted run stays within -13,000,000..13,000,000 at every point, since each correction is at most E in size.
use Rattle.std.specs.Prelude.{ℕ, zero, suc, ◌+◌, ◌-◌, ◌*◌, ◌≤◌, ◌<◌, ◌≡◌, ◌⊎◌, ◌&&◌, List, eqb, length, get_or, ℤ, pos, nat_abs, ◌*ℤ◌}
use native.Mathlib.Omega.{arith}
use Rattle.std.proofs.Common.{mul-le-mul_left, inl, inr, eqb-true}
use Rattle.std.proofs.Math.ListN.{get_or-eq_default}
use Rattle.integers.specs.Sizes.{size_add, size_mul}
use Rattle.lists.specs.Tests.{lt_or_le, and_true, cond_both}
use Rattle.lists.specs.Sums.{total, up_to, up_to_size}
use Rattle.lists.specs.Members.{All, none, more, all_of}
use Rattle.scheme.specs.Units.{Field, field_of, Station, most_value, most_limit, listing_rule, R, E, Request, guess, Call, asked}
use Rattle.scheme.specs.Refusals.{accepted, analysis_refusal}
use Rattle.scheme.specs.Verdicts.{is_accepted}
use Rattle.scheme.specs.Rounding.{rounded}
use Rattle.scheme.specs.Difference.{Row}
use Rattle.scheme.specs.Weight.{scale}
use Rattle.scheme.specs.Correction.{Sums, nothing, share, is_lone, divisor, correction}
use Rattle.scheme.specs.Smoothing.{pattern_at, pattern_row, pattern_sum, inner, smoothed}
use Rattle.scheme.specs.Scan.{State, differences, start, rows_judged, sums_at, corrected, scan, after_within, after}
use Rattle.scheme.specs.Most.{most_field}
use Rattle.scheme.proofs.Nearest.{rounded_size}
use Rattle.scheme.specs.Gifts.{sums, Modest}
use Rattle.scheme.proofs.Gifts.{modest_nothing, modest_plus, gift_modest}
use Rattle.scheme.specs.Accepted.{Sound}
use Rattle.scheme.proofs.Accepted.{analysis_sound}
use Rattle.scheme.proofs.Judging.{judged_beside, all-judged, judged_station, accepted_passed}
use Rattle.scheme.specs.Bounds.{Passed, Small, Within}

-- ---- an accepted row has passed the E test

all_passed : (q : Request) (m : ℕ) (found : State) → All (Passed (E q.plan m) (differences q found)) (rows_judged q m found)
unfolding rows_judged
all_passed q m found =
    all-judged q.plan m (differences q found) (λ r. Unit {0}) (Passed (E q.plan m) (differences q found)) (λ r survivors u. one r survivors)
    (all_of (λ r. Unit {0}) (λ r. tt) found.rows)
  where
    one : (r : Row) (survivors : List Row) → Passed (E q.plan m) (differences q found) (judged_beside q.plan m (differences q found) r survivors)
    one r survivors e = rw (judged_station q.plan m (differences q found) r survivors) (accepted_passed q.plan m (differences q found) r survivors e)

-- ---- so the sum of weight·D is at most E times the sum of weights, and the quotient by that or by more at most E

share_modest : (mode radius limit : ℕ) (D : Station → ℤ) (i j : ℕ) (r : Row) → Passed limit D r → Modest limit (share mode radius D i j r)
unfolding share
share_modest mode radius limit D i j r h =
    cond_both (Modest limit) (is_accepted r.verdict) _ nothing
    (λ e. gift_modest mode (radius * radius) r.station.wind (D r.station) _ _ limit (h e)) (λ e. modest_nothing limit)

sums_modest : (mode radius limit : ℕ) (D : Station → ℤ) (i j : ℕ) {rows : List Row} → All (Passed limit D) rows → Modest limit (sums mode radius D rows i j)
unfolding total
sums_modest mode radius limit D i j none = modest_nothing limit
sums_modest mode radius limit D i j (more {a = r} {xs = rows} h rest) =
    modest_plus limit (share mode radius D i j r) (sums mode radius D rows i j) (share_modest mode radius limit D i j r h)
    (sums_modest mode radius limit D i j rest)

-- under either rule they are divided by no less than the sum of weights: the weight of a lone station is at most the scale
pub divisor_least : (rule limit : ℕ) (s : Sums) → Modest limit s → s.weights ≤ divisor rule s
unfolding divisor
divisor_least rule limit s h =
    cond_both (λ (d : ℕ). s.weights ≤ d) (eqb rule listing_rule && is_lone s) scale s.weights
    (λ e. omega (arith, h.weights_most, eqb-true s.inside 1 (and_true (eqb rule listing_rule) (is_lone s) e).1)) (λ e. omega arith)

pub correction_size : (rule limit : ℕ) (s : Sums) → Modest limit s → nat_abs (correction rule s) ≤ limit
unfolding correction
correction_size rule limit s h =
    cond_both (λ (c : ℤ). nat_abs c ≤ limit) (eqb s.weights 0) (pos 0) (rounded s.pulls (divisor rule s))
    (λ e. omega arith)
    (λ e. rounded_size s.pulls (divisor rule s) limit (omega (arith, h.pulls_most, mul-le-mul_left limit (divisor_least rule limit s h))))

-- each correction is at most E in size, whatever state the scan finds
pub correction_at_most_E : (q : Request) (m : ℕ) (found : State) (i j : ℕ) → nat_abs (correction q.plan.rule (sums_at q m found i j)) ≤ E q.plan m
unfolding sums_at
correction_at_most_E q m found i j =
    correction_size q.plan.rule (E q.plan m) _ (sums_modest q.plan.mode (R q.plan m) (E q.plan m) (differences q found) i j (all_passed q m found))

-- ---- smoothing makes nothing larger

pattern_row_size : (most : ℕ) (z : Field ℤ) → Within most z → (i j b : ℕ)
    → nat_abs (pattern_row z i j b) ≤ up_to 0 ◌+◌ 3 (λ a. pattern_at a b * most)
unfolding pattern_row
pattern_row_size most z h i j b =
    up_to_size 3 (λ a. pos (pattern_at a b) *ℤ z (i + a - 1) (j + b - 1)) (λ a. pattern_at a b * most)
    (λ a l. share a (z (i + a - 1) (j + b - 1)) (h (i + a - 1) (j + b - 1)))
  where
    share : (a : ℕ) (v : ℤ) → nat_abs v ≤ most → nat_abs (pos (pattern_at a b) *ℤ v) ≤ pattern_at a b * most
    share a v k = rw (size_mul (pos (pattern_at a b)) v) (mul-le-mul_left (pattern_at a b) k)

pattern_size : (most : ℕ) (z : Field ℤ) → Within most z → (i j : ℕ) → nat_abs (pattern_sum z i j) ≤ most * 16
unfolding pattern_sum
pattern_size most z h i j =
    omega (arith, all most, up_to_size 3 (pattern_row z i j) (λ b. up_to 0 ◌+◌ 3 (λ a. pattern_at a b * most)) (λ b l. pattern_row_size most z h i j b))
  where
    all : (most : ℕ) → up_to 0 ◌+◌ 3 (λ b. up_to 0 ◌+◌ 3 (λ a. pattern_at a b * most)) ≡ most * 16
    all most = unfold up_to in omega arith

smoothed_within : (most nx ny : ℕ) (z : Field ℤ) → Within most z → Within most (smoothed nx ny z)
unfolding smoothed
smoothed_within most nx ny z h i j =
    cond_both (λ (v : ℤ). nat_abs v ≤ most) (inner nx i && inner ny j) (rounded (pattern_sum z i j) 16) (z i j)
    (λ e. rounded_size (pattern_sum z i j) 16 most (pattern_size most z h i j)) (λ e. h i j)

-- ---- a scan adds at most E

scan_within : (most : ℕ) (q : Request) (m : ℕ) (found : State) → Within most found.field → Within (most + E q.plan m) (scan q m found).field
unfolding scan
scan_within most q m found h =
    cond_both (Within (most + E q.plan m)) q.plan.smooth (smoothed q.nx q.ny (corrected q m found)) (corrected q m found)
    (λ e. smoothed_within (most + E q.plan m) q.nx q.ny (corrected q m found) added) (λ e. added)
  where
    added : Within (most + E q.plan m) (corrected q m found)
    added i j =
        unfold corrected in
        omega (
          arith,
          size_add (found.field i j) (correction q.plan.rule (sums_at q m found i j)),
          h i j,
          correction_at_most_E q m found i j,
        )

-- ---- the run: whatever the grid, the stations and the radii, the first guess's bound and the limits' for each scan made

pub run_stays_within : (q : Request) (most limit : ℕ) → Within most (guess q) → (n : ℕ) → ((m : ℕ) → m < n → E q.plan m ≤ limit)
    → Within (most + n * limit) (after q n).field
unfolding after_within start
run_stays_within q most limit first zero limits = λ i j. omega (arith, first i j)
run_stays_within q most limit first (suc n) limits =
    λ i j. omega (
      arith,
      scan_within (most + n * limit) q n (after q n) (run_stays_within q most limit first n (λ m h. limits m (omega arith))) i j,
      limits n (omega arith),
    )

module _ (q : Request) (sound : Sound q) where
  first_guess_within : (k : ℕ) → nat_abs (get_or q.first_guess k (pos 0)) ≤ most_value
  first_guess_within k = go (lt_or_le k (length q.first_guess))
    where
      go : (k < length q.first_guess) ⊎ (length q.first_guess ≤ k) → nat_abs (get_or q.first_guess k (pos 0)) ≤ most_value
      go (inl h) = sound.first_guess k h
      go (inr h) = rw (get_or-eq_default q.first_guess (pos 0) h) (omega arith)

  pub guess_within : Within most_value (guess q)
  unfolding guess field_of
  guess_within i j = first_guess_within (j * q.nx + i)

  pub first_guess_small : Small q.first_guess
  first_guess_small k = omega (arith, first_guess_within k)

  -- after m scans
  pub after-within : (m : ℕ) → m ≤ q.plan.scans → Within (most_value + m * most_limit) (after q m).field
  after-within m h = run_stays_within q most_value most_limit guess_within m (λ k l. (sound.plan.scan k (omega arith)).limit_most)

  pub fields_stay_within : (m : ℕ) → m ≤ q.plan.scans → Within most_field (after q m).field
  fields_stay_within m h i j = omega (arith, after-within m h i j, sound.plan.scans_few)

-- every field of an accepted run stays within -13,000,000..13,000,000
pub accepted_run_stays_within : (c : Call) (grid support verdict : ℕ) → analysis_refusal c grid support verdict ≡ accepted
    → (m : ℕ) → m ≤ c.plan.scans → Within most_field (after (asked c) m).field
accepted_run_stays_within c grid support verdict e = fields_stay_within (asked c) (analysis_sound c grid support verdict e)
