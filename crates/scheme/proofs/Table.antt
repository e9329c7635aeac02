-- "Numbers to hold on to": the cases (a) to (i), as a single table of the definitions, and its proof.
use Rattle.std.specs.Prelude.{ℕ, ◌*◌, ◌≡◌, refl, false, [], ◌∷◌, pos, negsuc}
use Rattle.std.proofs.Common.{arith}
use Rattle.std.specs.Float.Ieee.{div, of_int, round, units, odd, span, climb, size}
use Rattle.std.specs.Float.Ieee.Exact.{HasValue}
use Rattle.lists.specs.Sums.{up_to}
use Rattle.scheme.specs.declared.Reading.TheVariants.{FirstGuess}
use Rattle.scheme.specs.Units.{field_of, equation_rule, R, B, Request, guess}
use Rattle.scheme.specs.Refusals.{refused_with, bad_shape, reading_refusal}
use Rattle.scheme.specs.Verdicts.{near_axis}
use Rattle.scheme.specs.Rounding.{rounded}
use Rattle.scheme.specs.Value.{place, cell, corners, sum_at}
use Rattle.scheme.specs.Difference.{after_test}
use Rattle.scheme.specs.Weight.{weight}
use Rattle.scheme.specs.Smoothing.{pattern_row, pattern_sum, inner, smoothed}
use Rattle.scheme.specs.Scan.{after}
use Rattle.scheme.specs.Reach.{steps, reach}
use Rattle.scheme.specs.Readings.{double, is_backed, reading_in, reading}
use Rattle.scheme.proofs.Support.{unsupported_point_keeps_first_guess, no_stations_no_support}
use Rattle.scheme.proofs.Example.{example_text}
use Rattle.scheme.specs.Table.{Table, four_corners, lone, two_scans}

-- ---- what the cases are about

-- ---- the table

-- ---- its proof, by computation but for (g), which holds of every request

case_a : (weight (96 * 96) 0 ≡ 10000) × (weight (96 * 96) 4096 ≡ 3846) × (weight (96 * 96) 8192 ≡ 588)
unfolding weight
case_a = (refl, refl, refl)

case_b : (weight (64 * 64) 3969 ≡ 157) × (weight (64 * 64) 4014 ≡ 101) × (weight (64 * 64) 4015 ≡ 99) × (weight (64 * 64) 4096 ≡ 0)
unfolding weight
case_b = (refl, refl, refl, refl)

case_c : (rounded (pos 5) 2 ≡ pos 3) × (rounded (negsuc 4) 2 ≡ negsuc 2) × (rounded (pos 1) 3 ≡ pos 0)
unfolding rounded
case_c = (refl, refl, refl)

case_d : (smoothed 3 3 (lone (pos 16)) 1 1 ≡ pos 4) × (smoothed 3 3 (lone (pos 2)) 1 1 ≡ pos 1)
    × (smoothed 3 3 (lone (negsuc 1)) 1 1 ≡ negsuc 0)
unfolding smoothed pattern_sum pattern_row up_to inner rounded
case_d = (refl, refl, refl)

case_e : rounded (sum_at 2 2 (field_of (pos 0) 2 four_corners) 32 32) 4096 ≡ pos 0
unfolding rounded sum_at corners cell field_of
case_e = refl

case_e_reading : reading 2 2 four_corners (0 ∷ 0 ∷ 0 ∷ 0 ∷ []) (pos 32) (pos 32) ≡ FirstGuess (double (pos 1024) 262144)
unfolding reading reading_refusal refused_with bad_shape reading_in near_axis place is_backed cell sum_at corners field_of
case_e_reading = refl

case_e_exact : HasValue (double (pos 1024) 262144) false 1 256
unfolding double div of_int round units odd span climb size
case_e_exact = (refl, refl)

case_f : (after_test 1 200 (pos 200) 0 ≡ 0) × (after_test 1 200 (pos 201) 0 ≡ 11)
unfolding after_test
case_f = (refl, refl)

case_g : (q : Request) → q.stations ≡ [] → q.plan.smooth ≡ false → (m i j : ℕ)
    → ((after q m).field i j ≡ guess q i j) × ((after q m).support i j ≡ 0)
case_g q empty rough m i j =
    let s = no_stations_no_support q empty m i j in
    (unsupported_point_keeps_first_guess q rough i j m s, s)

case_h : reach two_scans ≡ 5
unfolding reach up_to steps R B
case_h = refl

pub table : Table
table =
    record {
      a = case_a;
      b = case_b;
      c = case_c;
      d = case_d;
      e_rounded = case_e;
      e_reading = case_e_reading;
      e_exact = case_e_exact;
      f = case_f;
      g = case_g;
      h = case_h;
      i = (example_text equation_rule (omega arith, omega arith)).0;
    }
