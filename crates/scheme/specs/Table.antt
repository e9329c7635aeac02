-- "Numbers to hold on to": the cases (a) to (i), as a single table of the definitions, and its proof.
use Rattle.std.specs.Prelude.{ℕ, ◌*◌, ◌≡◌, true, false, cond, ◌&&◌, List, [], ◌∷◌, eqb, ℤ, pos, negsuc}
use Rattle.std.specs.Float.Ieee.Exact.{HasValue}
use Rattle.scheme.specs.declared.Reading.TheVariants.{FirstGuess}
use Rattle.scheme.specs.Units.{Field, field_of, round_mode, equation_rule, no_buddies, Plan, Request, guess}
use Rattle.scheme.specs.Rounding.{rounded}
use Rattle.scheme.specs.Value.{sum_at}
use Rattle.scheme.specs.Difference.{after_test}
use Rattle.scheme.specs.Weight.{weight}
use Rattle.scheme.specs.Smoothing.{smoothed}
use Rattle.scheme.specs.Scan.{after}
use Rattle.scheme.specs.Reach.{reach}
use Rattle.scheme.specs.Readings.{double, reading}
use Rattle.scheme.specs.Text.{answer_text}
use Rattle.scheme.specs.Example.{once_text, once_answer}

-- an inner value among zeros, on a grid of 3 by 3
abbrev pub lone : ℤ → Field ℤ
lone v i j = cond (eqb i 1 && eqb j 1) v (pos 0)

-- corners 0, 1 over 0, 0
abbrev pub four_corners : List ℤ
four_corners = pos 0 ∷ pos 1 ∷ pos 0 ∷ pos 0 ∷ []

-- radii 96, 64 with smoothing
abbrev pub two_scans : Plan
two_scans = record { scans = 2; radius = pos 96 ∷ pos 64 ∷ []; limit = pos 0 ∷ pos 0 ∷ []; smooth = true; mode = round_mode; rule = equation_rule; buddies = no_buddies }

pub record Table : Type 0 where
  pub a : (weight (96 * 96) 0 ≡ 10000) × (weight (96 * 96) 4096 ≡ 3846) × (weight (96 * 96) 8192 ≡ 588)
  pub b : (weight (64 * 64) 3969 ≡ 157) × (weight (64 * 64) 4014 ≡ 101) × (weight (64 * 64) 4015 ≡ 99) × (weight (64 * 64) 4096 ≡ 0)
  pub c : (rounded (pos 5) 2 ≡ pos 3) × (rounded (negsuc 4) 2 ≡ negsuc 2) × (rounded (pos 1) 3 ≡ pos 0)
  pub d : (smoothed 3 3 (lone (pos 16)) 1 1 ≡ pos 4) × (smoothed 3 3 (lone (pos 2)) 1 1 ≡ pos 1)
      × (smoothed 3 3 (lone (negsuc 1)) 1 1 ≡ negsuc 0)
  pub e_rounded : rounded (sum_at 2 2 (field_of (pos 0) 2 four_corners) 32 32) 4096 ≡ pos 0
  pub e_reading : reading 2 2 four_corners (0 ∷ 0 ∷ 0 ∷ 0 ∷ []) (pos 32) (pos 32) ≡ FirstGuess (double (pos 1024) 262144)
  pub e_exact : HasValue (double (pos 1024) 262144) false 1 256
  pub f : (after_test 1 200 (pos 200) 0 ≡ 0) × (after_test 1 200 (pos 201) 0 ≡ 11)
  pub g : (q : Request) → q.stations ≡ [] → q.plan.smooth ≡ false → (m i j : ℕ)
      → ((after q m).field i j ≡ guess q i j) × ((after q m).support i j ≡ 0)
  pub h : reach two_scans ≡ 5
  pub i : answer_text (once_text equation_rule) ≡ once_answer equation_rule
