-- Judging the stations from the field as a scan finds it, and posts from the first guess: the difference of each accepted station, and its
-- verdict after the E test.
use Rattle.std.specs.Prelude.{ℕ, ◌+◌, ◌*◌, ◌≤◌, ◌<◌, ◌≡◌, Bool, true, false, cond, List, ltb, length, get_or, pos, nat_abs, ◌-ℤ◌}
use Rattle.std.proofs.Math.Path.{refl}
use Rattle.std.proofs.Math.IntN.{ℤ}
use Rattle.integers.specs.Parts.{dn}
use Rattle.scheme.specs.Units.{most_value, Station, field_of, most_stations, most_beyond, most_scans}
use Rattle.scheme.specs.Verdicts.{on_grid, is_accepted}
use Rattle.scheme.specs.Value.{sum_at, value_at}
use Rattle.scheme.specs.Difference.{difference, after_test}
use Rattle.scheme.specs.Most.{most_along, most_field}
use Rattle.scheme.specs.Accepted.{Shaped}
use Rattle.scheme.proofs.Nearest.{rounded_size}
use Rattle.scheme.specs.Bounds.{Small}
use Rattle.scheme.proofs.Exact.{sum_size}
use Rattle.scheme.proofs.Axes.{place_most}
use Rattle.request.specs.declared.Station.{Station as Row}
use Rattle.request.specs.Tables.{station_in}

-- an accepted station: near the grid, with a value in range
pub record Heard (s : Station) : Type 0 where
  pub x : nat_abs s.x ≤ most_along
  pub y : nat_abs s.y ≤ most_along
  pub x_low : dn s.x ≤ most_beyond
  pub y_low : dn s.y ≤ most_beyond
  pub value : nat_abs s.value ≤ most_value

-- every accepted station is heard
abbrev pub AcceptedHeard : List Row → List ℕ → Type 0
AcceptedHeard stations st = (k : ℕ) → k < length stations → get_or st k 0 ≡ 0 → Heard (station_in stations k)

-- what judging needs
pub record JudgeReady (guess z : List ℤ) (st : List ℕ) (nx ny : ℕ) (stations : List Row) (scan : ℕ) : Type 0 where
  pub guess_shape : Shaped nx ny (length guess)
  pub shape : Shaped nx ny (length z)
  pub guess_small : Small guess
  pub small : Small z
  pub few : length stations ≤ most_stations
  pub len_st : length st ≡ length stations
  pub scan_few : scan ≤ most_scans
  pub heard : AcceptedHeard stations st

-- the paper's value at a station and its difference, from the stored first guess and the stored field that the scan finds
abbrev pub value_for : (guess z : List ℤ) → (nx ny : ℕ) → Station → ℤ
value_for guess z nx ny s = value_at nx ny (cond (on_grid nx ny s.x s.y) (field_of (pos 0) nx z) (field_of (pos 0) nx guess)) s

abbrev pub differs : (guess z : List ℤ) → (nx ny : ℕ) → Station → ℤ
differs guess z nx ny s = difference nx ny (field_of (pos 0) nx guess) (field_of (pos 0) nx z) s

-- 0 for one that is not accepted
unfoldable pub diff_of : (guess z : List ℤ) → (nx ny verdict : ℕ) → Station → ℤ
diff_of guess z nx ny verdict s = cond (is_accepted verdict) (differs guess z nx ny s) (pos 0)

-- of station k
abbrev pub diff_at : (guess z : List ℤ) → (nx ny : ℕ) → List Row → List ℕ → ℕ → ℤ
diff_at guess z nx ny stations st k = diff_of guess z nx ny (get_or st k 0) (station_in stations k)

-- and its verdict after the E test
abbrev pub verdict_at : (guess z : List ℤ) → (nx ny : ℕ) → List Row → List ℕ → (scan limit : ℕ) → ℕ → ℕ
verdict_at guess z nx ny stations st scan limit k = after_test scan limit (differs guess z nx ny (station_in stations k)) (get_or st k 0)

module _ (guess z : List ℤ) (nx ny : ℕ) (s : Station) where
  -- the test reads no difference but that of an accepted station
  pub same_test : (scan limit verdict : ℕ) → after_test scan limit (diff_of guess z nx ny verdict s) verdict ≡ after_test scan limit (differs guess z nx ny s) verdict
  unfolding after_test diff_of
  same_test scan limit verdict = go (is_accepted verdict)
    where
      D : ℤ
      D = differs guess z nx ny s

      go : (b : Bool) → cond b (cond (ltb limit (nat_abs (cond b D (pos 0)))) (10 + scan) 0) verdict ≡ cond b (cond (ltb limit (nat_abs D)) (10 + scan) 0) verdict
      go true = refl
      go false = refl

  pub difference_is : differs guess z nx ny s ≡ s.value -ℤ value_for guess z nx ny s
  unfolding difference
  difference_is = refl

-- ---- a value there is as small as the field's values
module _ (z : List ℤ) (nx ny : ℕ) (shape : Shaped nx ny (length z)) (small : Small z) where
  pub value_size : (s : Station) → nat_abs (value_at nx ny (field_of (pos 0) nx z) s) ≤ most_field
  unfolding value_at field_of
  value_size s =
      rounded_size (sum_at nx ny (field_of (pos 0) nx z) _ _) 4096 most_field
      (sum_size most_field nx ny _ _ (field_of (pos 0) nx z) (λ i j. small (j * nx + i)) shape.two_columns shape.two_rows (place_most nx s.x) (place_most ny s.y))
