-- The slices before the first scan hold the run's start.
use Rattle.std.specs.Prelude.{ℕ, suc, ◌+◌, ◌-◌, ◌*◌, ◌≤◌, ◌<◌, ◌≡◌, refl, Bool, true, false, List, [], ◌∷◌, replicate, get_or, ℤ, pos, negsuc, nat_abs}
use Rattle.std.proofs.Common.{arith, div-add-mod', sym, ◌∙◌, leb-true}
use Rattle.std.proofs.Math.Path.{ap}
use Rattle.std.proofs.lemmas.Bool.{not-false}
use Rattle.std.proofs.Math.ListN.{length, length-replicate, get_or-replicate}
use Rattle.integers.specs.Parts.{dn}
use Rattle.lists.specs.Tests.{and_true}
use Rattle.lists.specs.Tab.{tab, length-tab, get_or_tab, is_tab, map-tab, tab_same}
use Rattle.scheme.specs.Units.{is_missing, most_side, stored, field_of, step, Station, most_beyond, guess}
use Rattle.scheme.specs.Verdicts.{near_axis, off_grid, first_that_fits, before_scans}
use Rattle.scheme.specs.Most.{most_along}
use Rattle.scheme.specs.Scan.{start, after_within}
use Rattle.scheme.specs.Accepted.{Stationed, no_station, Sound}
use Rattle.request.specs.declared.Terms.{Terms}
use Rattle.request.specs.declared.Station.{Station as Row}
use Rattle.request.specs.Tables.{station_in, request_in}
use Rattle.scan_station.specs.Judge.{AcceptedHeard}
use Rattle.scan_start.specs.Reached.{row_in, Reached}

-- a stored first guess is stored
guess_stored : (nx ny : ℕ) (l : List ℤ) → length l ≡ nx * ny → l ≡ stored nx ny (field_of (pos 0) nx l)
unfolding stored field_of
guess_stored nx ny l e = is_tab (pos 0) (nx * ny) _ l e (λ k h. ap (λ (n : ℕ). get_or l n (pos 0)) (sym (div-add-mod' k nx)))

-- an accepted station is there, and on the grid or a post
all_five : (a b c d e : Bool) → first_that_fits ((a, 1) ∷ (b, 2) ∷ (c, 3) ∷ (d, 4) ∷ (e, 5) ∷ []) ≡ 0 → (a ≡ false) × (e ≡ false)
unfolding first_that_fits
all_five true b c d e h = absurd (omega arith)
all_five false true c d e h = absurd (omega arith)
all_five false false true d e h = absurd (omega arith)
all_five false false false true e h = absurd (omega arith)
all_five false false false false true h = absurd (omega arith)
all_five false false false false false h = (refl, refl)

accepted_near : (nx ny T A : ℕ) (s : Station) → before_scans most_beyond nx ny T A s ≡ 0
    → (is_missing s.value ≡ false) × (near_axis most_beyond nx s.x ≡ true) × (near_axis most_beyond ny s.y ≡ true)
unfolding before_scans off_grid
accepted_near nx ny T A s e =
    let (a, b) = all_five _ _ _ _ _ e in
    let (x, y) = and_true _ _ (not-false _ b) in
    (a, x, y)

-- so it is not far along an axis
near_small : (n : ℕ) (x : ℤ) → n ≤ most_side → near_axis most_beyond n x ≡ true → nat_abs x ≤ most_along
unfolding near_axis
near_small n (pos x) few e = omega (arith, leb-true x (step * (n - 1) + most_beyond) e)
near_small n (negsuc x) few e = omega (arith, leb-true (suc x) most_beyond e)

-- nor beyond its first point
near_low : (n : ℕ) (x : ℤ) → near_axis most_beyond n x ≡ true → dn x ≤ most_beyond
unfolding near_axis
near_low n (pos x) e = omega arith
near_low n (negsuc x) e = leb-true (suc x) most_beyond e

-- the verdict of station k before the first scan
abbrev pub first_at : Terms → List Row → ℕ → ℕ
first_at t stations k = before_scans most_beyond t.nx t.ny t.time t.age (station_in stations k)

-- the start
module _ (t : Terms) (first : List ℤ) (stations : List Row) (sound : Sound (request_in t first stations)) (st : List ℕ)
    (verdicts : st ≡ tab (length stations) (first_at t stations)) where
  verdict_is : (k : ℕ) → k < length stations → get_or st k 0 ≡ first_at t stations k
  verdict_is k h = ap (λ (l : List ℕ). get_or l k 0) verdicts ∙ get_or_tab (length stations) _ k 0 h

  start_rows : (start most_beyond (request_in t first stations)).rows ≡ tab (length stations) (row_in stations st)
  unfolding start
  start_rows = map-tab _ (length stations) (station_in stations) ∙ tab_same (length stations) _ _ (λ k h. cc (verdict_is k h))

  in-range : (k : ℕ) → k < length stations → Stationed (station_in stations k)
  in-range k h =
      rw (← (get_or_tab (length stations) (station_in stations) k no_station h))
      (sound.stations k (omega (arith, length-tab (length stations) (station_in stations))))

  heard : AcceptedHeard stations st
  heard k h e =
      let (there, x, y) = accepted_near t.nx t.ny t.time t.age (station_in stations k) (sym (verdict_is k h) ∙ e) in
      record {
        x = near_small t.nx _ sound.shape.few_columns x;
        y = near_small t.ny _ sound.shape.few_rows y;
        x_low = near_low t.nx _ x;
        y_low = near_low t.ny _ y;
        value = (in-range k h).value there;
      }

  pub begun : {z : List ℤ} {sup : List ℕ} {len : ℕ} → z ≡ first → len ≡ t.nx * t.ny → sup ≡ replicate len 0 → Reached t first stations 0 z sup st
  unfolding after_within start guess stored
  begun {len = len} ez long es =
      record {
        sound = sound;
        holds =
            record {
              field = ez ∙ guess_stored t.nx t.ny first sound.shape.whole;
              support = es ∙ is_tab 0 len (λ k. 0) _ (length-replicate len 0) (λ k h. get_or-replicate len k 0 0 h) ∙ ap (λ (n : ℕ). tab n (λ k. 0)) long;
              rows = start_rows;
              long = ap length verdicts ∙ length-tab (length stations) _;
            };
        heard = heard;
      }
