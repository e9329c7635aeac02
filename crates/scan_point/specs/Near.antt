-- The stations near a grid row, gathered in a list: those left out give nothing to its points, and sums over the others are small. What an entry of
-- the list gives to the point in column i is any function here, so that nothing goes by a mode.
use Prim.Native.Nat.{ℕ, zero, suc, ◌+◌, ◌*◌, ◌≤◌, ◌<◌}
use native.Mathlib.Omega.{arith}
use Rattle.std.proofs.Common.{add-zero, ap, ◌∙◌, inl, inr, lt-ltb, le-ltb, eqb-true}
use Rattle.std.specs.Prelude.{◌≡◌, ◌⊎◌, Bool, true, false, cond, List, ltb, length, get_or, ℤ, pos, nat_abs, ◌+ℤ◌, ◌-ℤ◌}
use Rattle.std.proofs.Math.Path.{refl, sym}
use Rattle.lists.specs.Tests.{lt_or_le, cond_both}
use Rattle.lists.specs.Sums.{up_to, up_to_next, up_to_same}
use Rattle.scheme.specs.Units.{step, Wind, is_no_wind, most_stations, most_limit}
use Rattle.scheme.specs.Verdicts.{is_accepted}
use Rattle.scheme.specs.Weight.{scale, square}
use Rattle.scheme.specs.Correction.{Sums, nothing, plus, gift}
use Rattle.scheme.specs.Most.{most_along}
use Rattle.scheme.specs.Streaks.{Fair}
use Rattle.request.specs.declared.Station.{Station as Row}
use Rattle.request.specs.Tables.{no_row}
use Rattle.scan_along.specs.Streak.{wind_in}
use Rattle.scheme.specs.Gifts.{weighed, Modest}
use Rattle.scheme.proofs.Gifts.{modest_nothing, modest_plus, modest_weighed, gift_outside, gift_modest}
use Rattle.scheme.proofs.Adding.{plus_nothing}

-- ---- from all the stations: what the one of row k gives to point (i, j)

-- what a correction reads: the mode; of the stations how many, their rows, verdicts and differences
pub record Stations : Type 0 where
  pub mode : ℕ
  pub count : ℕ
  pub rows : List Row
  pub verdict : List ℕ
  pub d : List ℤ

abbrev pub stations_with : (mode : ℕ) → List Row → List ℕ → List ℤ → Stations
stations_with mode rows verdict d = record { mode = mode; count = length rows; rows = rows; verdict = verdict; d = d }

module _ (all : Stations) (k : ℕ) where
  abbrev pub x_at : ℤ
  x_at = (get_or all.rows k no_row).x

  abbrev pub y_at : ℤ
  y_at = (get_or all.rows k no_row).y

  abbrev pub wind_at : Wind
  wind_at = wind_in (get_or all.rows k no_row)

  abbrev pub verdict_at : ℕ
  verdict_at = get_or all.verdict k 0

  abbrev pub d_at : ℤ
  d_at = get_or all.d k (pos 0)

unfoldable pub share_at : (all : Stations) (r2 i j k : ℕ) → Sums
share_at all r2 i j k =
    cond (is_accepted (verdict_at all k))
    (gift all.mode r2 (wind_at all k) (d_at all k) (x_at all k -ℤ pos (step * i)) (y_at all k -ℤ pos (step * j))) nothing

unfoldable pub sums_over : (all : Stations) (r2 i j : ℕ) → Sums
sums_over all r2 i j = up_to nothing plus all.count (share_at all r2 i j)

-- ---- sizes of the sums over some entries

-- what so many entries give
pub record SumsSmall (n : ℕ) (s : Sums) : Type 0 where
  pub modest : Modest most_limit s
  pub few : s.inside ≤ n

-- and one
abbrev pub Slight : Sums → Type 0
Slight = SumsSmall 1

pub weighed_slight : (within : Bool) (w : ℕ) (d : ℤ) → w ≤ scale * cond within 1 0 → nat_abs d ≤ most_limit → Slight (weighed within w d)
weighed_slight within w d hw hd =
    record {
      modest = modest_weighed most_limit within w d hw hd;
      few = cond_both (λ (n : ℕ). n ≤ 1) within 1 0 (λ e. omega arith) (λ e. omega arith);
    }

pub weights_few : (n : ℕ) (s : Sums) → SumsSmall n s → s.weights ≤ n * scale
weights_few n s h = omega (arith, h.modest.weights_most, h.few)

-- over what the entries give to one point
module _ (give : ℕ → Sums) where
  pub near_small : (n : ℕ) → ((t : ℕ) → t < n → Slight (give t)) → SumsSmall n (up_to nothing plus n give)
  unfolding up_to
  near_small zero h = record { modest = modest_nothing most_limit; few = omega arith }
  near_small (suc n) h =
      let rest = near_small n (λ t l. h t (omega arith)) in
      let here = h n (omega arith) in
      record {
        modest = modest_plus most_limit (up_to nothing plus n give) (give n) rest.modest here.modest;
        few = omega (arith, rest.few, here.few);
      }

  -- how many of them are inside
  pub inside_counted : (one : ℕ → ℕ) (n : ℕ) → ((t : ℕ) → t < n → (give t).inside ≡ one t) → (up_to nothing plus n give).inside ≡ up_to 0 ◌+◌ n one
  unfolding up_to
  inside_counted one zero h = refl
  inside_counted one (suc n) h = rw (inside_counted one n (λ t l. h t (omega arith)), h n (omega arith))

  -- the sums with the entry t
  pub record Added (t w : ℕ) (wd : ℤ) (w' : ℕ) (wd' : ℤ) : Type 0 where
    pub weights : w' ≡ w + (give t).weights
    pub pulls : wd' ≡ wd +ℤ (give t).pulls

  -- w and wd are the sums over the first t entries, as a loop makes them
  pub record Summed (t w : ℕ) (wd : ℤ) : Type 0 where
    pub weights : w ≡ (up_to nothing plus t give).weights
    pub pulls : wd ≡ (up_to nothing plus t give).pulls

  pub summed_none : Summed 0 0 (pos 0)
  unfolding up_to
  summed_none = record { weights = refl; pulls = refl }

  pub summed_next : {t w w' : ℕ} {wd wd' : ℤ} → Summed t w wd → Added t w wd w' wd' → Summed (t + 1) w' wd'
  summed_next {t = t} s a =
      let e = up_to_next nothing plus t give in
      record {
        weights = rw (e, a.weights, s.weights) refl;
        pulls = rw (e, a.pulls, s.pulls) refl;
      }

  pub summed_small : {n t w : ℕ} {wd : ℤ} → t ≤ n → ((t : ℕ) → t < n → Slight (give t)) → Summed t w wd → (w ≤ t * scale) × (nat_abs wd ≤ most_limit * w)
  summed_small {t = t} few slight s =
      let h = near_small t (λ k l. slight k (omega arith)) in
      rw (s.weights, s.pulls) (weights_few t _ h, h.modest.pulls_most)

-- ---- gathering the near ones: those accepted and nearer than R to the row, along the other axis

-- the squared distance of a row's station to grid row j; the squared radius for one that is not accepted
unfoldable pub row_gap : (verdict : ℕ) (y : ℤ) (j r2 : ℕ) → ℕ
row_gap verdict y j r2 = cond (is_accepted verdict) (square (y -ℤ pos (step * j))) r2

-- what gathering needs: an accepted row is near the grid, its difference within the limit, its wind in range or missing
pub record Inside (x y d : ℤ) (w : Wind) : Type 0 where
  pub x_small : nat_abs x ≤ most_along
  pub y_small : nat_abs y ≤ most_along
  pub d_small : nat_abs d ≤ most_limit
  pub wind_fair : is_no_wind w ≡ false → Fair w

pub record Ready (all : Stations) : Type 0 where
  pub few : all.count ≤ most_stations
  pub len_st : length all.verdict ≡ all.count
  pub inside : (k : ℕ) → k < all.count → verdict_at all k ≡ 0 → Inside (x_at all k) (y_at all k) (d_at all k) (wind_at all k)

-- the n near ones among the first k rows, of which each entry is fine, give to each point of row j what the k rows give
pub record Gathered (give : ℕ → ℕ → Sums) (Fine : ℕ → Type 0) (n : ℕ) (all : Stations) (r2 j k : ℕ) : Type 0 where
  pub no_more : n ≤ k
  pub sized : (t : ℕ) → t < n → Fine t
  pub same : (i : ℕ) → up_to nothing plus n (give i) ≡ up_to nothing plus k (share_at all r2 i j)

pub near_none : (give : ℕ → ℕ → Sums) (Fine : ℕ → Type 0) (all : Stations) (r2 j : ℕ) → Gathered give Fine 0 all r2 j 0
unfolding up_to
near_none give Fine all r2 j = record { no_more = omega arith; sized = λ t h. absurd (omega arith); same = λ i. refl }

-- a row that is not nearer than R to the grid row gives nothing
far_gives_nothing : (all : Stations) (r2 i j k : ℕ) → r2 ≤ row_gap (verdict_at all k) (y_at all k) j r2
    → share_at all r2 i j k ≡ nothing
unfolding share_at row_gap
far_gives_nothing all r2 i j k h = go (is_accepted (verdict_at all k)) h
  where
    dx : ℤ
    dx = x_at all k -ℤ pos (step * i)

    dy : ℤ
    dy = y_at all k -ℤ pos (step * j)

    go : (b : Bool) → r2 ≤ cond b (square dy) r2 → cond b (gift all.mode r2 (wind_at all k) (d_at all k) dx dy) nothing ≡ nothing
    go true l = gift_outside all.mode r2 (wind_at all k) (d_at all k) dx dy (omega arith)
    go false l = refl

-- one that is nearer is accepted
pub near_is_accepted : (verdict : ℕ) (y : ℤ) (j r2 : ℕ) → row_gap verdict y j r2 < r2 → (verdict ≡ 0) × (row_gap verdict y j r2 ≡ square (y -ℤ pos (step * j)))
unfolding row_gap
near_is_accepted verdict y j r2 h = go (is_accepted verdict) (eqb-true verdict 0) h
  where
    go : (b : Bool) → (b ≡ true → verdict ≡ 0) → cond b (square (y -ℤ pos (step * j))) r2 < r2
        → (verdict ≡ 0) × (cond b (square (y -ℤ pos (step * j))) r2 ≡ square (y -ℤ pos (step * j)))
    go true f l = (f refl, refl)
    go false f l = absurd (omega arith)

-- a turn: the entries gathered before stay
module _ {all : Stations} {r2 j n k : ℕ} {give give' : ℕ → ℕ → Sums} {Fine Fine' : ℕ → Type 0} (near : Gathered give Fine n all r2 j k)
    (kept : (i t : ℕ) → t < n → give' i t ≡ give i t) (kept_fine : (t : ℕ) → t < n → Fine t → Fine' t) where
  abbrev gap : ℕ
  gap = row_gap (verdict_at all k) (y_at all k) j r2

  kept_sums : (i : ℕ) → up_to nothing plus n (give' i) ≡ up_to nothing plus k (share_at all r2 i j)
  kept_sums i = up_to_same nothing plus n (give' i) (give i) (kept i) ∙ near.same i

  -- a far row is passed
  pub far_passed : r2 ≤ gap → Gathered give' Fine' n all r2 j (k + 1)
  far_passed h =
      record {
        no_more = omega (arith, near.no_more);
        sized = λ t l. kept_fine t l (near.sized t l);
        same =
            λ i. kept_sums i
            ∙ sym (up_to_next nothing plus k (share_at all r2 i j)
            ∙ ap (plus (up_to nothing plus k (share_at all r2 i j))) (far_gives_nothing all r2 i j k h)
            ∙ plus_nothing (up_to nothing plus k (share_at all r2 i j)));
      }

  -- one that is near becomes the next entry
  pub near_gathered : ((i : ℕ) → give' i n ≡ share_at all r2 i j k) → Fine' n → Gathered give' Fine' (n + 1) all r2 j (k + 1)
  near_gathered new new_fine =
      record {
        no_more = omega (arith, near.no_more);
        sized = sized;
        same =
            λ i. up_to_next nothing plus n (give' i)
            ∙ ap (λ (s : Sums). plus s (give' i n)) (kept_sums i)
            ∙ ap (plus (up_to nothing plus k (share_at all r2 i j))) (new i)
            ∙ sym (up_to_next nothing plus k (share_at all r2 i j));
      }
    where
      sized : (t : ℕ) → t < n + 1 → Fine' t
      sized t h = go (lt_or_le t n)
        where
          go : (t < n) ⊎ (n ≤ t) → Fine' t
          go (inl l) = kept_fine t l (near.sized t l)
          go (inr l) = let e : t ≡ n = omega arith in rw e new_fine

  -- either, where each turn stores and only a near one is counted
  pub near_step : (gap < r2 → (i : ℕ) → give' i n ≡ share_at all r2 i j k) → (gap < r2 → Fine' n) → Gathered give' Fine' (n + cond (ltb gap r2) 1 0) all r2 j (k + 1)
  near_step new new_fine = go (lt_or_le gap r2)
    where
      go : (gap < r2) ⊎ (r2 ≤ gap) → Gathered give' Fine' (n + cond (ltb gap r2) 1 0) all r2 j (k + 1)
      go (inl h) = rw (lt-ltb gap r2 h) (near_gathered (new h) (new_fine h))
      go (inr h) = rw (le-ltb gap r2 h, add-zero n) (far_passed h)

-- what an accepted row gives
pub accepted_shares : (all : Stations) (r2 i j k : ℕ) → verdict_at all k ≡ 0
    → share_at all r2 i j k ≡ gift all.mode r2 (wind_at all k) (d_at all k) (x_at all k -ℤ pos (step * i)) (y_at all k -ℤ pos (step * j))
unfolding share_at
accepted_shares all r2 i j k e = rw e

-- the sums over all rows are small too
module _ (all : Stations) (r2 i j : ℕ) (ok : Ready all) where
  share_modest : (k : ℕ) → k < all.count → Modest most_limit (share_at all r2 i j k)
  unfolding share_at
  share_modest k h =
      cond_both (Modest most_limit) (is_accepted (verdict_at all k)) _ nothing
      (λ e. gift_modest all.mode r2 (wind_at all k) (d_at all k) _ _ most_limit (ok.inside k h (eqb-true (verdict_at all k) 0 e)).d_small)
      (λ e. modest_nothing most_limit)

  some_modest : (n : ℕ) → n ≤ all.count → Modest most_limit (up_to nothing plus n (share_at all r2 i j))
  unfolding up_to
  some_modest zero h = modest_nothing most_limit
  some_modest (suc n) h =
      modest_plus most_limit (up_to nothing plus n (share_at all r2 i j)) (share_at all r2 i j n) (some_modest n (omega arith)) (share_modest n h)

  pub over_modest : Modest most_limit (sums_over all r2 i j)
  unfolding sums_over
  over_modest = some_modest all.count (omega arith)
