-- The stations near a grid row, as they are gathered: what each gives to a point by the weight of a mode, and how small it is.
use Rattle.std.specs.Prelude.{ℕ, ◌+◌, ◌-◌, ◌*◌, ◌≤◌, ◌<◌, ◌≡◌, refl, ◌⊎◌, cond, eqb, List, length, ltb, get_or, set, take, drop, All, ℤ, pos, nat_abs, ◌+ℤ◌, ◌-ℤ◌}
use native.Mathlib.Omega.{arith}
use Rattle.std.proofs.Common.{sym, ap, subst, ◌∙◌, inl, inr, zero-mul, get_or-set_same, get_or-set_other}
use borrow.Author.Tests.{eq-eqb, ne_eqb}
use Rattle.std.proofs.lemmas.List.{get_or-take, get_or-drop, length-take-le, length-drop}
use Rattle.std.proofs.lemmas.List.Elements.{All-from_get_or}
use Rattle.lists.specs.Tests.{lt_or_le}
use Rattle.lists.specs.Sums.{up_to, up_to_same}
use Rattle.scheme.specs.Units.{step, most_stations, most_limit, round_mode, wind_mode}
use Rattle.scheme.specs.Weight.{weight, square, squares, inside, weight_at}
use Rattle.scheme.specs.Correction.{Sums, nothing, plus}
use Rattle.scheme.specs.Most.{most_square, most_weights, most_pulls}
use Rattle.scheme.proofs.Weights.{weight_beyond, inside_alone}
use Rattle.scheme.proofs.Streaks.{round_if_still, still_in_mode_0}
use Rattle.scheme.specs.Gifts.{weighed}
use Rattle.scheme.proofs.Gifts.{gift_weighed}
use Rattle.request.specs.declared.Station.{Station as Row}
use Rattle.request.specs.Tables.{no_row}
use Rattle.scan_weight.specs.Along.{weight_by, beyond, calm, weight_by_most, by_wind, calmed_fair}
use Rattle.scan_along.specs.Streak.{streak_at, still, q_at, Streaked, streaked, streaked_still}
use Rattle.scan_lone.specs.declared.Near.{Near}
use Rattle.scan_lone.specs.Inside.{nobody, distance, inside_in, Placed}
use Rattle.scan_point.specs.Near.{Stations, x_at, y_at, wind_at, verdict_at, d_at, share_at, Slight, weighed_slight, Summed, summed_next, summed_small, row_gap, Ready, Gathered, near_is_accepted, near_step, accepted_shares}

-- what a station gives to the point in column i, and so the entry at t. In mode 0 its wind is a calm one, by which the weight is the round one
abbrev pub share_of : Near → (r2 i : ℕ) → Sums
share_of s r2 i = weighed (ltb (distance s i) r2) (weight_by r2 (distance s i) s.streak.strength (q_at s.streak (s.x -ℤ pos (step * i)))) s.d

unfoldable pub near_share : (near : List Near) (r2 i t : ℕ) → Sums
near_share near r2 i t = share_of (get_or near t nobody) r2 i

pub record Sized (mode : ℕ) (s : Near) : Type 0 where
  pub placed : Placed s
  pub d_small : nat_abs s.d ≤ most_limit
  pub streak : Streaked s.streak
  pub round : (mode ≡ wind_mode → ⊥) → s.streak.strength ≡ 0

-- by a calm wind the weight is the round one
pub by_calm : (r2 d2 w2 : ℕ) (q : ℤ) → w2 ≡ 0 → weight_by r2 d2 w2 q ≡ weight r2 d2
by_calm r2 d2 w2 q e = go (lt_or_le d2 r2)
  where
    go : (d2 < r2) ⊎ (r2 ≤ d2) → weight_by r2 d2 w2 q ≡ weight r2 d2
    go (inl h) = calm r2 d2 w2 q h (rw e (zero-mul d2))
    go (inr h) = beyond r2 d2 w2 q h ∙ sym (weight_beyond r2 d2 h)

pub slight_share : {mode : ℕ} (near : List Near) (r2 i t : ℕ) → Sized mode (get_or near t nobody) → Slight (near_share near r2 i t)
unfolding near_share
slight_share near r2 i t sized =
    let s : Near = get_or near t nobody in
    let q : ℤ = q_at s.streak (s.x -ℤ pos (step * i)) in
    let w : ℕ = weight_by r2 (distance s i) s.streak.strength q in
    weighed_slight (ltb (distance s i) r2) w s.d
    (inside_alone w r2 (distance s i) (weight_by_most r2 (distance s i) s.streak.strength q) (beyond r2 (distance s i) s.streak.strength q)) sized.d_small

pub share_inside : (near : List Near) (r2 i t : ℕ) → (near_share near r2 i t).inside ≡ inside_in near r2 i t
unfolding near_share inside_in
share_inside near r2 i t = refl

-- ---- the sums of a loop that takes the entries one after another

-- the entries that are still to come
pub record Behind (near rest : List Near) : Type 0 where
  pub no_more : length rest ≤ length near
  pub are : (k : ℕ) → k < length rest → get_or rest k nobody ≡ get_or near (length near - length rest + k) nobody

pub behind_all : (near : List Near) → Behind near near
behind_all near = record { no_more = omega arith; are = λ k h. ap (λ (m : ℕ). get_or near m nobody) (omega arith) }

-- without the first m
length_behind : (rest : List Near) (m : ℕ) → m ≤ length rest → length (take (length rest - m) (drop m rest)) ≡ length rest - m
length_behind rest m few = length-take-le (length rest - m) (drop m rest) (omega (arith, length-drop m rest))

pub behind_next : {near rest : List Near} (m : ℕ) → m ≤ length rest → Behind near rest
    → (length (take (length rest - m) (drop m rest)) ≡ length rest - m) × Behind near (take (length rest - m) (drop m rest))
behind_next {near} {rest} m few b =
    let e = length_behind rest m few in (
      e,
      record {
        no_more = omega (arith, e, b.no_more);
        are =
            λ k h. get_or-take (length rest - m) (drop m rest) k nobody (omega (arith, h, e))
            ∙ get_or-drop m rest k nobody
            ∙ b.are (m + k) (omega (arith, h, e, few))
            ∙ ap (λ (n : ℕ). get_or near n nobody) (omega (arith, h, e, few, b.no_more));
      },
    )

-- a turn, at the entry k of those to come
module _ {mode : ℕ} {near rest : List Near} (r2 i : ℕ) (few : length near ≤ most_stations) (sized : (t : ℕ) → t < length near → Sized mode (get_or near t nobody))
    (b : Behind near rest) (k : ℕ) (turn : k < length rest) {w : ℕ} {wd : ℤ} (s : Summed (near_share near r2 i) (length near - length rest + k) w wd) where
  pub turn_sized : Sized mode (get_or rest k nobody)
  turn_sized = rw (b.are k turn) (sized (length near - length rest + k) (omega (arith, turn, b.no_more)))

  pub turn_small : (w ≤ most_weights) × (nat_abs wd ≤ most_pulls)
  turn_small =
      let h = summed_small (near_share near r2 i) {n = length near} (omega (arith, turn, b.no_more)) (λ t l. slight_share near r2 i t (sized t l)) s in
      (omega (arith, h, turn, few, b.no_more), omega (arith, h, turn, few, b.no_more))

  pub turn_next : {w' : ℕ} {wd' : ℤ} → (w' ≡ w + (share_of (get_or rest k nobody) r2 i).weights) × (wd' ≡ wd +ℤ (share_of (get_or rest k nobody) r2 i).pulls)
      → Summed (near_share near r2 i) (length near - length rest + (k + 1)) w' wd'
  unfolding near_share
  turn_next {w'} {wd'} e =
      let at-near = rw (b.are k turn) at e in
      let next : length near - length rest + k + 1 ≡ length near - length rest + (k + 1) = omega arith in
      subst (λ (m : ℕ). Summed (near_share near r2 i) m w' wd') next (summed_next (near_share near r2 i) s (record { weights = at-near.0; pulls = at-near.1 }))

-- ---- gathering

-- the entry of a station that is near grid row j
abbrev pub entry_at : (mode : ℕ) → Row → (gap : ℕ) → ℤ → (j : ℕ) → Near
entry_at mode s gap d j = record { x = s.x; gap = gap; d = d; streak = cond (eqb mode wind_mode) (streak_at s j) still }

-- where row k is near
module _ (all : Stations) (r2 j k : ℕ) where
  abbrev gap : ℕ
  gap = row_gap (verdict_at all k) (y_at all k) j r2

  abbrev entry : Near
  entry = entry_at all.mode (get_or all.rows k no_row) gap (d_at all k) j

  module _ (bounded : r2 ≤ most_square) (ok : Ready all) (known : all.mode ≤ wind_mode) (turn : k < all.count) (close : gap < r2) where
    accepted : verdict_at all k ≡ 0
    accepted = (near_is_accepted (verdict_at all k) (y_at all k) j r2 close).0

    gap_is : gap ≡ square (y_at all k -ℤ pos (step * j))
    gap_is = (near_is_accepted (verdict_at all k) (y_at all k) j r2 close).1

    sized_along : all.mode ≡ wind_mode → Streaked entry.streak
    sized_along e =
        rw (eq-eqb all.mode wind_mode e)
        (streaked _ (y_at all k -ℤ pos (step * j)) (calmed_fair (wind_at all k) (ok.inside k turn accepted).wind_fair) (omega (arith, gap_is, close, bounded)))

    mode_is : (all.mode ≡ round_mode) ⊎ (all.mode ≡ wind_mode)
    mode_is = go (lt_or_le all.mode wind_mode)
      where
        go : (all.mode < wind_mode) ⊎ (wind_mode ≤ all.mode) → (all.mode ≡ round_mode) ⊎ (all.mode ≡ wind_mode)
        go (inl h) = inl (omega arith)
        go (inr h) = inr (omega (arith, known))

    entry_fine : Sized all.mode entry
    entry_fine = go mode_is
      where
        go : (all.mode ≡ round_mode) ⊎ (all.mode ≡ wind_mode) → Sized all.mode entry
        go (inl e) =
            record {
              placed = record { x_small = (ok.inside k turn accepted).x_small; y_small = omega arith };
              d_small = (ok.inside k turn accepted).d_small;
              streak = rw (ne_eqb all.mode wind_mode (λ (f : all.mode ≡ wind_mode). omega arith)) streaked_still;
              round = λ f. rw (ne_eqb all.mode wind_mode (λ (f : all.mode ≡ wind_mode). omega arith)) refl;
            }
        go (inr e) =
            record {
              placed = record { x_small = (ok.inside k turn accepted).x_small; y_small = omega arith };
              d_small = (ok.inside k turn accepted).d_small;
              streak = sized_along e;
              round = λ f. absurd (f e);
            }

    -- its weight at dx is that of its mode
    weight_is : (dx : ℤ) → weight_by r2 (squares dx (y_at all k -ℤ pos (step * j))) entry.streak.strength (q_at entry.streak dx) ≡ weight_at all.mode r2 (wind_at all k) dx (y_at all k -ℤ pos (step * j))
    weight_is dx = go mode_is
      where
        dy : ℤ
        dy = y_at all k -ℤ pos (step * j)

        go : (all.mode ≡ round_mode) ⊎ (all.mode ≡ wind_mode) → weight_by r2 (squares dx dy) entry.streak.strength (q_at entry.streak dx) ≡ weight_at all.mode r2 (wind_at all k) dx dy
        go (inl e) =
            rw (ne_eqb all.mode wind_mode (λ (f : all.mode ≡ wind_mode). omega arith))
            (by_calm r2 (squares dx dy) 0 _ refl ∙ sym (ap (λ (m : ℕ). weight_at m r2 (wind_at all k) dx dy) e ∙ round_if_still round_mode r2 (wind_at all k) dx dy (still_in_mode_0 (wind_at all k) dx dy)))
        go (inr e) =
            rw (eq-eqb all.mode wind_mode e) (sym (ap (λ (m : ℕ). weight_at m r2 (wind_at all k) dx dy) e ∙ by_wind r2 (wind_at all k) dx dy))

    entry_gives : (i : ℕ) → share_of entry r2 i ≡ share_at all r2 i j k
    entry_gives i =
        let dx : ℤ = x_at all k -ℤ pos (step * i) in
        let dy : ℤ = y_at all k -ℤ pos (step * j) in
        rw gap_is
        (ap (λ (w : ℕ). weighed (inside r2 dx dy) w (d_at all k)) (weight_is dx)
        ∙ sym (accepted_shares all r2 i j k accepted ∙ gift_weighed all.mode r2 (wind_at all k) (d_at all k) dx dy))

-- the turn of row k, in which s is stored at n: the next entry, where the row is near
module _ (all : Stations) (r2 j k : ℕ) (bounded : r2 ≤ most_square) (ok : Ready all) (known : all.mode ≤ wind_mode) (turn : k < all.count) (room : List Near)
    (long : length room ≡ most_stations) (n : ℕ) (few : n ≤ k) (s : Near) (is : gap all r2 j k < r2 → s ≡ entry all r2 j k) where
  abbrev room' : List Near
  room' = set room n s

  -- the entries gathered before
  other : (t : ℕ) → t < n → get_or room' t nobody ≡ get_or room t nobody
  other t h = get_or-set_other room n t s nobody (λ (e : t ≡ n). omega arith)

  kept_fine : (t : ℕ) → t < n → Sized all.mode (get_or room t nobody) → Sized all.mode (get_or room' t nobody)
  kept_fine t h z = rw (other t h) z

  kept : (i t : ℕ) → t < n → near_share room' r2 i t ≡ near_share room r2 i t
  unfolding near_share
  kept i t h = rw (other t h) refl

  -- and this one
  this : gap all r2 j k < r2 → get_or room' n nobody ≡ entry all r2 j k
  this close = get_or-set_same room n s nobody (omega (arith, long, few, turn, ok.few)) ∙ is close

  new_fine : gap all r2 j k < r2 → Sized all.mode (get_or room' n nobody)
  new_fine close = rw (this close) (entry_fine all r2 j k bounded ok known turn close)

  new : gap all r2 j k < r2 → (i : ℕ) → near_share room' r2 i n ≡ share_at all r2 i j k
  unfolding near_share
  new close i = rw (this close) (entry_gives all r2 j k bounded ok known turn close i)

  pub next_gathered : Gathered (near_share room r2) (λ t. Sized all.mode (get_or room t nobody)) n all r2 j k
      → Gathered (near_share room' r2) (λ t. Sized all.mode (get_or room' t nobody)) (n + cond (ltb (gap all r2 j k) r2) 1 0) all r2 j (k + 1)
  next_gathered near = near_step near kept kept_fine new new_fine

-- ---- a row's entries are the first n of the room

module _ {mode : ℕ} (room : List Near) {n : ℕ} {all : Stations} {r2 j k : ℕ} (near : Gathered (near_share room r2) (λ t. Sized mode (get_or room t nobody)) n all r2 j k) where
  pub gathered_sized : (t : ℕ) → t < n → Sized mode (get_or (take n room) t nobody)
  gathered_sized t h = rw (get_or-take n room t nobody h) (near.sized t h)

  gathered_same : (i : ℕ) → up_to nothing plus n (near_share (take n room) r2 i) ≡ up_to nothing plus n (near_share room r2 i)
  unfolding near_share
  gathered_same i = up_to_same nothing plus n _ _ (λ t h. rw (get_or-take n room t nobody h) refl)

  pub gathered : Gathered (near_share (take n room) r2) (λ t. Sized mode (get_or (take n room) t nobody)) n all r2 j k
  gathered = record { no_more = near.no_more; sized = gathered_sized; same = λ i. gathered_same i ∙ near.same i }

-- which are as many
pub gathered_length : (room : List Near) (n : ℕ) → length room ≡ most_stations → n ≤ most_stations → length (take n room) ≡ n
gathered_length room n long few = length-take-le n room (omega (arith, long, few))

-- each has its place
pub all_placed : {mode : ℕ} (near : List Near) → ((t : ℕ) → t < length near → Sized mode (get_or near t nobody)) → All Placed near
all_placed near sized = All-from_get_or Placed near nobody (λ t h. (sized t h).placed)
