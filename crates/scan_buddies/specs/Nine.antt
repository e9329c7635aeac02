-- What a station hears of the survivors in its own cell and the eight around it is what it hears of all.
use Prim.Native.Nat.{ℕ, ◌+◌, ◌*◌, ◌≤◌, ◌<◌}
use Rattle.std.proofs.Common.{arith, ◌∙◌, inl, inr}
use Rattle.std.specs.Prelude.{◌≡◌, refl, ◌⊎◌, Bool, true, false, List, eqb, length, get_or, ℤ, pos, ◌-ℤ◌}
use Rattle.std.proofs.Math.Path.{sym, ap}
use Rattle.std.proofs.Math.Bool.{cond}
use borrow.Author.Tests.{eqb-true, eq-eqb, ne_eqb, lt-ltb, le-ltb}
use Rattle.lists.specs.Tests.{lt_or_le, true_or_false, cond_same, cond_both}
use Rattle.lists.specs.Sums.{up_to, up_to_next, up_to_same, up_to_both}
use Rattle.scheme.specs.Units.{Station}
use Rattle.scheme.specs.Verdicts.{is_accepted}
use Rattle.scheme.specs.Weight.{squares, inside}
use Rattle.scheme.specs.Buddies.{Heard, silence, both}
use Rattle.scheme.proofs.Adding.{silence_both, both_silence, both_assoc}
use Rattle.request.specs.declared.Station.{Station as Row}
use Rattle.request.specs.Tables.{station_in}
use Rattle.scan_buddies.specs.Aside.{said, heard_at, OnAxis, Standing, AllStanding}
use Rattle.scan_buddies.specs.Voices.{told, both_comm, OfAtMost, of_none, of_one, sum_of_most, between, from_cells, among_them, below_them, beyond_them}
use Rattle.scan_buddies.specs.Cells.{across, cells, kinds, side_of, cell_along, cell_of, cell_for, cell_at, Survivors, side_least, side_wide, InRow, along_in_row, along_near, inside_axes}

-- station j is at distance below B from station k
abbrev pub near : (radius : ℕ) (stations : List Row) (k j : ℕ) → Bool
near radius stations k j =
    inside (radius * radius) ((station_in stations j).x -ℤ (station_in stations k).x) ((station_in stations j).y -ℤ (station_in stations k).y)

-- what station j says to station k if it is a survivor
unfoldable pub voice : (radius : ℕ) (stations : List Row) (ds : List ℤ) (k j : ℕ) → Heard
voice radius stations ds k j = cond (eqb j k) silence (cond (near radius stations k j) (told 1 (get_or ds j (pos 0))) silence)

-- the three cells from one on, and so many such rows of cells
abbrev pub three : (cell : ℕ → ℕ) (n first : ℕ) → (ℕ → Heard) → Heard
three cell n first f = from_cells cell n first (first + 3) f

unfoldable pub rows_of : (cell : ℕ → ℕ) (n first rows : ℕ) → (ℕ → Heard) → Heard
rows_of cell n first rows f = up_to silence both rows (λ r. three cell n (first + r * across) f)

-- ---- laws

three_rows : (cell : ℕ → ℕ) (n first : ℕ) (f : ℕ → Heard)
    → rows_of cell n first 3 f ≡ both (both (three cell n first f) (three cell n (first + across) f)) (three cell n (first + 2 * across) f)
unfolding rows_of up_to
three_rows cell n first f =
    let here : ℕ → Heard = λ i. three cell n i f in
    let none : first + 0 * across ≡ first = omega arith in
    let one : first + 1 * across ≡ first + across = omega arith in
    ap (λ (h : Heard). both (both h (here (first + 1 * across))) (here (first + 2 * across))) (silence_both (here (first + 0 * across)) ∙ ap here none)
    ∙ ap (λ (i : ℕ). both (both (here first) (here i)) (here (first + 2 * across))) one

-- a row of cells more
pub rows_none : (cell : ℕ → ℕ) (n first : ℕ) (f : ℕ → Heard) → rows_of cell n first 0 f ≡ silence
unfolding rows_of up_to
rows_none cell n first f = refl

pub rows_next : (cell : ℕ → ℕ) (n first rows : ℕ) (f : ℕ → Heard) → rows_of cell n first (rows + 1) f ≡ both (rows_of cell n first rows f) (three cell n (first + rows * across) f)
unfolding rows_of
rows_next cell n first rows f = up_to_next silence both rows (λ r. three cell n (first + r * across) f)

module _ (radius : ℕ) (stations : List Row) (ds : List ℤ) (k : ℕ) where
  pub voice_small : (j : ℕ) {row : Station} → Standing row (get_or ds j (pos 0)) → OfAtMost 1 (voice radius stations ds k j)
  unfolding voice
  voice_small j s =
      cond_both (OfAtMost 1) (eqb j k) silence _ (λ e. of_none 1)
      (λ e. cond_both (OfAtMost 1) (near radius stations k j) (told 1 (get_or ds j (pos 0))) silence (λ e. of_one (get_or ds j (pos 0)) s.d_small) (λ e. of_none 1))

  pub voice_itself : (j : ℕ) → j ≡ k → voice radius stations ds k j ≡ silence
  unfolding voice
  voice_itself j e = rw (eq-eqb j k e)

  -- by the squared distance
  module _ (j d2 : ℕ) (other : j ≡ k → ⊥) (is : d2 ≡ squares ((station_in stations j).x -ℤ (station_in stations k).x) ((station_in stations j).y -ℤ (station_in stations k).y)) where
    pub voice_far : radius * radius ≤ d2 → voice radius stations ds k j ≡ silence
    unfolding voice
    voice_far h = rw (ne_eqb j k other, ← is, le-ltb d2 (radius * radius) h)

    pub voice_near : d2 < radius * radius → voice radius stations ds k j ≡ told 1 (get_or ds j (pos 0))
    unfolding voice
    voice_near h = rw (ne_eqb j k other, ← is, lt-ltb d2 (radius * radius) h)

  survivor_says : (st : List ℕ) (j : ℕ) → is_accepted (get_or st j 0) ≡ true → said radius stations st ds k j ≡ voice radius stations ds k j
  unfolding said voice
  survivor_says st j e = rw e

  other_says : (st : List ℕ) (j : ℕ) → is_accepted (get_or st j 0) ≡ false → said radius stations st ds k j ≡ silence
  unfolding said
  other_says st j e = rw e (cond_same (eqb j k) silence silence silence (λ e. refl) (λ e. refl))

  said_small : (st : List ℕ) (j : ℕ) → (get_or st j 0 ≡ 0 → Standing (station_in stations j) (get_or ds j (pos 0))) → OfAtMost 1 (said radius stations st ds k j)
  said_small st j h = go (true_or_false (is_accepted (get_or st j 0)))
    where
      go : (is_accepted (get_or st j 0) ≡ true) ⊎ (is_accepted (get_or st j 0) ≡ false) → OfAtMost 1 (said radius stations st ds k j)
      go (inl e) = rw (survivor_says st j e) (voice_small j (h (eqb-true (get_or st j 0) 0 e)))
      go (inr e) = rw (other_says st j e) (of_none 1)

  pub heard_few : (st : List ℕ) → AllStanding stations ds st → OfAtMost (length stations) (heard_at radius stations st ds k)
  unfolding heard_at
  heard_few st h = sum_of_most (length stations) (said radius stations st ds k) (λ j l. said_small st j (h j l))

-- one that says nothing
pub unheard : (before said : Heard) → said ≡ silence → before ≡ both before said
unheard before said e = rw e (sym (both_silence before))

-- in one of three rows of cells, from b on
abbrev in_rows : (b a : ℕ) → Heard → Heard
in_rows b a v =
    both (both (cond (between b (b + 3) a) v silence) (cond (between (b + across) (b + across + 3) a) v silence))
    (cond (between (b + 2 * across) (b + 2 * across + 3) a) v silence)

none_in_rows : (b a : ℕ) → in_rows b a silence ≡ silence
none_in_rows b a = go (between b (b + 3) a) (between (b + across) (b + across + 3) a) (between (b + 2 * across) (b + 2 * across + 3) a)
  where
    go : (p q r : Bool) → both (both (cond p silence silence) (cond q silence silence)) (cond r silence silence) ≡ silence
    go true true true = refl
    go true true false = refl
    go true false true = refl
    go true false false = refl
    go false true true = refl
    go false true false = refl
    go false false true = refl
    go false false false = refl

past_rows : (b a : ℕ) (v : Heard) → b + 2 * across + 3 ≤ a → in_rows b a v ≡ silence
past_rows b a v h =
    rw (beyond_them b (b + 3) a (omega arith), beyond_them (b + across) (b + across + 3) a (omega arith), beyond_them (b + 2 * across) (b + 2 * across + 3) a h)
    (silence_both silence)

-- the cells around the cell (x, y), of which b is the first, and among them (x', y')
near_in_rows : (x y x' y' b a : ℕ) (v : Heard) → InRow x → InRow x' → b + across + 1 ≡ y * across + x → a ≡ y' * across + x'
    → (x' ≤ x + 1) × (x ≤ x' + 1) → (y' ≤ y + 1) × (y ≤ y' + 1) → in_rows b a v ≡ v
near_in_rows x y x' y' b a v row row' eb ea (x-most, x-least) (y-most, y-least) = go (lt_or_le y' y) (lt_or_le y y')
  where
    some : 1 ≤ x
    some = row.some

    some' : 1 ≤ x'
    some' = row'.some

    go : (y' < y) ⊎ (y ≤ y') → (y < y') ⊎ (y' ≤ y) → in_rows b a v ≡ v
    go (inl p) q =
        let e : y ≡ y' + 1 = omega arith in
        rw (among_them b (b + 3) a (omega arith) (omega arith), below_them (b + across) (b + across + 3) a (omega arith), below_them (b + 2 * across) (b + 2 * across + 3) a (omega arith))
        (both_silence (both v silence) ∙ both_silence v)
    go (inr p) (inl q) =
        let e : y' ≡ y + 1 = omega arith in
        rw (beyond_them b (b + 3) a (omega arith), beyond_them (b + across) (b + across + 3) a (omega arith), among_them (b + 2 * across) (b + 2 * across + 3) a (omega arith) (omega arith))
        (silence_both v)
    go (inr p) (inr q) =
        let e : y' ≡ y = omega arith in
        rw (beyond_them b (b + 3) a (omega arith), among_them (b + across) (b + across + 3) a (omega arith) (omega arith), below_them (b + 2 * across) (b + 2 * across + 3) a (omega arith))
        (both_silence (both silence v) ∙ silence_both v)

-- a survivor's cell has eight around it
pub record Framed (c : ℕ) : Type 0 where
  pub least : across + 1 ≤ c
  pub most : c + across + 2 ≤ cells

pub cell_framed : (radius : ℕ) (s : Station) → OnAxis s.x → OnAxis s.y → Framed (cell_of radius s)
unfolding cell_of
cell_framed radius s on on' =
    let x = along_in_row (side_of radius) (side_least radius) s.x on in
    let y = along_in_row (side_of radius) (side_least radius) s.y on' in
    record { least = omega (arith, x.some, y.some); most = omega (arith, x.most, y.most) }

-- every station's chain is one of the chains
pub cell_of_kinds : (radius verdict : ℕ) (s : Station) → (verdict ≡ 0 → OnAxis s.x × OnAxis s.y) → cell_for radius verdict s < kinds
unfolding cell_for
cell_of_kinds radius verdict s h =
    cond_both (λ (c : ℕ). c < kinds) (is_accepted verdict) (cell_of radius s) cells
    (λ e. let (on, on') = h (eqb-true verdict 0 e) in omega (arith, (cell_framed radius s on on').most)) (λ e. omega arith)

-- the cell of station j, by its verdict
module _ (radius : ℕ) (stations : List Row) (st : List ℕ) (j : ℕ) where
  pub survivor_cell : is_accepted (get_or st j 0) ≡ true → cell_at radius stations st j ≡ cell_of radius (station_in stations j)
  unfolding cell_for
  survivor_cell e = rw e

  pub other_cell : is_accepted (get_or st j 0) ≡ false → cell_at radius stations st j ≡ cells
  unfolding cell_for
  other_cell e = rw e

  pub in_cell : cell_at radius stations st j < cells → get_or st j 0 ≡ 0
  in_cell h = go (true_or_false (is_accepted (get_or st j 0)))
    where
      go : (is_accepted (get_or st j 0) ≡ true) ⊎ (is_accepted (get_or st j 0) ≡ false) → get_or st j 0 ≡ 0
      go (inl e) = eqb-true (get_or st j 0) 0 e
      go (inr e) = absurd (omega (arith, other_cell e))

module _ (radius : ℕ) (stations : List Row) (ds : List ℤ) (heads next : List ℕ) (st : List ℕ) (s : Survivors radius stations ds heads next st)
    (k : ℕ) (here : Standing (station_in stations k) (get_or ds k (pos 0))) (b : ℕ) (first : b + across + 1 ≡ cell_of radius (station_in stations k)) where
  abbrev n : ℕ
  n = length stations

  abbrev itself : Station
  itself = station_in stations k

  abbrev v : ℕ → Heard
  v = voice radius stations ds k

  -- a survivor outside the radius, or the station itself, says nothing wherever it is
  silent : (j : ℕ) → v j ≡ silence → in_rows b (cell_of radius (station_in stations j)) (v j) ≡ v j
  silent j e = rw e (none_in_rows b (cell_of radius (station_in stations j)))

  heard_near : (j : ℕ) → Standing (station_in stations j) (get_or ds j (pos 0)) → near radius stations k j ≡ true → in_rows b (cell_of radius (station_in stations j)) (v j) ≡ v j
  heard_near j there e =
      let other = station_in stations j in
      let side = side_of radius in
      let wide = side_least radius in
      let (dx, dy) = inside_axes radius (other.x -ℤ itself.x) (other.y -ℤ itself.y) e in
      near_in_rows (cell_along side itself.x) (cell_along side itself.y) (cell_along side other.x) (cell_along side other.y) b (cell_of radius other) (v j)
      (along_in_row side wide itself.x here.x) (along_in_row side wide other.x there.x) first_is (unfold cell_of in refl)
      (along_near side wide other.x itself.x there.x here.x (omega (arith, side_wide radius)))
      (along_near side wide other.y itself.y there.y here.y (omega (arith, side_wide radius)))
    where
      first_is : b + across + 1 ≡ cell_along (side_of radius) itself.y * across + cell_along (side_of radius) itself.x
      first_is = unfold cell_of in first

  survivor_heard : (j : ℕ) → Standing (station_in stations j) (get_or ds j (pos 0)) → in_rows b (cell_of radius (station_in stations j)) (v j) ≡ v j
  survivor_heard j there = go (true_or_false (eqb j k)) (true_or_false (near radius stations k j))
    where
      same : eqb j k ≡ true → v j ≡ silence
      same e = unfold voice in rw e

      outside : eqb j k ≡ false → near radius stations k j ≡ false → v j ≡ silence
      outside e o = unfold voice in rw (e, o)

      go : (eqb j k ≡ true) ⊎ (eqb j k ≡ false) → (near radius stations k j ≡ true) ⊎ (near radius stations k j ≡ false) → in_rows b (cell_of radius (station_in stations j)) (v j) ≡ v j
      go (inl e) q = silent j (same e)
      go (inr e) (inl q) = heard_near j there q
      go (inr e) (inr q) = silent j (outside e q)

  station_heard : (j : ℕ) → j < n → in_rows b (cell_at radius stations st j) (v j) ≡ said radius stations st ds k j
  station_heard j l = go (true_or_false (is_accepted (get_or st j 0)))
    where
      go : (is_accepted (get_or st j 0) ≡ true) ⊎ (is_accepted (get_or st j 0) ≡ false) → in_rows b (cell_at radius stations st j) (v j) ≡ said radius stations st ds k j
      go (inl e) =
          rw (survivor_cell radius stations st j e, survivor_says radius stations ds k st j e)
          (survivor_heard j (s.standing j l (eqb-true (get_or st j 0) 0 e)))
      go (inr e) =
          rw (other_cell radius stations st j e, other_says radius stations ds k st j e)
          (past_rows b cells (v j) (omega (arith, first, (cell_framed radius itself here.x here.y).most)))

  pub nine_are_all : rows_of (cell_at radius stations st) n b 3 v ≡ heard_at radius stations st ds k
  unfolding from_cells heard_at
  nine_are_all =
      let at = cell_at radius stations st in
      let one : ℕ → Heard = λ j. cond (between b (b + 3) (at j)) (v j) silence in
      let two : ℕ → Heard = λ j. cond (between (b + across) (b + across + 3) (at j)) (v j) silence in
      let third : ℕ → Heard = λ j. cond (between (b + 2 * across) (b + 2 * across + 3) (at j)) (v j) silence in
      three_rows at n b v
      ∙ ap (λ (h : Heard). both h (up_to silence both n third)) (up_to_both silence both silence_both both_assoc both_comm n one two)
      ∙ up_to_both silence both silence_both both_assoc both_comm n (λ j. both (one j) (two j)) third
      ∙ up_to_same silence both n _ (said radius stations st ds k) station_heard
