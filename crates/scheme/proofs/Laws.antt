-- What the window theorem asks. A scheme is its pieces, and keeps a few laws, none of which knows of windows or of more than one scan; a run
-- of it on a grid goes from scan to scan by the pieces. Documents 01 and 02 are one scheme (Cressman); a request of document 02 that changes a
-- piece shows its law again, and brings no new theorem.
use Rattle.std.specs.Prelude.{ℕ, suc, ◌+◌, ◌-◌, ◌*◌, ◌<◌, ◌≡◌, true, false, cond, ◌&&◌, List, map, ℤ, pos, ◌-ℤ◌}
use Rattle.lists.specs.Sums.{total}
use Rattle.lists.specs.Parted.{each}
use Rattle.scheme.specs.Units.{Field, step}
use Rattle.scheme.specs.Verdicts.{is_accepted}
use Rattle.scheme.specs.Value.{place}
use Rattle.scheme.specs.Smoothing.{inner}
use Rattle.scheme.specs.Axes.{Axis, len, from_first, On, SameBeside}
use Rattle.scheme.specs.Laws.{Influence, Ranged, Scheme}

-- ---- what stations give to a place, as one sum, in scan number m + 1

-- ---- the pieces

module _ (S : Scheme) where
  -- what the rows give to the place (px, py): one that is not accepted gives nothing
  module _ (I : Influence S.Station S.Diff) (m : ℕ) (D : S.Station → S.Diff) (px py : ℤ) where
    unfoldable pub given : S.Row → I.Sum
    given r =
        let s = S.station r in
        cond (is_accepted (S.verdict r)) (I.give m s (D s) (S.x s -ℤ px) (S.y s -ℤ py)) I.nil

    unfoldable pub gathered : List S.Row → I.Sum
    gathered rows = total I.nil I.plus given rows

  unfoldable pub smoothed_if : (nx ny : ℕ) → Field S.Value → Field S.Value
  smoothed_if nx ny z i j = cond S.smooth (cond (inner nx i && inner ny j) (S.around z i j) (z i j)) (z i j)

  -- ---- the states of a run after m scans, and the sums of scan number m + 1

  pub record States : Type 0 where
    pub field : ℕ → Field S.Value
    pub support : ℕ → Field S.Mark
    pub rows : ℕ → List S.Row
    pub sums : ℕ → Field S.pull.Sum

  -- they are a run on a grid of nx by ny: each state is made of the one before
  pub record Run (nx ny : ℕ) (guess : Field S.Value) (stations : List S.Station) (t : States) : Type 0 where
    pub field_first : (i j : ℕ) → t.field 0 i j ≡ guess i j
    pub support_first : (i j : ℕ) → t.support 0 i j ≡ S.unmarked
    pub rows_first : t.rows 0 ≡ map (S.begins nx ny) stations
    pub rows_next : (m : ℕ) → t.rows (suc m) ≡ each (S.judged m (S.difference nx ny guess (t.field m))) (t.rows m)
    pub sums_are : (m i j : ℕ)
        → t.sums m i j ≡ gathered S.pull m (S.difference nx ny guess (t.field m)) (pos (step * i)) (pos (step * j)) (t.rows (suc m))
    pub field_next : (m i j : ℕ) → t.field (suc m) i j ≡ smoothed_if nx ny (λ k l. S.correct m (t.sums m k l) (t.field m k l)) i j
    pub support_next : (m i j : ℕ) → t.support (suc m) i j ≡ S.mark m (t.sums m i j) (t.support m i j)

  -- a station whose place is on the part
  pub record Placed (a b : Axis) (s : S.Station) : Type 0 where
    pub along_x : On a (place a.n (S.x s))
    pub along_y : On b (place b.n (S.y s))

-- ---- the laws

pub record Laws (S : Scheme) : Type 0 where
  pub pull_ranged : Ranged S S.pull
  pub buddies_ranged : Ranged S S.buddies
  -- a part counts positions from its first points
  pub counted_x : (a b : Axis) (s : S.Station) → S.x (S.counted a b s) ≡ from_first a (S.x s)
  pub counted_y : (a b : Axis) (s : S.Station) → S.y (S.counted a b s) ≡ from_first b (S.y s)
  -- a row begins with its station; a kept one has there its first verdict
  pub begins_station : (nx ny : ℕ) (s : S.Station) → S.station (S.begins nx ny s) ≡ s
  pub begins_counted : (a b : Axis) (s : S.Station) → S.keeps a b s ≡ true
      → S.verdict (S.begins a.n b.n s) ≡ S.verdict (S.begins (len a) (len b) (S.counted a b s))
  -- an accepted station with its place on the part is kept
  pub placed_kept : (a b : Axis) (s : S.Station) → is_accepted (S.verdict (S.begins a.n b.n s)) ≡ true → Placed S a b s
      → S.keeps a b s ≡ true
  -- the difference of a kept station is the same on the part, if the fields are the same at the corners with a share
  pub difference_local : (a b : Axis) (s : S.Station) → S.keeps a b s ≡ true → (guess guess' z z' : Field S.Value)
      → SameBeside a b (place a.n (S.x s)) (place b.n (S.y s)) guess guess'
      → SameBeside a b (place a.n (S.x s)) (place b.n (S.y s)) z z'
      → S.difference a.n b.n guess z s ≡ S.difference (len a) (len b) guess' z' (S.counted a b s)
  -- judging changes the verdict alone, by the difference and what the others give; what is not accepted stays so
  pub judged_station : (m : ℕ) (D : S.Station → S.Diff) (r : S.Row) (others : List S.Row) → S.station (S.judged m D r others) ≡ S.station r
  pub judged_verdict : (m : ℕ) (D : S.Station → S.Diff) (r : S.Row) (others : List S.Row)
      → S.verdict (S.judged m D r others)
      ≡ S.judge m (D (S.station r)) (gathered S S.buddies m D (S.x (S.station r)) (S.y (S.station r)) others) (S.verdict r)
  pub rejected_stays : (m : ℕ) (d : S.Diff) (h : S.buddies.Sum) (v : ℕ) → is_accepted v ≡ false → is_accepted (S.judge m d h v) ≡ false
  -- smoothing sees the point and its eight neighbours
  pub around_local : (z z' : Field S.Value) (i j right down : ℕ) → 0 < i → 0 < j
      → ((a b : ℕ) → a < 3 → b < 3 → z (i + a - 1 + right) (j + b - 1 + down) ≡ z' (i + a - 1) (j + b - 1))
      → S.around z (i + right) (j + down) ≡ S.around z' i j
