-- THE HEART of the window theorem: what stations give to a place at most v units off the window is the same on the grid and on the cut, if
-- verdicts and differences are the same v + range units off. It serves points and stations alike.
use Rattle.std.specs.Prelude.{ℕ, ◌+◌, ◌*◌, ◌≤◌, ◌<◌, ◌≡◌, refl, ◌⊎◌, Bool, false, cond, List, ℤ, pos, nat_abs, ◌-ℤ◌}
use Rattle.std.proofs.Math.Path.{sym}
use Rattle.std.proofs.Common.{◌∙◌, inl, inr}
use Rattle.std.proofs.Math.Bool.{true}
use Rattle.integers.specs.Ring.{minus_moved}
use Rattle.lists.specs.Tests.{lt_or_le, cond_same}
use Rattle.lists.specs.Parted.{Parted}
use Rattle.lists.proofs.Parted.{total_parted, parted_also}
use Rattle.scheme.specs.Units.{step}
use Rattle.scheme.specs.Verdicts.{is_accepted}
use Rattle.scheme.specs.Value.{place}
use Rattle.scheme.specs.Axes.{off, from_first}
use Rattle.scheme.specs.Laws.{Influence, Scheme, Ranged}
use Rattle.scheme.proofs.Laws.{given, gathered, Placed, Laws}
use Rattle.scheme.specs.Near.{Side, Spot}
use Rattle.scheme.proofs.Near.{cut_along, spot_more, near_spot, spot_on}

module _ (S : Scheme) (across down : Side) where
  abbrev pub is_kept : S.Station → Bool
  is_kept s = S.keeps (cut_along across) (cut_along down) s

  -- a station as the cut counts it
  abbrev pub in_cut : S.Station → S.Station
  in_cut s = S.counted (cut_along across) (cut_along down) s

  -- a station whose place is at most u units off the window
  pub record Near (u : ℕ) (s : S.Station) : Type 0 where
    pub along_x : Spot across u (place across.n (S.x s))
    pub along_y : Spot down u (place down.n (S.y s))

  pub near_more : (u v : ℕ) (s : S.Station) → u ≤ v → Near u s → Near v s
  near_more u v s h c = record { along_x = spot_more across u v _ h c.along_x; along_y = spot_more down u v _ h c.along_y }

  -- a row that the cut keeps, and its row there: one verdict, if at most u units off the window
  pub record Twin (u : ℕ) (r c : S.Row) : Type 0 where
    pub kept : is_kept (S.station r) ≡ true
    pub same : S.station c ≡ in_cut (S.station r)
    pub verdicts : Near u (S.station r) → S.verdict r ≡ S.verdict c

  -- a row that the cut leaves out: while it is accepted, its place is not on the cut
  pub record Gone (r : S.Row) : Type 0 where
    pub left : is_kept (S.station r) ≡ false
    pub away : is_accepted (S.verdict r) ≡ true → Placed S (cut_along across) (cut_along down) (S.station r) → ⊥

  -- the rows of the grid, and of the cut
  abbrev pub Rows : ℕ → List S.Row → List S.Row → Type 0
  Rows u rs cs = Parted (Twin u) Gone rs cs

  pub rows_less : (u v : ℕ) → u ≤ v → {rs cs : List S.Row} → Rows v rs cs → Rows u rs cs
  rows_less u v h p = parted_also (Twin u) Gone less (λ r g. g) p
    where
      less : (r c : S.Row) → Twin v r c → Twin u r c
      less r c t = record { kept = t.kept; same = t.same; verdicts = λ n. t.verdicts (near_more u v (S.station r) h n) }

  -- ---- at the place (px, py), in scan number m + 1
  module _ (law : Laws S) (I : Influence S.Station S.Diff) (ranged : Ranged S I) (m : ℕ) (D D' : S.Station → S.Diff) (v u : ℕ)
      (fits : v + I.range m ≤ u) (on_x : u ≤ step * across.wider) (on_y : u ≤ step * down.wider)
      (same_D : (s : S.Station) → is_kept s ≡ true → Near u s → D s ≡ D' (in_cut s))
      (px py : ℤ) (near-x : Spot across v (place across.n px)) (near-y : Spot down v (place down.n py)) where
    -- as far off the place as the range
    abbrev Far : S.Station → Type 0
    Far s = (I.range m ≤ nat_abs (S.x s -ℤ px)) ⊎ (I.range m ≤ nat_abs (S.y s -ℤ py))

    near_or_far : (s : S.Station) → Near u s ⊎ Far s
    near_or_far s = go (lt_or_le (nat_abs (S.x s -ℤ px)) (I.range m)) (lt_or_le (nat_abs (S.y s -ℤ py)) (I.range m))
      where
        go : (nat_abs (S.x s -ℤ px) < I.range m) ⊎ (I.range m ≤ nat_abs (S.x s -ℤ px))
            → (nat_abs (S.y s -ℤ py) < I.range m) ⊎ (I.range m ≤ nat_abs (S.y s -ℤ py)) → Near u s ⊎ Far s
        go (inl p) (inl q) =
            inl (record {
              along_x = spot_more across (v + I.range m) u _ fits (near_spot across v (I.range m) (S.x s) px near-x p);
              along_y = spot_more down (v + I.range m) u _ fits (near_spot down v (I.range m) (S.y s) py near-y q);
            })
        go (inl p) (inr q) = inr (inr q)
        go (inr p) q = inr (inl p)

    -- the offset is the same on the cut
    offset_x : (s : S.Station) → S.x (in_cut s) -ℤ from_first (cut_along across) px ≡ S.x s -ℤ px
    offset_x s = rw (law.counted_x (cut_along across) (cut_along down) s) (minus_moved (S.x s) px (pos (step * off (cut_along across))))

    offset_y : (s : S.Station) → S.y (in_cut s) -ℤ from_first (cut_along down) py ≡ S.y s -ℤ py
    offset_y s = rw (law.counted_y (cut_along across) (cut_along down) s) (minus_moved (S.y s) py (pos (step * off (cut_along down))))

    -- what a kept row gives on the cut, told by the grid's offset
    given_cut : (r c : S.Row) → Twin u r c → given S I m D' (from_first (cut_along across) px) (from_first (cut_along down) py) c
        ≡ cond (is_accepted (S.verdict c))
        (I.give m (S.station r) (D' (in_cut (S.station r))) (S.x (S.station r) -ℤ px) (S.y (S.station r) -ℤ py)) I.nil
    unfolding given
    given_cut r c t =
        let s = S.station r in
        rw (t.same, offset_x s, offset_y s, ranged.give_counted (cut_along across) (cut_along down) m s (D' (in_cut s)) (S.x s -ℤ px) (S.y s -ℤ py))

    given_twin : (r c : S.Row) → Twin u r c
        → given S I m D px py r ≡ given S I m D' (from_first (cut_along across) px) (from_first (cut_along down) py) c
    given_twin r c t = go (near_or_far (S.station r)) ∙ sym (given_cut r c t)
      where
        go : Near u (S.station r) ⊎ Far (S.station r) → given S I m D px py r
            ≡ cond (is_accepted (S.verdict c))
            (I.give m (S.station r) (D' (in_cut (S.station r))) (S.x (S.station r) -ℤ px) (S.y (S.station r) -ℤ py)) I.nil
        go (inl n) = unfold given in cc (t.verdicts n, same_D (S.station r) t.kept n)
        go (inr f) =
            unfold given in
            (cond_same (is_accepted (S.verdict r)) _ _ I.nil (λ e. ranged.far m _ _ _ _ f) (λ e. refl)
            ∙ sym (cond_same (is_accepted (S.verdict c)) _ _ I.nil (λ e. ranged.far m _ _ _ _ f) (λ e. refl)))

    given_gone : (r : S.Row) → Gone r → given S I m D px py r ≡ I.nil
    unfolding given
    given_gone r g = cond_same (is_accepted (S.verdict r)) _ _ I.nil (λ e. go e (near_or_far (S.station r))) (λ e. refl)
      where
        go : is_accepted (S.verdict r) ≡ true → Near u (S.station r) ⊎ Far (S.station r)
            → I.give m (S.station r) (D (S.station r)) (S.x (S.station r) -ℤ px) (S.y (S.station r) -ℤ py) ≡ I.nil
        go e (inl n) =
            absurd (g.away e (record {
              along_x = spot_on across u (S.x (S.station r)) on_x n.along_x;
              along_y = spot_on down u (S.y (S.station r)) on_y n.along_y;
            }))
        go e (inr f) = ranged.far m _ _ _ _ f

    pub gathered_same : {rs cs : List S.Row} → Rows u rs cs
        → gathered S I m D px py rs ≡ gathered S I m D' (from_first (cut_along across) px) (from_first (cut_along down) py) cs
    unfolding gathered
    gathered_same p = total_parted I.nil I.plus _ _ ranged.nil_plus given_twin given_gone p
