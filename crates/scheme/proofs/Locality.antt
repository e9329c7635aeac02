-- THE WINDOW THEOREM, for every scheme that keeps the laws: on the window a run on the cut is the run on the grid, in field, support and verdicts.
-- How it goes. Between scans the two are alike at most ρ steps off the window, ρ being the reach still to come. A scan with ranges R (stations
-- on a point) and B (stations on a station) finds 64ρ + R + B units alike, and leaves 64ρ + R for the verdicts and 64ρ for the points;
-- smoothing takes one step more.
use Prim.Native.Nat.{ℕ, zero, suc, ◌+◌, ◌-◌, ◌*◌, ◌≤◌, ◌<◌}
use Rattle.std.proofs.Common.{arith, ap, ◌∙◌, inl, inr}
use Rattle.std.specs.Prelude.{◌≡◌, refl, ◌⊎◌, true, false, cond, length, get_or, pos, ◌-ℤ◌}
use Rattle.std.proofs.Math.Path.{sym}
use mathlib.Core.List.{List, [], ◌∷◌, map}
use Rattle.integers.specs.Ring.{pos_minus}
use Rattle.lists.specs.Tests.{true_or_false, not_both}
use Rattle.lists.specs.Sums.{up_to}
use Rattle.lists.specs.Keep.{keep}
use Rattle.lists.specs.Parted.{rank, end, kept, gone}
use Rattle.lists.proofs.Parted.{rank_map, map_each, each_parted, parted_at}
use Rattle.scheme.specs.Units.{Field, step}
use Rattle.scheme.specs.Verdicts.{is_accepted}
use Rattle.scheme.specs.Axes.{Axis, off, len, from_first}
use Rattle.scheme.specs.Laws.{Scheme}
use Rattle.scheme.proofs.Laws.{States, Run, gathered, Placed, Laws}
use Rattle.scheme.specs.Near.{Side, Inside}
use Rattle.scheme.proofs.Near.{cut_along, Agree, inside_point, beside_point, point_spot, agree_less}
use Rattle.scheme.proofs.Gathered.{is_kept, in_cut, Near, near_more, Twin, Gone, Rows, rows_less, gathered_same}
use Rattle.scheme.proofs.Borders.{smoothing_agrees}

-- what agrees on the window, said of its points
pub agree_inside : {A : Type 0} (across down : Side) (f g : Field A) → Agree across down 0 f g → (i j : ℕ) → Inside across i → Inside down j
    → g (i - off (cut_along across)) (j - off (cut_along down)) ≡ f i j
unfolding Agree
agree_inside across down f g ag i j hi hj =
    let (p, ei) = inside_point across i hi in
    let (r, ej) = inside_point down j hj in
    sym (ag (i - off (cut_along across)) (j - off (cut_along down)) p r) ∙ rw (ei, ej)

-- the stations that the cut keeps, in order, as it counts them
abbrev pub kept_stations : (S : Scheme) (across down : Side) → List S.Station → List S.Station
kept_stations S across down stations = map (in_cut S across down) (keep (is_kept S across down) stations)

-- a run on the grid, and one on the cut with just the first guess and the stations there
pub record Runs (S : Scheme) (across down : Side) : Type 0 where
  pub law : Laws S
  pub guess : Field S.Value
  pub guess' : Field S.Value
  pub same_guess : (i j : ℕ) → i < len (cut_along across) → j < len (cut_along down)
      → guess (i + off (cut_along across)) (j + off (cut_along down)) ≡ guess' i j
  pub stations : List S.Station
  pub whole : States S
  pub whole_runs : Run S across.n down.n guess stations whole
  pub part : States S
  pub part_runs : Run S (len (cut_along across)) (len (cut_along down)) guess' (kept_stations S across down stations) part

module _ (S : Scheme) (across down : Side) (both : Runs S across down) where
  abbrev a : Axis
  a = cut_along across

  abbrev b : Axis
  b = cut_along down

  abbrev law : Laws S
  law = both.law

  -- alike at most ρ steps off the window, after m scans
  pub record Alike (ρ m : ℕ) : Type 0 where
    pub fields : Agree across down ρ (both.whole.field m) (both.part.field m)
    pub supports : Agree across down ρ (both.whole.support m) (both.part.support m)
    pub rows : Rows S across down (step * ρ) (both.whole.rows m) (both.part.rows m)

  -- ---- the start

  abbrev whole_row : S.Station → S.Row
  whole_row s = S.begins across.n down.n s

  abbrev cut_row : S.Station → S.Row
  cut_row s = S.begins (len a) (len b) s

  kept_row : (u : ℕ) (s : S.Station) → is_kept S across down s ≡ true → Twin S across down u (whole_row s) (cut_row (in_cut S across down s))
  kept_row u s e =
      let t = law.begins_station across.n down.n s in
      record {
        kept = rw t e;
        same = law.begins_station (len a) (len b) (in_cut S across down s) ∙ ap (in_cut S across down) (sym t);
        verdicts = λ n. law.begins_counted a b s e;
      }

  gone_row : (s : S.Station) → is_kept S across down s ≡ false → Gone S across down (whole_row s)
  gone_row s e =
      let t = law.begins_station across.n down.n s in
      record { left = rw t e; away = λ v p. not_both (sym (law.placed_kept a b s v (rw t at p)) ∙ e) }

  start_rows : (u : ℕ) (ss : List S.Station)
      → Rows S across down u (map whole_row ss) (map cut_row (map (in_cut S across down) (keep (is_kept S across down) ss)))
  unfolding keep
  start_rows u [] = end
  start_rows u (s ∷ ss) = go (true_or_false (is_kept S across down s)) (start_rows u ss)
    where
      go : (is_kept S across down s ≡ true) ⊎ (is_kept S across down s ≡ false)
          → Rows S across down u (map whole_row ss) (map cut_row (map (in_cut S across down) (keep (is_kept S across down) ss)))
          → Rows S across down u (whole_row s ∷ map whole_row ss)
          (map cut_row (map (in_cut S across down) (cond (is_kept S across down s) (s ∷ keep (is_kept S across down) ss) (keep (is_kept S across down) ss))))
      go (inl e) r = rw e (kept (kept_row u s e) r)
      go (inr e) r = rw e (gone (gone_row s e) r)

  start_alike : (ρ : ℕ) → Alike ρ 0
  unfolding Agree
  start_alike ρ =
      record {
        fields = λ i j p r. both.whole_runs.field_first (i + off a) (j + off b) ∙ both.same_guess i j p.inside r.inside ∙ sym (both.part_runs.field_first i j);
        supports = λ i j p r. both.whole_runs.support_first (i + off a) (j + off b) ∙ sym (both.part_runs.support_first i j);
        rows = rw (both.whole_runs.rows_first, both.part_runs.rows_first) (start_rows (step * ρ) both.stations);
      }

  -- ---- scan number m + 1

  -- the differences
  abbrev D : ℕ → S.Station → S.Diff
  D m = S.difference across.n down.n both.guess (both.whole.field m)

  abbrev D' : ℕ → S.Station → S.Diff
  D' m = S.difference (len a) (len b) both.guess' (both.part.field m)

  same_difference : (σ m : ℕ) → Agree across down σ (both.whole.field m) (both.part.field m) → (s : S.Station) → is_kept S across down s ≡ true
      → Near S across down (step * σ) s → D m s ≡ D' m (in_cut S across down s)
  unfolding Agree
  same_difference σ m ag s e n =
      law.difference_local a b s e both.guess both.guess' (both.whole.field m) (both.part.field m)
      (λ i j p r. both.same_guess i j p.inside r.inside)
      (λ i j p r. ag i j (beside_point across σ _ i n.along_x p) (beside_point down σ _ j n.along_y r))

  -- before smoothing, from σ steps to ρ
  module _ (m ρ σ : ℕ) (room : step * ρ + (S.pull.range m + S.buddies.range m) ≤ step * σ)
      (on_x : σ ≤ across.wider) (on_y : σ ≤ down.wider) (h : Alike σ m) where
    -- how far off the verdicts of this scan are the same
    abbrev told : ℕ
    told = step * ρ + S.pull.range m

    same_D : (u : ℕ) → u ≤ step * σ → (s : S.Station) → is_kept S across down s ≡ true → Near S across down u s
        → D m s ≡ D' m (in_cut S across down s)
    same_D u l s e n = same_difference σ m h.fields s e (near_more S across down u (step * σ) s l n)

    -- what the others give to a station
    heard_same : (s : S.Station) {rs cs : List S.Row} → Rows S across down (step * σ) rs cs → Near S across down told s
        → gathered S S.buddies m (D m) (S.x s) (S.y s) rs
        ≡ gathered S S.buddies m (D' m) (S.x (in_cut S across down s)) (S.y (in_cut S across down s)) cs
    heard_same s p n =
        rw (law.counted_x a b s, law.counted_y a b s)
        (gathered_same S across down law S.buddies law.buddies_ranged m (D m) (D' m) told (step * σ)
        (omega arith) (omega arith) (omega arith) (same_D (step * σ) (omega arith)) (S.x s) (S.y s) n.along_x n.along_y p)

    judged_twin : (r c : S.Row) (rs cs : List S.Row) → Twin S across down (step * σ) r c → Rows S across down (step * σ) rs cs
        → Twin S across down told (S.judged m (D m) r rs) (S.judged m (D' m) c cs)
    judged_twin r c rs cs t p =
        let er = law.judged_station m (D m) r rs in
        record {
          kept = rw er t.kept;
          same = law.judged_station m (D' m) c cs ∙ t.same ∙ ap (in_cut S across down) (sym er);
          verdicts = λ n. law.judged_verdict m (D m) r rs ∙ one (rw er at n) ∙ sym (law.judged_verdict m (D' m) c cs);
        }
      where
        one : Near S across down told (S.station r)
            → S.judge m (D m (S.station r)) (gathered S S.buddies m (D m) (S.x (S.station r)) (S.y (S.station r)) rs) (S.verdict r)
            ≡ S.judge m (D' m (S.station c)) (gathered S S.buddies m (D' m) (S.x (S.station c)) (S.y (S.station c)) cs) (S.verdict c)
        one n =
            rw t.same (cc (
              same_D told (omega arith) (S.station r) t.kept n,
              heard_same (S.station r) p n,
              t.verdicts (near_more S across down told (step * σ) (S.station r) (omega arith) n),
            ))

    judged_gone : (r : S.Row) (rs : List S.Row) → Gone S across down r → Gone S across down (S.judged m (D m) r rs)
    judged_gone r rs g =
        let er = law.judged_station m (D m) r rs in
        record { left = rw er g.left; away = λ e p. go (true_or_false (is_accepted (S.verdict r))) e (rw er at p) }
      where
        go : (is_accepted (S.verdict r) ≡ true) ⊎ (is_accepted (S.verdict r) ≡ false) → is_accepted (S.verdict (S.judged m (D m) r rs)) ≡ true
            → Placed S a b (S.station r) → ⊥
        go (inl v) e p = g.away v p
        go (inr v) e p =
            not_both (sym e ∙ ap is_accepted (law.judged_verdict m (D m) r rs) ∙ law.rejected_stays m _ _ (S.verdict r) v)

    rows_same : Rows S across down told (both.whole.rows (suc m)) (both.part.rows (suc m))
    rows_same =
        rw (both.whole_runs.rows_next m, both.part_runs.rows_next m)
        (each_parted (Twin S across down told) (Gone S across down) (S.judged m (D m)) (S.judged m (D' m)) judged_twin judged_gone h.rows)

    -- a point of the cut stands where the grid has it
    point_counted : (w : Side) (i : ℕ) → from_first (cut_along w) (pos (step * (i + off (cut_along w)))) ≡ pos (step * i)
    point_counted w i = go (off (cut_along w))
      where
        go : (o : ℕ) → pos (step * (i + o)) -ℤ pos (step * o) ≡ pos (step * i)
        go o =
            let e : step * (i + o) - step * o ≡ step * i = omega arith in
            pos_minus (step * (i + o)) (step * o) (omega arith) ∙ ap pos e

    sums_same : Agree across down ρ (both.whole.sums m) (both.part.sums m)
    unfolding Agree
    sums_same i j p r =
        both.whole_runs.sums_are m (i + off a) (j + off b)
        ∙ gathered_same S across down law S.pull law.pull_ranged m (D m) (D' m) (step * ρ) told (omega arith) (omega arith) (omega arith)
        (same_D told (omega arith)) (pos (step * (i + off a))) (pos (step * (j + off b))) (point_spot across ρ i p) (point_spot down ρ j r) rows_same
        ∙ rw (point_counted across i, point_counted down j) (sym (both.part_runs.sums_are m i j))

    corrected_same : Agree across down ρ (λ i j. S.correct m (both.whole.sums m i j) (both.whole.field m i j)) (λ i j. S.correct m (both.part.sums m i j) (both.part.field m i j))
    unfolding Agree
    corrected_same i j p r =
        cc (sums_same i j p r, agree_less across down ρ σ (both.whole.field m) (both.part.field m) (omega arith) h.fields i j p r)

  -- ---- a scan, smoothing included: `taken` steps are used up

  module _ (taken : ℕ → ℕ) (enough : (m : ℕ) → S.pull.range m + S.buddies.range m + step * cond S.smooth 1 0 ≤ step * taken m) where
    module _ (m ρ : ℕ) (on_x : taken m + ρ ≤ across.wider) (on_y : taken m + ρ ≤ down.wider) (h : Alike (taken m + ρ) m) where
      -- the steps left before smoothing
      abbrev left : ℕ
      left = cond S.smooth 1 0 + ρ

      room : step * left + (S.pull.range m + S.buddies.range m) ≤ step * (taken m + ρ)
      room = omega (arith, enough m)

      left_fits : left ≤ taken m + ρ
      left_fits = omega (arith, enough m)

      scan_alike : Alike ρ (suc m)
      unfolding Agree
      scan_alike =
          record {
            fields =
                λ i j p r. both.whole_runs.field_next m (i + off a) (j + off b)
                ∙ smoothing_agrees S law across down ρ _ _ (omega (arith, left_fits)) (omega (arith, left_fits))
                (corrected_same m left (taken m + ρ) room on_x on_y h) i j p r
                ∙ sym (both.part_runs.field_next m i j);
            supports =
                λ i j p r. both.whole_runs.support_next m (i + off a) (j + off b)
                ∙ cc (
                  agree_less across down ρ left (both.whole.sums m) (both.part.sums m) (omega arith) (sums_same m left (taken m + ρ) room on_x on_y h) i j p r,
                  agree_less across down ρ (taken m + ρ) (both.whole.support m) (both.part.support m) (omega arith) h.supports i j p r,
                )
                ∙ sym (both.part_runs.support_next m i j);
            rows = rows_less S across down (step * ρ) _ (omega arith) (rows_same m left (taken m + ρ) room on_x on_y h);
          }

    -- ---- m scans
    pub run_alike : (m ρ : ℕ) → up_to 0 ◌+◌ m taken + ρ ≤ across.wider → up_to 0 ◌+◌ m taken + ρ ≤ down.wider → Alike ρ m
    unfolding up_to
    run_alike zero ρ hx hy = start_alike ρ
    run_alike (suc m) ρ hx hy =
        scan_alike m ρ (omega arith) (omega arith) (run_alike m (taken m + ρ) (unfold up_to in omega arith) (unfold up_to in omega arith))

  -- ---- which row of the cut is which

  -- scans move no station
  stations_first : (ss : List S.Station) → map S.station (map whole_row ss) ≡ ss
  stations_first [] = refl
  stations_first (s ∷ ss) = cc (law.begins_station across.n down.n s, stations_first ss)

  pub stations_stay : (m : ℕ) → map S.station (both.whole.rows m) ≡ both.stations
  stations_stay zero = rw both.whole_runs.rows_first (stations_first both.stations)
  stations_stay (suc m) =
      rw (both.whole_runs.rows_next m) (map_each S.station (S.judged m (D m)) (λ r rs. law.judged_station m (D m) r rs) (both.whole.rows m)) ∙ stations_stay m

  -- row k of the grid, if the cut keeps it, and the row of the cut at its rank
  pub twin_row : (m ρ : ℕ) → Alike ρ m → (o o' : S.Row) (k : ℕ) → k < length (both.whole.rows m) → is_kept S across down (S.station (get_or (both.whole.rows m) k o)) ≡ true
      → Twin S across down (step * ρ) (get_or (both.whole.rows m) k o) (get_or (both.part.rows m) (rank (is_kept S across down) both.stations k) o')
  twin_row m ρ h o o' k l e =
      let same : rank (λ r. is_kept S across down (S.station r)) (both.whole.rows m) k ≡ rank (is_kept S across down) both.stations k =
      sym (rank_map (is_kept S across down) S.station (both.whole.rows m) k)
      ∙ ap (λ (ss : List S.Station). rank (is_kept S across down) ss k) (stations_stay m) in
      rw (← same)
      (parted_at (λ r. is_kept S across down (S.station r)) (λ r c t. t.kept) (λ r g. g.left) o o' h.rows k l e)
