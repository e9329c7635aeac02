-- Posts beyond the border: their difference is the same in every scan, so that none is rejected later under limits that do not fall; and for a
-- request without posts nothing moves, however far off a post may be: document 01, where it may not be off at all, gives the same run.
use Prim.Native.Nat.{ℕ, zero, suc, ◌+◌, ◌-◌, ◌*◌, ◌≤◌, ◌<◌}
use Rattle.std.proofs.Common.{arith, add-zero, ◌∙◌, inl, inr, leb-true, le-leb, le-ltb, eqb-true}
use Rattle.std.specs.Prelude.{◌≡◌, refl, ◌⊎◌, false, List, map, ℤ, pos, negsuc, nat_abs, ◌-ℤ◌}
use Rattle.std.proofs.Math.Path.{sym, ap}
use Rattle.std.proofs.Math.Bool.{true, not}
use Rattle.lists.specs.Tests.{true_or_false, not_both, and_true}
use Rattle.lists.specs.Members.{All, none, more}
use Rattle.scheme.specs.Units.{step, Station, E, B, Request, guess}
use Rattle.scheme.specs.Verdicts.{near_axis, near_grid, off_grid, is_accepted, before_scans}
use Rattle.scheme.specs.Value.{value_at}
use Rattle.scheme.specs.Difference.{Row, difference, after_test, tested}
use Rattle.scheme.specs.Scan.{State, begins, start, differences, scan, after_within, after}
use Rattle.scheme.proofs.Judging.{judged_station, accepted_passed, alone_as_tested}
use Rattle.scheme.specs.DeadMasts.{row_after, survivors}
use Rattle.scheme.proofs.DeadMasts.{judged_in, row_next, station_stays}
use Rattle.scheme.specs.Posts.{Beyond, NoPost}

-- ---- the difference of a post

-- whatever the scan finds, it is the observation less the first guess at the nearest place on the grid
pub post_differs_from_first_guess : (q : Request) (found : State) (s : Station) → Beyond q s
    → differences q found s ≡ s.value -ℤ value_at q.nx q.ny (guess q) s
unfolding difference
post_differs_from_first_guess q found s off = rw off

-- ---- so a post that one scan accepts passes the E test of each later one, as long as its limit is no lower

-- a row that is accepted and within the limit stays as it is
within_stays : (number limit : ℕ) (D : Station → ℤ) (r : Row) → is_accepted r.verdict ≡ true → nat_abs (D r.station) ≤ limit → tested number limit D r ≡ r
unfolding tested after_test
within_stays number limit D r e h =
    rw (e, le-ltb limit (nat_abs (D r.station)) h) (ap (λ (v : ℕ). record { station = r.station; verdict = v }) (sym (eqb-true r.verdict 0 e)))

-- scan number m + 1 accepts row n, which is a post
module _ (q : Request) (m n : ℕ) (off : Beyond q (row_after q (suc m) n).station) (e : is_accepted (row_after q (suc m) n).verdict ≡ true) where
  -- it found its difference within the limit
  within_limit : nat_abs ((row_after q (suc m) n).station.value -ℤ value_at q.nx q.ny (guess q) (row_after q (suc m) n).station) ≤ E q.plan m
  within_limit =
      rw (← (post_differs_from_first_guess q (after q m) (row_after q (suc m) n).station off)) (go (row_after q (suc m) n) (row_next q m n) e)
    where
      go : (r : Row) → r ≡ judged_in q m n (row_after q m n) → is_accepted r.verdict ≡ true → nat_abs (differences q (after q m) r.station) ≤ E q.plan m
      go r same a =
          rw (same, judged_station q.plan m (differences q (after q m)) (row_after q m n) (survivors q m n))
          (accepted_passed q.plan m (differences q (after q m)) (row_after q m n) (survivors q m n) (rw same at a))

  -- the E test of scan number k + 1
  abbrev passes : ℕ → Row → Type 0
  passes k r = tested (k + 1) (E q.plan k) (differences q (after q k)) r ≡ r

  pub post_passes_later_tests : (t : ℕ) → E q.plan m ≤ E q.plan (suc m + t) → is_accepted (row_after q (suc m + t) n).verdict ≡ true
      → passes (suc m + t) (row_after q (suc m + t) n)
  post_passes_later_tests t limit a =
      let same = station_stays q (suc m) n t in
      within_stays (suc m + t + 1) (E q.plan (suc m + t)) (differences q (after q (suc m + t))) (row_after q (suc m + t) n) a
      (rw (same, post_differs_from_first_guess q (after q (suc m + t)) (row_after q (suc m) n).station off) (omega (arith, within_limit)))

  -- so with the buddy check off it stays accepted
  pub post_stays_accepted : B q.plan ≡ 0 → (t : ℕ) → ((k : ℕ) → k < t → E q.plan m ≤ E q.plan (suc m + k)) → row_after q (suc m + t) n ≡ row_after q (suc m) n
  post_stays_accepted alone zero limits = ap (λ (k : ℕ). row_after q k n) (add-zero (suc m))
  post_stays_accepted alone (suc t) limits =
      let s : suc m + suc t ≡ suc (suc m + t) = omega arith in
      let same = post_stays_accepted alone t (λ k h. limits k (omega arith)) in
      let a : is_accepted (row_after q (suc m + t) n).verdict ≡ true = rw same e in
      ap (λ (k : ℕ). row_after q k n) s
      ∙ row_next q (suc m + t) n
      ∙ alone_as_tested q.plan (suc m + t) (differences q (after q (suc m + t))) alone (row_after q (suc m + t) n) (survivors q (suc m + t) n)
      ∙ post_passes_later_tests t (limits t (omega arith)) a
      ∙ same

-- ---- without posts nothing moves

near_more : (b b' n : ℕ) (x : ℤ) → b ≤ b' → near_axis b n x ≡ true → near_axis b' n x ≡ true
unfolding near_axis
near_more b b' n (pos x) h e =
    le-leb x (step * (n - 1) + b') (omega (arith, leb-true x (step * (n - 1) + b) e))
near_more b b' n (negsuc x) h e = le-leb (suc x) b' (omega (arith, leb-true (suc x) b e))

module _ (nx ny b b' : ℕ) (h : b ≤ b') where
  grid_more : (x y : ℤ) → near_grid b nx ny x y ≡ true → near_grid b' nx ny x y ≡ true
  grid_more x y e =
      let (ex, ey) = and_true (near_axis b nx x) (near_axis b ny y) e in
      rw (near_more b b' nx x h ex, near_more b b' ny y h ey)

  off_less : (s : Station) → off_grid b' nx ny s ≡ true → off_grid b nx ny s ≡ true
  unfolding off_grid
  off_less s e = go (true_or_false (near_grid b nx ny s.x s.y))
    where
      go : (near_grid b nx ny s.x s.y ≡ true) ⊎ (near_grid b nx ny s.x s.y ≡ false) → not (near_grid b nx ny s.x s.y) ≡ true
      go (inl near) = absurd (not_both (sym e ∙ rw (grid_more s.x s.y near)))
      go (inr far) = rw far

module _ (q : Request) (most b b' : ℕ) (h : b ≤ most) (h' : b' ≤ most) where
  same_off : (s : Station) → NoPost most q s → off_grid b q.nx q.ny s ≡ off_grid b' q.nx q.ny s
  same_off s (inl on) = unfold off_grid in rw (grid_more q.nx q.ny 0 b (omega arith) s.x s.y on, grid_more q.nx q.ny 0 b' (omega arith) s.x s.y on)
  same_off s (inr off) = off_less q.nx q.ny b most h s off ∙ sym (off_less q.nx q.ny b' most h' s off)

  same_first : (s : Station) → NoPost most q s → before_scans b q.nx q.ny q.T q.A s ≡ before_scans b' q.nx q.ny q.T q.A s
  unfolding before_scans
  same_first s post = rw (same_off s post)

  same_rows : {ss : List Station} → All (NoPost most q) ss → map (begins b q.nx q.ny q.T q.A) ss ≡ map (begins b' q.nx q.ny q.T q.A) ss
  same_rows none = refl
  same_rows (more {a = s} post rest) = cc (same_first s post, same_rows rest)

  pub without_posts_nothing_moves : All (NoPost most q) q.stations → (m : ℕ) → after_within b q m ≡ after_within b' q m
  unfolding after_within start
  without_posts_nothing_moves none_is zero = cc (same_rows none_is)
  without_posts_nothing_moves none_is (suc m) = ap (scan q m) (without_posts_nothing_moves none_is m)
