-- Documents 01 and 02 as a scheme: its pieces keep the laws, and its run goes by them.
use Rattle.std.specs.Prelude.{ℕ, ◌+◌, ◌-◌, ◌*◌, ◌≤◌, ◌<◌, min, ◌≡◌, Bool, not, ◌&&◌, List, leb, ltb, ℤ, negsuc, nat_abs, ◌-ℤ◌, ◌*ℤ◌}
use native.Mathlib.Omega.{arith}
use Rattle.std.proofs.Math.Path.{refl, ap, fun_ext}
use Rattle.std.proofs.Common.{◌∙◌, leb-true, le-leb, ne_eqb}
use Rattle.std.proofs.Math.Bool.{true, false, cond}
use Rattle.std.proofs.Math.IntN.{pos, ◌+ℤ◌}
use Rattle.integers.specs.Parts.{up, dn}
use Rattle.lists.specs.Tests.{and_true, leb_same}
use Rattle.lists.specs.Sums.{total, total_map, up_to_same}
use Rattle.lists.proofs.Each.{each_of_map}
use Rattle.scheme.specs.Units.{Field, step, Station, most_beyond, R, E, B, L, Request, guess}
use Rattle.scheme.specs.Verdicts.{is_accepted, serves, out_of_service, near_axis, on_grid, off_grid, before_scans}
use Rattle.scheme.specs.Rounding.{rounded}
use Rattle.scheme.specs.Value.{place, value_at}
use Rattle.scheme.specs.Difference.{Row, difference, after_test, tested}
use Rattle.scheme.specs.Weight.{inside}
use Rattle.scheme.specs.Buddies.{Heard, silence, both, says, heard, after_buddies, beside_others}
use Rattle.scheme.specs.Correction.{Sums, nothing, plus, gift, share, correction, backed_by}
use Rattle.scheme.specs.Smoothing.{pattern_at, pattern_row, pattern_sum, smoothed}
use Rattle.scheme.specs.Scan.{begins, start, differences, all_tested, all_judged, rows_judged, sums_at, corrected, scan, after_within, after}
use Rattle.scheme.specs.Reach.{on_span, on_window, counted}
use Rattle.scheme.proofs.Judging.{judged_beside, judged_station}
use Rattle.scheme.proofs.Adding.{nothing_plus, silence_both}
use Rattle.scheme.proofs.Gifts.{outside, gift_far}
use Rattle.scheme.specs.Axes.{Axis, off, len, from_first, On, SameBeside}
use Rattle.scheme.proofs.Axes.{place_up, counted_parts, place_counted}
use Rattle.scheme.specs.Laws.{Influence, Scheme, Ranged}
use Rattle.scheme.proofs.Laws.{States, Run, given, gathered, smoothed_if, Laws}
use Rattle.scheme.proofs.Shares.{sum_local}
use Rattle.scheme.specs.Cressman.{part}

-- ---- the pieces

module _ (q : Request) where
  -- what a station says to another that it is dx and dy off: its difference, if that passes the E test and it is nearer than B
  abbrev neighbours : Influence Station ℤ
  neighbours =
      record {
        Sum = Heard;
        nil = silence;
        plus = both;
        range = λ m. B q.plan;
        give = λ m s D dx dy. cond (not (ltb (E q.plan m) (nat_abs D)) && inside (B q.plan * B q.plan) dx dy) (record { count = 1; sum = D }) silence;
      }

  abbrev pull : Influence Station ℤ
  pull =
      record {
        Sum = Sums;
        nil = nothing;
        plus = plus;
        range = R q.plan;
        give = λ m s D dx dy. gift q.plan.mode (R q.plan m * R q.plan m) s.wind D dx dy;
      }

  abbrev pub cressman : Scheme
  cressman =
      record {
        Station = Station;
        x = λ s. s.x;
        y = λ s. s.y;
        Row = Row;
        station = λ r. r.station;
        verdict = λ r. r.verdict;
        Value = ℤ;
        Diff = ℤ;
        Mark = ℕ;
        keeps = λ a b. on_window a.n b.n (part a b);
        counted = λ a b. counted (part a b);
        begins = λ nx ny. begins most_beyond nx ny q.T q.A;
        difference = difference;
        buddies = neighbours;
        judge = λ m D h v. after_buddies (m + 1) (L q.plan) D h (after_test (m + 1) (E q.plan m) D v);
        judged = λ m D r others. judged_beside q.plan m D r (all_tested q.plan m D others);
        pull = pull;
        correct = λ m s z. z +ℤ correction q.plan.rule s;
        unmarked = 0;
        mark = backed_by;
        smooth = q.plan.smooth;
        around = λ z i j. rounded (pattern_sum z i j) 16;
      }

-- ---- the run

module _ (q : Request) where
  choice : {A : Type 0} (b : Bool) (f g : Field A) (i j : ℕ) → cond b f g i j ≡ cond b (f i j) (g i j)
  choice true f g i j = refl
  choice false f g i j = refl

  abbrev pub states : States (cressman q)
  states =
      record {
        field = λ m. (after q m).field;
        support = λ m. (after q m).support;
        rows = λ m. (after q m).rows;
        sums = λ m. sums_at q m (after q m);
      }

  pub run : Run (cressman q) q.nx q.ny (guess q) q.stations states
  unfolding after_within start
  run =
      record {
        field_first = λ i j. refl;
        support_first = λ i j. refl;
        rows_first = refl;
        rows_next =
            λ m. unfold after_within scan rows_judged all_judged in
            each_of_map (beside_others (m + 1) (B q.plan) (L q.plan) (differences q (after q m))) (tested (m + 1) (E q.plan m) (differences q (after q m))) (after q m).rows;
        sums_are = λ m i j. unfold sums_at share gathered given after_within scan in refl;
        field_next =
            λ m i j. unfold after_within scan corrected smoothed smoothed_if in
            choice q.plan.smooth (smoothed q.nx q.ny (corrected q m (after q m))) (corrected q m (after q m)) i j;
        support_next = λ m i j. unfold after_within scan in refl;
      }

-- ---- the laws

-- a position is on a stretch if its place is
on-span : (a : Axis) (x : ℤ) → on_span a.n a.span x ≡ true → On a (place a.n x)
unfolding on_span
on-span a x e = let (l, h) = and_true _ _ e in record { low = leb-true _ _ l; high = leb-true _ _ h }

pub span_on : (a : Axis) (x : ℤ) → On a (place a.n x) → on_span a.n a.span x ≡ true
unfolding on_span
span_on a x h = rw (le-leb _ (place a.n x) h.low, le-leb (place a.n x) _ h.high)

-- then it is as far off the stretch as off the grid's axis
near_counted : (b : ℕ) (a : Axis) (x : ℤ) → On a (place a.n x) → near_axis b a.n x ≡ near_axis b (len a) (from_first a x)
unfolding near_axis
near_counted b a x h =
    go x (from_first a x) (counted_parts a x h).0 (counted_parts a x h).1 (rw (place_up a.n x) at h.high)
  where
    go : (x c : ℤ) → up x ≡ up c + step * off a → dn x ≡ dn c → min (up x) (step * (a.n - 1)) ≤ step * a.span.last → near_axis b a.n x ≡ near_axis b (len a) c
    go (pos x) (pos c) u d k =
        leb_same x (step * (a.n - 1) + b) c (step * (len a - 1) + b) (λ l. omega (arith, a.two, a.inside)) (λ l. omega (arith, a.two, a.inside))
    go (pos x) (negsuc c) u d k = absurd (omega arith)
    go (negsuc x) (pos c) u d k = absurd (omega arith)
    go (negsuc x) (negsuc c) u d k = ap (λ (n : ℕ). leb n b) d

module _ (q : Request) where
  pull_ranged : Ranged (cressman q) (pull q)
  pull_ranged =
      record {
        nil_plus = nothing_plus;
        far = λ m s D dx dy h. gift_far q.plan.mode (R q.plan m) s.wind D dx dy h;
        give_counted = λ a b m s d dx dy. unfold counted in refl;
      }

  nobody : (b : Bool) (D : ℤ) → cond (b && false) (record { count = 1; sum = D }) silence ≡ silence
  nobody true D = refl
  nobody false D = refl

  neighbours_ranged : Ranged (cressman q) (neighbours q)
  neighbours_ranged =
      record {
        nil_plus = silence_both;
        far = λ m s D dx dy h. rw (outside (B q.plan) dx dy h) (nobody (not (ltb (E q.plan m) (nat_abs D))) D);
        give_counted = λ a b m s d dx dy. refl;
      }

  -- an accepted row says, after the E test, what it gives by its difference
  said_is : (m : ℕ) (D : Station → ℤ) (s : Station) (r : Row)
      → says (B q.plan) D s (tested (m + 1) (E q.plan m) D r) ≡ given (cressman q) (neighbours q) m D s.x s.y r
  unfolding says tested after_test given
  said_is m D s r = go (is_accepted r.verdict) (ltb (E q.plan m) (nat_abs (D r.station))) refl
    where
      go : (v t : Bool) → is_accepted r.verdict ≡ v
          → cond (is_accepted (cond v (cond t (10 + (m + 1)) 0) r.verdict) && inside (B q.plan * B q.plan) (r.station.x -ℤ s.x) (r.station.y -ℤ s.y)) (record { count = 1; sum = D r.station }) silence
          ≡ cond v (cond (not t && inside (B q.plan * B q.plan) (r.station.x -ℤ s.x) (r.station.y -ℤ s.y)) (record { count = 1; sum = D r.station }) silence) silence
      go false t e = rw e
      go true false e = refl
      go true true e = rw (ne_eqb (10 + (m + 1)) 0 (λ n. omega arith))

  heard_is : (m : ℕ) (D : Station → ℤ) (s : Station) (others : List Row)
      → heard (B q.plan) D s (all_tested q.plan m D others) ≡ gathered (cressman q) (neighbours q) m D s.x s.y others
  unfolding heard gathered
  heard_is m D s others =
      total_map silence both (says (B q.plan) D s) (tested (m + 1) (E q.plan m) D) others
      ∙ ap (λ (f : Row → Heard). total silence both f others) (fun_ext (said_is m D s))

  module _ (a b : Axis) (s : Station) (e : on_window a.n b.n (part a b) s ≡ true) where
    on_x : On a (place a.n s.x)
    on_x = on-span a s.x (and_true (on_span a.n a.span s.x) (on_span b.n b.span s.y) e).0

    on_y : On b (place b.n s.y)
    on_y = on-span b s.y (and_true (on_span a.n a.span s.x) (on_span b.n b.span s.y) e).1

    begins_counted : before_scans most_beyond a.n b.n q.T q.A s ≡ before_scans most_beyond (len a) (len b) q.T q.A (counted (part a b) s)
    unfolding before_scans serves out_of_service off_grid counted
    begins_counted = rw (near_counted most_beyond a s.x on_x, near_counted most_beyond b s.y on_y)

    -- the value there, of any field that is the same at the corners with a share
    value_local : (z z' : Field ℤ) → SameBeside a b (place a.n s.x) (place b.n s.y) z z'
        → value_at a.n b.n z s ≡ value_at (len a) (len b) z' (counted (part a b) s)
    unfolding value_at counted
    value_local z z' ag =
        ap (λ (t : ℤ). rounded t 4096) (sum_local a b z z' _ _ _ _ on_x on_y (place_counted a s.x on_x) (place_counted b s.y on_y) ag)

    difference_local : (guess guess' z z' : Field ℤ) → SameBeside a b (place a.n s.x) (place b.n s.y) guess guess'
        → SameBeside a b (place a.n s.x) (place b.n s.y) z z'
        → difference a.n b.n guess z s ≡ difference (len a) (len b) guess' z' (counted (part a b) s)
    unfolding difference
    difference_local guess guess' z z' g ag =
        rw (value_both (on_grid a.n b.n s.x s.y)) (unfold counted in rw (near_counted 0 a s.x on_x, near_counted 0 b s.y on_y))
      where
        value_both : (on : Bool) → value_at a.n b.n (cond on z guess) s ≡ value_at (len a) (len b) (cond on z' guess') (counted (part a b) s)
        value_both true = value_local z z' ag
        value_both false = value_local guess guess' g

  rejected_stays : (m : ℕ) (D : ℤ) (h : Heard) (v : ℕ) → is_accepted v ≡ false → is_accepted (after_buddies (m + 1) (L q.plan) D h (after_test (m + 1) (E q.plan m) D v)) ≡ false
  unfolding after_buddies after_test
  rejected_stays m D h v e = rw (e, e) e

  around_local : (z z' : Field ℤ) (i j right down : ℕ) → 0 < i → 0 < j
      → ((a b : ℕ) → a < 3 → b < 3 → z (i + a - 1 + right) (j + b - 1 + down) ≡ z' (i + a - 1) (j + b - 1))
      → rounded (pattern_sum z (i + right) (j + down)) 16 ≡ rounded (pattern_sum z' i j) 16
  unfolding pattern_sum pattern_row
  around_local z z' i j right down hi hj ag =
      ap (λ (t : ℤ). rounded t 16)
      (up_to_same (pos 0) ◌+ℤ◌ 3 _ _ (λ b hb. up_to_same (pos 0) ◌+ℤ◌ 3 _ _ (λ a ha. ap (λ (v : ℤ). pos (pattern_at a b) *ℤ v) (here a b ha hb))))
    where
      moved : (i a o : ℕ) → 0 < i → i + o + a - 1 ≡ i + a - 1 + o
      moved i a o h = omega arith

      here : (a b : ℕ) → a < 3 → b < 3 → z (i + right + a - 1) (j + down + b - 1) ≡ z' (i + a - 1) (j + b - 1)
      here a b ha hb = rw (moved i a right hi, moved j b down hj) (ag a b ha hb)

  pub cressman_laws : Laws (cressman q)
  cressman_laws =
      record {
        pull_ranged = pull_ranged;
        buddies_ranged = neighbours_ranged;
        counted_x = λ a b s. unfold counted in refl;
        counted_y = λ a b s. unfold counted in refl;
        begins_station = λ nx ny s. refl;
        begins_counted = begins_counted;
        placed_kept = λ a b s e p. rw (span_on a s.x p.along_x, span_on b s.y p.along_y);
        difference_local = difference_local;
        judged_station = λ m D r others. judged_station q.plan m D r (all_tested q.plan m D others);
        judged_verdict =
            λ m D r others. unfold beside_others tested in
            ap (λ (h : Heard). after_buddies (m + 1) (L q.plan) (D r.station) h (after_test (m + 1) (E q.plan m) (D r.station) r.verdict)) (heard_is m D r.station others);
        rejected_stays = rejected_stays;
        around_local = around_local;
      }
