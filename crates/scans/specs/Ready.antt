-- What a scan needs of the slices, and what each of its parts then finds.
use Prim.Native.Nat.{ℕ, zero, suc, ◌+◌, ◌-◌, ◌*◌, ◌%◌, ◌≤◌, ◌<◌, ◌^◌}
use native.Mathlib.Omega.{arith}
use Rattle.std.specs.Prelude.{◌≡◌, Bool, ◌&&◌, eqb, length, ℤ, pos, nat_abs, ◌-ℤ◌}
use Rattle.std.proofs.Math.Path.{refl, ap}
use Rattle.std.proofs.Math.Nat.{mod-eq_of_lt, one-mul, pow-le-pow_right}
use Rattle.std.proofs.Common.{sym, ◌∙◌}
use Rattle.std.proofs.Math.Bool.{true, false, cond}
use mathlib.Core.List.{List}
use borrow.Author.Tests.{eqb-true, eq-eqb, le-ltb}
use Rattle.std.proofs.Math.Dec.{ltb}
use Rattle.std.proofs.Math.ListN.{get_or}
use Rattle.integers.specs.Parts.{dn, size_parts}
use Rattle.integers.specs.Sizes.{size_add}
use Rattle.lists.specs.Tab.{tab}
use Rattle.lists.specs.Sums.{up_to, up_to_same}
use Rattle.lists.specs.Filled.{Filled, filled_all}
use Rattle.scheme.specs.Units.{Field, stored, field_of, is_no_wind, most_stations, most_beyond, most_scans, most_limit, wind_mode, R, E, B, L}
use Rattle.scheme.specs.Verdicts.{is_accepted}
use Rattle.scheme.specs.Weight.{squares}
use Rattle.scheme.specs.Buddies.{silence, both, is_odd, after_buddies}
use Rattle.scheme.specs.Correction.{correction}
use Rattle.scheme.specs.Smoothing.{smoothed}
use Rattle.scheme.specs.Accepted.{Shaped}
use Rattle.scheme.proofs.Accepted.{same_shape}
use Rattle.scheme.specs.Accepted as accepted
use Rattle.scheme.specs.Streaks.{Fair}
use Rattle.scheme.specs.Most.{most_field, most_along}
use Rattle.scheme.proofs.Adding.{silence_both}
use Rattle.scheme.proofs.Judging.{passed, was_accepted, was_survivor}
use Rattle.scheme.specs.Bounds.{Small}
use Rattle.scheme.proofs.Bounds.{correction_size}
use Rattle.scheme.specs.Stored.{Same}
use Rattle.scheme.proofs.Stored.{length-stored, field_stored, stored_same, smoothed_same, stored_all}
use Rattle.request.specs.declared.Terms.{Terms}
use Rattle.request.specs.declared.Station.{Station as Row}
use Rattle.request.specs.Tables.{no_row, station_in, plan_in}
use Rattle.scan_buddies.specs.Aside.{said, heard_at, aside_at, OnAxis, AllStanding}
use Rattle.scan_station.specs.Judge.{Heard, AcceptedHeard, JudgeReady, diff_of, diff_at, verdict_at}
use Rattle.scan_along.specs.Streak.{wind_in}
use Rattle.scan_point.specs.Near.{Stations, stations_with, x_at, y_at, wind_at, d_at, Inside, Ready, sums_over, over_modest}
use Rattle.scan_point.specs.Pass.{corrected, backed, PassReady}
use Rattle.scans.specs.Scanned.{r2_in, Scanned}

-- a value before the last scan of a plan: one limit is still to come
abbrev pub most_before : ℕ
most_before = most_field - most_limit

-- scan m + 1 has an entry in the plan, in range
abbrev pub EntryIn : Terms → ℕ → Type 0
EntryIn t m = (m < most_scans) × accepted.Scanned (plan_in t) m

-- and its bit, as the code makes it
pub bit_is : (m : ℕ) → m < most_scans → 1 * 2 ^ m % 256 ≡ 2 ^ m
bit_is m few =
    let small : 2 ^ m ≤ 32 = pow-le-pow_right {n = 2} (omega arith) {i = m} {j = most_scans - 1} (omega arith) in
    let l : 1 * 2 ^ m < 256 = omega (arith, small) in
    mod-eq_of_lt l ∙ one-mul (2 ^ m)

-- what that scan needs
pub record ScanReady (t : Terms) (guess : List ℤ) (stations : List Row) (m : ℕ) (z : List ℤ) (sup st : List ℕ) : Type 0 where
  pub guess_shape : Shaped t.nx t.ny (length guess)
  pub guess_small : Small guess
  pub shape : Shaped t.nx t.ny (length z)
  pub both : length sup ≡ length z
  pub low : (k : ℕ) → nat_abs (get_or z k (pos 0)) ≤ most_before
  pub free : (k : ℕ) → get_or sup k 0 + 2 ^ m < 256
  pub few : length stations ≤ most_stations
  pub len_st : length st ≡ length stations
  pub entry : EntryIn t m
  pub checks : t.buddies.on ≡ true → accepted.Checked (plan_in t)
  pub heard : AcceptedHeard stations st
  pub known : t.mode ≤ wind_mode
  pub winds : (k : ℕ) → k < length stations → is_no_wind (wind_in (get_or stations k no_row)) ≡ false → Fair (wind_in (get_or stations k no_row))

-- what the buddy check needs, on or off
pub record BuddiesReady (t : Terms) (stations : List Row) (scan : ℕ) (st : List ℕ) (ds : List ℤ) : Type 0 where
  pub few : length stations ≤ most_stations
  pub len_st : length st ≡ length stations
  pub scan_few : scan ≤ most_scans
  pub checks : t.buddies.on ≡ true → accepted.Checked (plan_in t)
  pub standing : AllStanding stations ds st

-- and what it leaves
abbrev pub aside_in : Terms → List Row → (scan : ℕ) → List ℕ → List ℤ → ℕ → ℕ
aside_in t stations scan st ds = aside_at scan (B (plan_in t)) (L (plan_in t)) stations st ds

-- off, it leaves the verdicts as they are: nobody is nearer than 0
module _ (t : Terms) (stations : List Row) (scan : ℕ) (st : List ℕ) (ds : List ℤ) (off : t.buddies.on ≡ false) where
  nobody_says : (k j : ℕ) → said (B (plan_in t)) stations st ds k j ≡ silence
  unfolding said B
  nobody_says k j =
      rw off (go (eqb j k) (is_accepted (get_or st j 0)) (squares ((station_in stations j).x -ℤ (station_in stations k).x) ((station_in stations j).y -ℤ (station_in stations k).y)))
    where
      go : (itself a : Bool) (d2 : ℕ) → cond itself silence (cond (a && ltb d2 0) (record { count = 1; sum = get_or ds j (pos 0) }) silence) ≡ silence
      go true a d2 = refl
      go false false d2 = refl
      go false true d2 = rw (le-ltb d2 0 (omega arith))

  all_silent : (n : ℕ) → up_to silence both n (λ j. silence) ≡ silence
  unfolding up_to
  all_silent zero = refl
  all_silent (suc n) = rw (all_silent n) (silence_both silence)

  pub left_alone : Filled 0 (aside_in t stations scan st ds) 0 (length stations) st st
  left_alone = record { same_length = refl; low = λ k h. refl; new = λ k a h. sym (stays k); rest = λ k h. refl }
    where
      stays : (k : ℕ) → aside_in t stations scan st ds k ≡ get_or st k 0
      stays k =
          unfold aside_at heard_at after_buddies is_odd in
          rw (up_to_same silence both (length stations) _ (λ j. silence) (λ j h. nobody_says k j) ∙ all_silent (length stations)) (go (is_accepted (get_or st k 0)))
        where
          go : (a : Bool) → cond (a && false) (20 + scan) (get_or st k 0) ≡ get_or st k 0
          go true = refl
          go false = refl

-- a survivor stands where one may
on_axis : {x : ℤ} → dn x ≤ most_beyond → nat_abs x ≤ most_along → OnAxis x
on_axis {x = x} low size = record { low = low; high = omega (arith, size_parts x) }

-- smoothing, if it is on
unfoldable pub smoothed_if : Terms → List ℤ → List ℤ
smoothed_if t l = cond t.smooth (stored t.nx t.ny (smoothed t.nx t.ny (field_of (pos 0) t.nx l))) l

module _ {t : Terms} {guess : List ℤ} {stations : List Row} {m : ℕ} {z : List ℤ} {sup st : List ℕ} (ok : ScanReady t guess stations m z sup st) where
  pub judge_ready : JudgeReady guess z st t.nx t.ny stations (m + 1)
  judge_ready =
      record {
        guess_shape = ok.guess_shape;
        shape = ok.shape;
        guess_small = ok.guess_small;
        small = λ k. omega (arith, ok.low k);
        few = ok.few;
        len_st = ok.len_st;
        scan_few = omega (arith, ok.entry.0);
        heard = ok.heard;
      }

  -- after the E test
  module _ {st1 : List ℕ} {ds₀ ds : List ℤ} (vf : Filled 0 (verdict_at guess z t.nx t.ny stations st (m + 1) (E (plan_in t) m)) 0 (length stations) st st1)
      (df : Filled (pos 0) (diff_at guess z t.nx t.ny stations st) 0 (length stations) ds₀ ds) where
    -- a survivor
    survivor : (k : ℕ) → k < length stations → get_or st1 k 0 ≡ 0 → Heard (station_in stations k) × (nat_abs (get_or ds k (pos 0)) ≤ most_limit)
    unfolding diff_of
    survivor k h e =
        let a = eq-eqb _ 0 (sym (vf.new k (omega arith) h) ∙ e) in
        let w = was_accepted (m + 1) (E (plan_in t) m) _ (get_or st k 0) a in (
          ok.heard k h (eqb-true (get_or st k 0) 0 w),
          rw (df.new k (omega arith) h, w) (omega (arith, passed (m + 1) (E (plan_in t) m) _ (get_or st k 0) a, ok.entry.1.limit_most)),
        )

    pub buddies_ready : BuddiesReady t stations (m + 1) st1 ds
    buddies_ready =
        record {
          few = ok.few;
          len_st = vf.same_length ∙ ok.len_st;
          scan_few = omega (arith, ok.entry.0);
          checks = ok.checks;
          standing = λ k h e. let (o, d) = survivor k h e in record { x = on_axis o.x_low o.x; y = on_axis o.y_low o.y; d_small = d };
        }

    -- after the buddy check
    module _ {st' : List ℕ} (bf : Filled 0 (aside_in t stations (m + 1) st1 ds) 0 (length stations) st1 st') where
      abbrev all : Stations
      all = stations_with t.mode stations st' ds

      inside : (k : ℕ) → k < length stations → get_or st' k 0 ≡ 0 → Inside (x_at all k) (y_at all k) (d_at all k) (wind_at all k)
      unfolding aside_at
      inside k h e =
          let a = was_survivor (m + 1) (L (plan_in t)) _ _ (get_or st1 k 0) (eq-eqb _ 0 (sym (bf.new k (omega arith) h) ∙ e)) in
          let (o, d) = survivor k h (eqb-true (get_or st1 k 0) 0 a) in
          record { x_small = o.x; y_small = o.y; d_small = d; wind_fair = ok.winds k h }

      ready : Ready all
      ready = record { few = ok.few; len_st = bf.same_length ∙ vf.same_length ∙ ok.len_st; inside = inside }

      pub pass_ready : PassReady z sup t.nx t.ny all (R (plan_in t) m) (2 ^ m)
      pass_ready =
          record {
            shape = ok.shape;
            both = ok.both;
            close = ok.entry.1.radius_most;
            stations = ready;
            known = ok.known;
            low = λ k. omega (arith, ok.low k);
            free = ok.free;
          }

      -- after the correction
      abbrev moved : Field ℤ
      moved = corrected t.rule z t.nx all (r2_in t m)

      moved_size : (i j : ℕ) → nat_abs (moved i j) ≤ most_field
      unfolding corrected field_of
      moved_size i j =
          omega (
            arith,
            size_add (get_or z (j * t.nx + i) (pos 0)) (correction t.rule (sums_over all (r2_in t m) i j)),
            ok.low (j * t.nx + i),
            correction_size t.rule most_limit (sums_over all (r2_in t m) i j) (over_modest all (r2_in t m) i j ready),
          )

      module _ {z1 : List ℤ} (z1-is : z1 ≡ stored t.nx t.ny moved) where
        pub smooth_shaped : Shaped t.nx t.ny (length z1)
        smooth_shaped = same_shape ok.shape (length z1) (ap length z1-is ∙ length-stored t.nx t.ny moved)

        pub smooth_small : Small z1
        smooth_small = rw z1-is (stored_all (λ (v : ℤ). nat_abs v ≤ most_field) (pos 0) t.nx t.ny moved (omega arith) moved_size)

        -- and after smoothing
        kept : (f : Field ℤ) → Same t.nx t.ny moved f → z1 ≡ stored t.nx t.ny f
        kept f h = z1-is ∙ stored_same t.nx t.ny moved f h

        values : (on : Bool) (f : Field ℤ) → Same t.nx t.ny moved f
            → cond on (stored t.nx t.ny (smoothed t.nx t.ny (field_of (pos 0) t.nx z1))) z1 ≡ stored t.nx t.ny (cond on (smoothed t.nx t.ny f) f)
        values true f h =
            ap (λ (l : List ℤ). stored t.nx t.ny (smoothed t.nx t.ny (field_of (pos 0) t.nx l))) (kept f h)
            ∙ stored_same t.nx t.ny _ _ (smoothed_same t.nx t.ny (field_of (pos 0) t.nx (stored t.nx t.ny f)) f (field_stored t.nx t.ny (pos 0) f))
        values false f h = kept f h

        pub scanned : {z' : List ℤ} {sup' : List ℕ} → z' ≡ smoothed_if t z1 → sup' ≡ stored t.nx t.ny (backed sup t.nx all (r2_in t m) (2 ^ m))
            → Scanned t guess stations m z sup st z' sup' st' ds
        unfolding smoothed_if
        scanned ez es =
            record {
              verdicts =
                  filled_all 0 (aside_in t stations (m + 1) st1 ds) (length stations) st1 st' (vf.same_length ∙ ok.len_st) bf
                  ∙ ap (λ (l : List ℕ). tab (length stations) (aside_in t stations (m + 1) l ds)) (filled_all 0 (verdict_at guess z t.nx t.ny stations st (m + 1) (E (plan_in t) m)) (length stations) st st1 ok.len_st vf);
              differences = λ k h. df.new k (omega arith) h;
              supports = es;
              values = λ f h. ez ∙ values t.smooth f h;
            }
