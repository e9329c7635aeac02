-- What an accepted request is: each test of the refusal table, turned into the fact that it leaves.
use Rattle.std.specs.Prelude.{ℕ, suc, ◌*◌, ◌≤◌, ◌<◌, ◌≡◌, refl, ◌⊎◌, Bool, true, false, not, ◌&&◌, ◌||◌, List, [], ◌∷◌, ltb, eqb, length, get_or, ℤ, pos, negsuc, nat_abs}
use Rattle.std.proofs.Common.{arith, mul-le-mul, inl, inr}
use borrow.Author.Tests.{ltb-false, leb-true, leb-false, eqb-true, not-false, le-leb, lt-leb, le-ltb, eq-eqb}
use Rattle.std.specs.Int.Signed.{le_z, lt_z}
use Rattle.lists.specs.Tests.{true_or_false, and_true, or_false, not_both}
use Rattle.lists.specs.First.{Found, nowhere, at, first_good, good_first, none_bad, all_fine}
use Rattle.lists.specs.Members.{All, none, more}
use Rattle.lists.specs.Tab.{length-tab}
use Rattle.scheme.specs.Units.{among, within, most_value, is_missing, least_side, most_side, most_stations, most_wind, is_no_wind, Wind, Station, most_position, Columns, station_at, stations_of, most_scans, most_radius, most_limit, most_buddy_radius, most_buddy_limit, wind_mode, equation_rule, listing_rule, Plan, R, E, B, L, Request, Call, asked}
use Rattle.scheme.specs.Streaks.{Fair}
use Rattle.scheme.specs.Refusals.{Refusal, accepted, refused, in_order, refused_if, refused_with, refused_at, bad_shape, Span, Window, bad_span, bad_window, most_windows, Screen, bad_screen, points_along, points_of, bad_lengths, bad_columns, bad_scans, rising, bad_scan, bad_buddies, bad_guess, bad_wind, bad_station, from_five, analysis_refusal}
use Rattle.scheme.specs.Accepted.{Checked, Equal, EqualScreen, Formed, OnGrid, Ruled, Scanned, Shaped, Sound, Stationed, from_six, no_station}

-- ---- lists of tests

pub all_accepted : (rs : List Refusal) → in_order rs ≡ accepted → All (λ r. r ≡ accepted) rs
unfolding in_order
all_accepted [] e = none
all_accepted (accepted ∷ rs) e = more refl (all_accepted rs e)
all_accepted (refused n p ∷ rs) e = absurd (let z : ◌≡◌ {A = ℕ} 0 1 = cc in omega arith)

pub not_refused : (n place : ℕ) (bad : Bool) → refused_with n place bad ≡ accepted → bad ≡ false
unfolding refused_with
not_refused n place true e = absurd (let z : ◌≡◌ {A = ℕ} 0 1 = cc in omega arith)
not_refused n place false e = refl

pub nowhere_refused : (n : ℕ) (f : Found) → refused_at n f ≡ accepted → f ≡ nowhere
unfolding refused_at
nowhere_refused n nowhere e = refl
nowhere_refused n (at k) e = absurd (let z : ◌≡◌ {A = ℕ} 0 1 = cc in omega arith)

-- a count in low..high
pub counted_in : (low high n : ℕ) → not (among low high n) ≡ false → (low ≤ n) × (n ≤ high)
counted_in low high n e = let (p, r) = and_true _ _ (not-false _ e) in (leb-true low n p, leb-true n high r)

pub in_count : (low high n : ℕ) → low ≤ n → n ≤ high → among low high n ≡ true
in_count low high n h k = rw (le-leb low n h, le-leb n high k)

-- ---- 1: the shape

-- another slice of that grid
pub same_shape : {nx ny n : ℕ} → Shaped nx ny n → (m : ℕ) → m ≡ nx * ny → Shaped nx ny m
same_shape h m e =
    record { two_columns = h.two_columns; few_columns = h.few_columns; two_rows = h.two_rows; few_rows = h.few_rows; whole = e }

pub shaped : (nx ny len : ℕ) → bad_shape nx ny len ≡ false → Shaped nx ny len
unfolding bad_shape
shaped nx ny len e =
    let (e', c) = or_false _ _ e in
    let (a, b) = or_false _ _ e' in
    let (p, r) = counted_in least_side most_side nx a in
    let (s, t) = counted_in least_side most_side ny b in
    record { two_columns = p; few_columns = r; two_rows = s; few_rows = t; whole = eqb-true len (nx * ny) (not-false _ c) }

-- ---- 4: the columns

same : (a b : ℕ) → not (eqb a b) ≡ false → a ≡ b
same a b e = eqb-true a b (not-false _ e)

pub equal : (c : Columns) → bad_columns c ≡ false → Equal c
unfolding bad_columns
equal c e =
    let (e1, few) = or_false _ _ e in
    let (e2, v) = or_false _ _ e1 in
    let (e3, u) = or_false _ _ e2 in
    let (e4, until) = or_false _ _ e3 in
    let (e5, from) = or_false _ _ e4 in
    let (e6, observed) = or_false _ _ e5 in
    let (y, value) = or_false _ _ e6 in
    record {
      y = same _ _ y;
      value = same _ _ value;
      observed = same _ _ observed;
      from = same _ _ from;
      until = same _ _ until;
      wind_u = same _ _ u;
      wind_v = same _ _ v;
      few = ltb-false most_stations (length c.x) few;
    }

-- ---- 5 and 6: the plan

pub scans_fit : (s r l mode rule : ℕ)
    → not (among 1 most_scans s) || ltb r s || ltb l s || ltb wind_mode mode || not (among equation_rule listing_rule rule) ≡ false
    → (1 ≤ s) × (s ≤ most_scans) × (s ≤ r) × (s ≤ l) × (mode ≤ wind_mode) × Ruled rule
scans_fit s r l mode rule e =
    let (h, ruled) = or_false _ _ e in
    let (g, known) = or_false _ _ h in
    let (f, limits) = or_false _ _ g in
    let (count, radii) = or_false _ _ f in
    let (some, few) = counted_in 1 most_scans s count in
    (some, few, ltb-false r s radii, ltb-false l s limits, ltb-false wind_mode mode known, counted_in equation_rule listing_rule rule ruled)

-- a number in low..high, as the natural that it is
natural : (low high : ℕ) (z : ℤ) → not (le_z (pos low) z && le_z z (pos high)) ≡ false → (z ≡ pos (nat_abs z)) × (low ≤ nat_abs z) × (nat_abs z ≤ high)
natural low high (pos n) e =
    let (p, r) = and_true _ _ (not-false _ e) in
    (refl, leb-true low n p, leb-true n high r)
natural low high (negsuc n) e = absurd (not_both e)

pub scanned : (p : Plan) (m : ℕ) → bad_scan p m ≡ false → Scanned p m
unfolding bad_scan R E
scanned p m e =
    let (e1, c) = or_false _ _ e in
    let (a, b) = or_false _ _ e1 in
    let (r, r1, r2) = natural 1 most_radius (get_or p.radius m (pos 0)) a in
    let (l, l1, l2) = natural 0 most_limit (get_or p.limit m (pos 0)) c in
    record { radius_is = r; radius_some = r1; radius_most = r2; not_rising = b; limit_is = l; limit_most = l2 }

-- radii do not rise
pub fallen : (p : Plan) (m : ℕ) → bad_scan p m ≡ false → bad_scan p (suc m) ≡ false → R p (suc m) ≤ R p m
unfolding rising
fallen p m e f = go (scanned p m e).radius_is (scanned p (suc m) f).radius_is (scanned p (suc m) f).not_rising
  where
    go : {a b : ℤ} {r s : ℕ} → a ≡ pos r → b ≡ pos s → lt_z a b ≡ false → s ≤ r
    go {r = r} {s = s} u t h = ltb-false r s (rw (u, t) at h)

pub checked : (p : Plan) → bad_buddies p ≡ false → p.buddies.on ≡ true → Checked p
unfolding bad_buddies B L
checked p e on =
    let (a, c) = or_false _ _ (rw on at e) in
    let (r, r1, r2) = natural 1 most_buddy_radius p.buddies.radius a in
    let (l, l1, l2) = natural 0 most_buddy_limit p.buddies.limit c in
    record { radius_is = rw on r; radius_some = rw on r1; radius_most = rw on r2; limit_is = l; limit_most = l2 }

-- on or off, B is small
pub few_B : (p : Plan) → (p.buddies.on ≡ true → Checked p) → B p ≤ most_buddy_radius
few_B p c = go (true_or_false p.buddies.on)
  where
    go : (p.buddies.on ≡ true) ⊎ (p.buddies.on ≡ false) → B p ≤ most_buddy_radius
    go (inl on) = (c on).radius_most
    go (inr off) = unfold B in rw off (omega arith)

-- ---- 8: a station

-- both parts in range, where it is not missing
pub winded : (w : Wind) → bad_wind w ≡ false → is_no_wind w ≡ false → Fair w
unfolding bad_wind
winded w e there =
    let (u, v) = or_false _ _ (rw there at e) in
    (leb-true _ _ (not-false _ u), leb-true _ _ (not-false _ v))

wind_good : (w : Wind) → (is_no_wind w ≡ false → Fair w) → bad_wind w ≡ false
unfolding bad_wind
wind_good w f = go (is_no_wind w) f
  where
    go : (none : Bool) → (none ≡ false → Fair w) → not none && (not (within most_wind w.u) || not (within most_wind w.v)) ≡ false
    go true g = refl
    go false g = rw (le-leb (nat_abs w.u) most_wind (g refl).0, le-leb (nat_abs w.v) most_wind (g refl).1)

pub stationed : (s : Station) → bad_station s ≡ false → Stationed s
unfolding bad_station
stationed s e =
    let (e0, w) = or_false _ _ e in
    let (e1, d) = or_false _ _ e0 in
    let (e2, c) = or_false _ _ e1 in
    let (a, b) = or_false _ _ e2 in
    record {
      value = λ m. leb-true _ _ (not-false _ (there (is_missing s.value) _ a m));
      x = leb-true _ _ (not-false _ b);
      y = leb-true _ _ (not-false _ c);
      served = leb-false s.until s.from d;
      wind = winded s.wind w;
    }
  where
    there : (m v : Bool) → not m && v ≡ false → m ≡ false → v ≡ false
    there true v e h = absurd (not_both h)
    there false v e h = e

-- ---- a plan, a request and a call with none of the faults

-- the rows of a station list are those of its columns
pub rows_of : (c : Columns) → length (stations_of c) ≡ length c.x
unfolding stations_of
rows_of c = length-tab (length c.x) (station_at c)

-- ---- a request that no row before 6 refuses, and results of the right length

formed_all : (q : Request) → Formed q → All (λ r. r ≡ accepted) (from_six q) → Sound q
unfolding bad_guess
formed_all q f (more six (more buddies (more seven (more eight none)))) =
    let scan = first_good q.plan.scans (bad_scan q.plan) (nowhere_refused 6 _ six) in
    record {
      shape = f.shape;
      few_stations = f.few_stations;
      plan =
          record {
            scans_some = f.scans_some;
            scans_few = f.scans_few;
            radii = f.radii;
            limits = f.limits;
            known = f.known;
            ruled = f.ruled;
            scan = λ m h. scanned q.plan m (scan m h);
            falls = λ m h. fallen q.plan m (scan m (omega arith)) (scan (suc m) h);
            checks = checked q.plan (not_refused 6 most_scans _ buddies);
          };
      first_guess = λ k h. leb-true _ _ (not-false _ (none_bad bad_guess (pos 0) q.first_guess (nowhere_refused 7 _ seven) k h));
      stations = λ k h. stationed _ (none_bad bad_station no_station q.stations (nowhere_refused 8 _ eight) k h);
    }

pub formed_sound : (q : Request) → Formed q → in_order (from_six q) ≡ accepted → Sound q
formed_sound q f e = formed_all q f (all_accepted _ e)

-- results of the right length
pub long : (points grid support : ℕ) → bad_lengths points grid support ≡ false → (grid ≡ points) × (support ≡ points)
unfolding bad_lengths
long points grid support e = let (g, s) = or_false _ _ e in (same _ _ g, same _ _ s)

-- a call that is accepted asks a sound request
pub analysis_sound : (c : Call) (grid support verdict : ℕ) → analysis_refusal c grid support verdict ≡ accepted → Sound (asked c)
unfolding analysis_refusal from_five bad_scans
analysis_sound c grid support verdict e = go (all_accepted _ e)
  where
    go : All (λ r. r ≡ accepted)
        (refused_if 1 (bad_shape c.nx c.ny (length c.first_guess))
        ∷ refused_if 3 (bad_lengths (c.nx * c.ny) grid support || not (eqb verdict (length c.stations.x)))
        ∷ refused_if 4 (bad_columns c.stations)
        ∷ from_five (asked c))
        → Sound (asked c)
    go (more one (more three (more four (more five rest)))) =
        let (some, few, radii, limits, known, ruled) = scans_fit _ _ _ _ _ (not_refused 5 _ _ five) in
        formed_all (asked c)
        (record {
          shape = shaped _ _ _ (not_refused 1 _ _ one);
          few_stations = omega (arith, rows_of c.stations, (equal c.stations (not_refused 4 _ _ four)).few);
          scans_some = some;
          scans_few = few;
          radii = radii;
          limits = limits;
          known = known;
          ruled = ruled;
        })
        rest

-- ---- 2 and 3: the window is on the grid, and its results are as long as it is

on_axis : (n : ℕ) (s : Span) → bad_span n s ≡ false → (s.first ≤ s.last) × (s.last < n)
on_axis n s e = let (a, b) = or_false _ _ e in (ltb-false s.last s.first a, leb-false n s.last b)

pub on-grid : (nx ny : ℕ) (w : Window) → bad_window nx ny w ≡ false → OnGrid nx ny w
unfolding bad_window
on-grid nx ny w e =
    let (a, b) = or_false _ _ e in
    let (across, right) = on_axis nx w.columns a in
    let (down, bottom) = on_axis ny w.rows b in
    record { across = across; down = down; right = right; bottom = bottom }

-- a window on the grid is on the largest grid
pub wider : {nx ny len : ℕ} → Shaped nx ny len → {w : Window} → OnGrid nx ny w → OnGrid most_side most_side w
wider shape on =
    record {
      across = on.across;
      down = on.down;
      right = omega (arith, on.right, shape.few_columns);
      bottom = omega (arith, on.bottom, shape.few_rows);
    }

pub few_points : {nx ny : ℕ} {w : Window} → OnGrid nx ny w → nx ≤ most_side → ny ≤ most_side → points_of w ≤ most_side * most_side
few_points {w = w} on a b = mul-le-mul wide high
  where
    wide : points_along w.columns ≤ most_side
    wide = omega (arith, on.right)

    high : points_along w.rows ≤ most_side
    high = omega (arith, on.bottom)

pub equal_screen : (s : Screen) → bad_screen s ≡ false → EqualScreen s
unfolding bad_screen
equal_screen s e =
    let (e1, few) = or_false _ _ e in
    let (e2, bottom) = or_false _ _ e1 in
    let (right, top) = or_false _ _ e2 in
    record { right = same _ _ right; top = same _ _ top; bottom = same _ _ bottom; few = ltb-false most_windows (length s.left) few }

-- ---- and back: no test refuses a sound call

pub shape_good : {nx ny len : ℕ} → Shaped nx ny len → bad_shape nx ny len ≡ false
unfolding bad_shape
shape_good {nx} {ny} {len} s =
    rw (in_count least_side most_side nx s.two_columns s.few_columns, in_count least_side most_side ny s.two_rows s.few_rows, eq-eqb len (nx * ny) s.whole)

pub columns_good : (c : Columns) → Equal c → bad_columns c ≡ false
unfolding bad_columns
columns_good c e =
    rw (
      eq-eqb _ _ e.y,
      eq-eqb _ _ e.value,
      eq-eqb _ _ e.observed,
      eq-eqb _ _ e.from,
      eq-eqb _ _ e.until,
      eq-eqb _ _ e.wind_u,
      eq-eqb _ _ e.wind_v,
      le-ltb most_stations (length c.x) e.few,
    )

pub lengths_good : (points grid support : ℕ) → grid ≡ points → support ≡ points → bad_lengths points grid support ≡ false
unfolding bad_lengths
lengths_good points grid support g s = rw (eq-eqb grid points g, eq-eqb support points s)

scan_good : (p : Plan) (m : ℕ) → Scanned p m → bad_scan p m ≡ false
unfolding bad_scan
scan_good p m s =
    rw (s.radius_is, s.limit_is, s.not_rising, le-leb 0 (E p m) (omega arith), le-leb 1 (R p m) s.radius_some, le-leb (R p m) most_radius s.radius_most, le-leb (E p m) most_limit s.limit_most)

buddies_good : (p : Plan) → (p.buddies.on ≡ true → Checked p) → bad_buddies p ≡ false
unfolding bad_buddies B
buddies_good p c = go (true_or_false p.buddies.on)
  where
    go : (p.buddies.on ≡ true) ⊎ (p.buddies.on ≡ false) → bad_buddies p ≡ false
    go (inl on) =
        let s = c on in
        unfold bad_buddies in
        rw (s.radius_is, s.limit_is, le-leb 0 (L p) (omega arith), le-leb 1 (B p) s.radius_some, le-leb (B p) most_buddy_radius s.radius_most, le-leb (L p) most_buddy_limit s.limit_most, on)
    go (inr off) = unfold bad_buddies in rw off

station_good : (s : Station) → Stationed s → bad_station s ≡ false
unfolding bad_station
station_good s t =
    rw (le-leb (nat_abs s.x) most_position t.x, le-leb (nat_abs s.y) most_position t.y, lt-leb s.until s.from t.served, wind_good s.wind t.wind)
    (go (is_missing s.value) t.value)
  where
    go : (m : Bool) → (m ≡ false → nat_abs s.value ≤ most_value) → (not m && not (within most_value s.value)) || false || false || false || false ≡ false
    go true f = refl
    go false f = rw (le-leb (nat_abs s.value) most_value (f refl))

pub request_good : (q : Request) → Sound q → in_order (from_five q) ≡ accepted
unfolding from_five in_order refused_with refused_at bad_scans
request_good q s =
    rw (
      in_count 1 most_scans q.plan.scans s.plan.scans_some s.plan.scans_few,
      le-ltb (length q.plan.radius) q.plan.scans s.plan.radii,
      le-ltb (length q.plan.limit) q.plan.scans s.plan.limits,
      le-ltb wind_mode q.plan.mode s.plan.known,
      in_count equation_rule listing_rule q.plan.rule s.plan.ruled.0 s.plan.ruled.1,
      good_first q.plan.scans (bad_scan q.plan) (λ m h. scan_good q.plan m (s.plan.scan m h)),
      buddies_good q.plan s.plan.checks,
      all_fine bad_guess (pos 0) q.first_guess (λ k h. unfold bad_guess in rw (le-leb _ most_value (s.first_guess k h))),
      all_fine bad_station no_station q.stations (λ k h. station_good _ (s.stations k h)),
    )
