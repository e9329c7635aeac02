-- A screen of windows and the single queries of its windows, in order: they answer the same, refusals included (document 02, 2).
use Prim.Native.Nat.{ℕ, suc, ◌+◌, ◌*◌, ◌<◌}
use native.Mathlib.Omega.{arith}
use Rattle.std.proofs.Math.Path.{◌≡◌, refl, sym, ap, ap₂}
use Rattle.std.proofs.Common.{◌∙◌, inl, inr}
use Rattle.std.specs.Prelude.{◌⊎◌, ◌↔◌, Bool, eqb, length}
use Rattle.std.proofs.Math.Bool.{true, false, cond}
use mathlib.Core.List.{List, [], ◌∷◌, ◌++◌, append-nil, map}
use borrow.Author.Tests.{eq-eqb}
use Rattle.std.proofs.lemmas.List.{length-map}
use Rattle.lists.specs.Tests.{true_or_false}
use Rattle.lists.specs.Tab.{tab, length-tab, map-tab}
use Rattle.lists.specs.Sums.{total, up_to_same}
use Rattle.lists.specs.Turns.{join_to, join_tab}
use Rattle.lists.specs.First.{Found, nowhere, at, first_from, first_in, first_map, first_same_tests}
use Rattle.lists.specs.Members.{All, none, more, all_below, all_at}
use Rattle.scheme.specs.Units.{most_scans, Call, asked}
use Rattle.scheme.specs.Refusals.{Refusal, accepted, refused, as_one, unless_refused, in_order, refused_if, refused_with, refused_at, bad_shape, Window, bad_window, Screen, window_at, window_on, windows_of, bad_screen, points_of, points_of_all, bad_lengths, from_five, analysis_refusal, window_refusal, screen_refusal}
use Rattle.scheme.specs.Reach.{Tile, whole_at, whole_at_each}
use Rattle.scheme.specs.Promises.{tile, Queries, QueriesEach}
use Rattle.scheme.specs.Accepted.{FitsScreen}
use Rattle.scheme.proofs.Accepted.{all_accepted, lengths_good}
use Rattle.scheme.specs.Screens.{AsSingly, Singly, alone, for_its_window, from_four, of_singles, single}

-- ---- what a screen is refused with, by what its single queries are refused with

-- ---- the rows from 4 on, which no window changes

not_two_if : (number place : ℕ) (bad : Bool) → eqb number 2 ≡ false → for_its_window (refused_with number place bad) ≡ false
unfolding refused_with
not_two_if number place true e = e
not_two_if number place false e = refl

not_two_at : (number : ℕ) (f : Found) → eqb number 2 ≡ false → for_its_window (refused_at number f) ≡ false
unfolding refused_at
not_two_at number nowhere e = refl
not_two_at number (at k) e = e

not_two_in : (rs : List Refusal) → All (λ r. for_its_window r ≡ false) rs → for_its_window (in_order rs) ≡ false
unfolding in_order
not_two_in [] none = refl
not_two_in (accepted ∷ rs) (more e h) = not_two_in rs h
not_two_in (refused number place ∷ rs) (more e h) = e

not_two : (c : Call) → for_its_window (in_order (from_four c)) ≡ false
unfolding from_five
not_two c =
    not_two_in (from_four c)
    (more (not_two_if 4 0 _ refl) (more (not_two_if 5 0 _ refl) (more (not_two_at 6 _ refl) (more (not_two_if 6 most_scans _ refl) (more (not_two_at 7 _ refl) (more (not_two_at 8 _ refl) none))))))

-- equal refusals, one at least
all_accept : (rs : List Refusal) → All (λ s. s ≡ accepted) rs → in_order rs ≡ accepted
unfolding in_order
all_accept [] none = refl
all_accept (s ∷ rs) (more e h) = rw e (all_accept rs h)

all_alike : (r : Refusal) (rs : List Refusal) → All (λ s. s ≡ r) rs → 0 < length rs → in_order rs ≡ r
unfolding in_order
all_alike r [] none h = absurd (omega arith)
all_alike accepted (s ∷ rs) (more e h) some = rw e (all_accept rs h)
all_alike (refused number place) (s ∷ rs) (more e h) some = rw e

no_elements : {A : Type 0} (l : List A) → length l ≡ 0 → l ≡ []
no_elements [] e = refl
no_elements (a ∷ l) e = absurd (omega arith)

-- a test that accepts
past_accepted : (f : Found) (rs : List Refusal) → in_order (refused_at 2 f ∷ accepted ∷ rs) ≡ in_order (refused_at 2 f ∷ rs)
unfolding in_order refused_at
past_accepted nowhere rs = refl
past_accepted (at k) rs = refl

-- ---- the refusals of a screen whose columns are equal, of one window at least, with results as long as all windows together

module _ (c : Call) where
  -- a single query whose shape is right: for its window, or as the rows from 4 on say
  single_is : bad_shape c.nx c.ny (length c.first_guess) ≡ false → (w : Window)
      → single c w ≡ cond (bad_window c.nx c.ny w) (refused 2 0) (in_order (from_four c))
  unfolding window_refusal in_order refused_with
  single_is e w = rw (e, lengths_good (points_of w) (points_of w) (points_of w) refl refl) (go (bad_window c.nx c.ny w))
    where
      go : (b : Bool) → in_order (cond b (refused 2 0) accepted ∷ accepted ∷ from_four c) ≡ cond b (refused 2 0) (in_order (from_four c))
      go true = refl
      go false = refl

  single_shape : bad_shape c.nx c.ny (length c.first_guess) ≡ true → (w : Window) → single c w ≡ refused 1 0
  unfolding window_refusal in_order refused_with
  single_shape e w = rw e

  for-its-window : bad_shape c.nx c.ny (length c.first_guess) ≡ false → (w : Window) → for_its_window (single c w) ≡ bad_window c.nx c.ny w
  for-its-window e w = ap for_its_window (single_is e w) ∙ go (bad_window c.nx c.ny w)
    where
      go : (b : Bool) → for_its_window (cond b (refused 2 0) (in_order (from_four c))) ≡ b
      go true = refl
      go false = not_two c

  -- queries that are not refused for their window are refused alike
  pub singles_are_refused_alike : (w v : Window) → for_its_window (single c w) ≡ false → for_its_window (single c v) ≡ false → single c w ≡ single c v
  singles_are_refused_alike w v good good' = go (true_or_false (bad_shape c.nx c.ny (length c.first_guess)))
    where
      one : bad_shape c.nx c.ny (length c.first_guess) ≡ false → (u : Window) → for_its_window (single c u) ≡ false → single c u ≡ in_order (from_four c)
      one e u h = single_is e u ∙ rw (sym (for-its-window e u) ∙ h)

      go : (bad_shape c.nx c.ny (length c.first_guess) ≡ true) ⊎ (bad_shape c.nx c.ny (length c.first_guess) ≡ false) → single c w ≡ single c v
      go (inl e) = single_shape e w ∙ sym (single_shape e v)
      go (inr e) = one e w good ∙ sym (one e v good')

  -- all windows on the grid
  good_singles : bad_shape c.nx c.ny (length c.first_guess) ≡ false → (ws : List Window) (k : ℕ)
      → first_from k (bad_window c.nx c.ny) ws ≡ nowhere → All (λ r. r ≡ in_order (from_four c)) (map (single c) ws)
  unfolding first_from
  good_singles e [] k h = none
  good_singles e (w ∷ ws) k h = go (bad_window c.nx c.ny w) refl h (good_singles e ws (suc k))
    where
      go : (b : Bool) → bad_window c.nx c.ny w ≡ b → cond b (at k) (first_from (suc k) (bad_window c.nx c.ny) ws) ≡ nowhere
          → (first_from (suc k) (bad_window c.nx c.ny) ws ≡ nowhere → All (λ r. r ≡ in_order (from_four c)) (map (single c) ws))
          → All (λ r. r ≡ in_order (from_four c)) (map (single c) (w ∷ ws))
      go true b f r = absurd (let z : ◌≡◌ {A = ℕ} 0 1 = cc in omega arith)
      go false b f r = more (single_is e w ∙ rw b) (r f)

  -- windows that are on the grid, or of which one is not
  module _ (ws : List Window) (some : 0 < length ws) where
    abbrev after_columns : Refusal
    after_columns = in_order (refused_at 2 (first_in (bad_window c.nx c.ny) ws) ∷ from_four c)

    same_search : bad_shape c.nx c.ny (length c.first_guess) ≡ false → first_in for_its_window (map (single c) ws) ≡ first_in (bad_window c.nx c.ny) ws
    same_search e = first_map for_its_window (single c) 0 ws ∙ first_same_tests _ _ 0 ws (for-its-window e)

    by_windows : bad_shape c.nx c.ny (length c.first_guess) ≡ false → of_singles (map (single c) ws) ≡ after_columns
    unfolding of_singles in_order refused_at
    by_windows e = rw (same_search e) (go (first_in (bad_window c.nx c.ny) ws) refl)
      where
        go : (f : Found) → first_in (bad_window c.nx c.ny) ws ≡ f → in_order (refused_at 2 f ∷ map (single c) ws) ≡ in_order (refused_at 2 f ∷ from_four c)
        go nowhere h = all_alike (in_order (from_four c)) (map (single c) ws) (good_singles e ws 0 h) (rw (length-map ws (single c)) some)
        go (at k) h = refl

    -- of a shape that is wrong
    shapes : bad_shape c.nx c.ny (length c.first_guess) ≡ true → (l : List Window) (k : ℕ)
        → (first_from k for_its_window (map (single c) l) ≡ nowhere) × All (λ r. r ≡ refused 1 0) (map (single c) l)
    unfolding first_from
    shapes e [] k = (refl, none)
    shapes e (w ∷ l) k = let (f, h) = shapes e l (suc k) in (rw (single_shape e w) f, more (single_shape e w) h)

    by_shape : bad_shape c.nx c.ny (length c.first_guess) ≡ true → of_singles (map (single c) ws) ≡ refused 1 0
    unfolding of_singles in_order refused_at
    by_shape e =
        let (f, h) = shapes e ws 0 in
        rw f (all_alike (refused 1 0) (map (single c) ws) h (rw (length-map ws (single c)) some))

  module _ (s : Screen) (equal : bad_screen s ≡ false) where
    abbrev points : ℕ
    points = points_of_all (windows_of s)

    long : length (windows_of s) ≡ length s.left
    unfolding windows_of
    long = length-tab (length s.left) (window_on s)

    -- WHICH SINGLE QUERY IS REFUSED, AND WITH WHAT THE SCREEN THEN IS
    pub screen_is_refused_as_its_windows : 0 < length s.left → screen_refusal c s points points ≡ of_singles (map (single c) (windows_of s))
    unfolding screen_refusal in_order refused_with
    screen_is_refused_as_its_windows some = go (true_or_false (bad_shape c.nx c.ny (length c.first_guess)))
      where
        go : (bad_shape c.nx c.ny (length c.first_guess) ≡ true) ⊎ (bad_shape c.nx c.ny (length c.first_guess) ≡ false)
            → screen_refusal c s points points ≡ of_singles (map (single c) (windows_of s))
        go (inl e) = rw (by_shape (windows_of s) (omega (arith, long)) e) (rw e)
        go (inr e) = rw (by_windows (windows_of s) (omega (arith, long)) e) (rw (e, equal, lengths_good points points points refl refl) (past_accepted (first_in (bad_window c.nx c.ny) (windows_of s)) (from_four c)))

    -- of no windows: as the whole analysis whose results fit is
    pub screen_of_no_windows_is_tested_like_the_whole : length s.left ≡ 0
        → screen_refusal c s 0 0 ≡ analysis_refusal c (c.nx * c.ny) (c.nx * c.ny) (length c.stations.x)
    unfolding screen_refusal analysis_refusal in_order refused_with refused_at first_from total
    screen_of_no_windows_is_tested_like_the_whole e =
        let n = c.nx * c.ny in
        rw (no_elements (windows_of s) (long ∙ e), equal, lengths_good 0 0 0 refl refl, lengths_good n n n refl refl, eq-eqb (length c.stations.x) (length c.stations.x) refl)
        (go (bad_shape c.nx c.ny (length c.first_guess)))
      where
        go : (b : Bool) → in_order (cond b (refused 1 0) accepted ∷ accepted ∷ accepted ∷ accepted ∷ from_four c) ≡ in_order (cond b (refused 1 0) accepted ∷ accepted ∷ from_four c)
        go true = refl
        go false = refl

module _ (c : Call) (left right top bottom : ℕ) where
  abbrev window : Window
  window = window_at left right top bottom

  one_refused : (grid support : ℕ) → screen_refusal c (alone left right top bottom) grid support ≡ window_refusal c window grid support
  unfolding screen_refusal window_refusal in_order refused_with refused_at windows_of tab bad_screen first_from total
  one_refused grid support = go (bad_shape c.nx c.ny (length c.first_guess)) (bad_window c.nx c.ny window)
    where
      go : (a b : Bool)
          → in_order (refused_if 1 a ∷ accepted ∷ refused_at 2 (cond b (at 0) nowhere) ∷ refused_if 3 (bad_lengths (points_of window + 0) grid support) ∷ from_four c)
          ≡ in_order (refused_if 1 a ∷ refused_if 2 b ∷ refused_if 3 (bad_lengths (points_of window) grid support) ∷ from_four c)
      go true b = refl
      go false true = refl
      go false false = let e : points_of window + 0 ≡ points_of window = omega arith in rw e

  one_answers : whole_at_each (asked c) (windows_of (alone left right top bottom)) ≡ whole_at (asked c) window
  unfolding windows_of tab total
  one_answers = ap₂ tile (append-nil (whole_at (asked c) window).grid) (append-nil (whole_at (asked c) window).support)

  pub screen_of_one_window_is_the_query : (found : Tile) (answer : ℕ) (left' : Tile)
      → QueriesEach c (alone left right top bottom) found answer left' ↔ Queries c window found answer left'
  screen_of_one_window_is_the_query found answer left' =
      let r = one_refused (length found.grid) (length found.support) in (
        λ p. p ∙ ap₂ (λ (r : Refusal) (t : Tile). (as_one r, unless_refused r t found)) r one_answers,
        λ p. p ∙ sym (ap₂ (λ (r : Refusal) (t : Tile). (as_one r, unless_refused r t found)) r one_answers),
      )

-- ---- and the answers: the outcomes of the single queries, each with results as long as its window

-- a screen is accepted where no single query is refused
singly_accepted : (rs : List Refusal) → of_singles rs ≡ accepted → All (λ r. r ≡ accepted) rs
unfolding of_singles
singly_accepted rs e = go (all_accepted (refused_at 2 (first_in for_its_window rs) ∷ rs) e)
  where
    go : All (λ r. r ≡ accepted) (refused_at 2 (first_in for_its_window rs) ∷ rs) → All (λ r. r ≡ accepted) rs
    go (more two rest) = rest

none_for_its_window : (rs : List Refusal) (k : ℕ) → All (λ r. r ≡ accepted) rs → first_from k for_its_window rs ≡ nowhere
unfolding first_from
none_for_its_window [] k none = refl
none_for_its_window (r ∷ rs) k (more e h) = rw e (none_for_its_window rs (suc k) h)

none_refuses : (rs : List Refusal) → All (λ r. r ≡ accepted) rs → of_singles rs ≡ accepted
unfolding of_singles in_order refused_at
none_refuses rs h = rw (none_for_its_window rs 0 h) (all_accept rs h)

module _ (c : Call) (s : Screen) (equal : bad_screen s ≡ false) (some : 0 < length s.left) (found : Tile)
    (fits : FitsScreen (windows_of s) (length found.grid) (length found.support)) (answer : ℕ) (left : Tile) (asks : QueriesEach c s found answer left)
    (each : Singly c s) where
  abbrev n : ℕ
  n = length s.left

  abbrev singles : List Refusal
  singles = map (single c) (windows_of s)

  abbrev all : Tile
  all = whole_at_each (asked c) (windows_of s)

  in-order : singles ≡ tab n (λ k. single c (window_on s k))
  unfolding windows_of
  in-order = map-tab (single c) n (window_on s)

  -- the screen
  outcome : ◌≡◌ {A = ℕ × Tile} (answer, left) (as_one (of_singles singles), unless_refused (of_singles singles) all found)
  outcome = asks ∙ ap (λ (r : Refusal). (as_one r, unless_refused r all found)) same
    where
      same : screen_refusal c s (length found.grid) (length found.support) ≡ of_singles singles
      same = ap₂ (screen_refusal c s) fits.grid_long fits.support_long ∙ screen_is_refused_as_its_windows c s equal some

  -- and each window
  outcome_of : (k : ℕ) → k < n
      → ◌≡◌ {A = ℕ × Tile} (each.answer k, each.left k) (as_one (single c (window_on s k)), unless_refused (single c (window_on s k)) (whole_at (asked c) (window_on s k)) (each.found k))
  outcome_of k h =
      each.queries k h
      ∙ ap (λ (r : Refusal). (as_one r, unless_refused r (whole_at (asked c) (window_on s k)) (each.found k))) (ap₂ (window_refusal c (window_on s k)) (each.fits k h).grid_long (each.fits k h).support_long)

  accepted_each : of_singles singles ≡ accepted → (k : ℕ) → k < n → single c (window_on s k) ≡ accepted
  accepted_each e = all_at (λ r. r ≡ accepted) n _ (rw in-order at (singly_accepted singles e))

  in-turn : of_singles singles ≡ accepted → all ≡ tile (join_to n (λ k. (each.left k).grid)) (join_to n (λ k. (each.left k).support))
  unfolding windows_of
  in-turn e =
      ap₂ tile
      (join_tab (λ w. (whole_at (asked c) w).grid) n (window_on s) ∙ up_to_same [] ◌++◌ n _ _ (λ k h. ap (λ (t : Tile). t.grid) (leaves k h)))
      (join_tab (λ w. (whole_at (asked c) w).support) n (window_on s) ∙ up_to_same [] ◌++◌ n _ _ (λ k h. ap (λ (t : Tile). t.support) (leaves k h)))
    where
      leaves : (k : ℕ) → k < n → whole_at (asked c) (window_on s k) ≡ each.left k
      leaves k h = sym (ap (λ (o : ℕ × Tile). o.1) (outcome_of k h) ∙ rw (accepted_each e k h))

  pub screen_answers_as_its_windows : AsSingly c s found answer left each
  screen_answers_as_its_windows =
      record {
        refusal = ap (λ (o : ℕ × Tile). o.0) outcome;
        their_refusals = λ k h. ap (λ (o : ℕ × Tile). o.0) (outcome_of k h);
        accepted_where_all_are = (accepted_each, λ h. none_refuses singles (rw in-order (all_below (λ r. r ≡ accepted) n _ h)));
        leaves_in_turn = λ e. ap (λ (o : ℕ × Tile). o.1) outcome ∙ rw e (in-turn e);
        or_writes_nothing = λ number place e. ap (λ (o : ℕ × Tile). o.1) outcome ∙ rw e;
      }
