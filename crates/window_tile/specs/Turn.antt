-- Windows whose points a loop writes one after the other, each into a part of the two results.
use Rattle.std.specs.Prelude.{ℕ, ◌+◌, ◌*◌, ◌≤◌, ◌<◌, ◌≡◌, refl, List, [], ◌∷◌, ◌++◌, length, take, drop, ℤ}
use Rattle.std.proofs.Common.{arith, le_trans, mul-le-mul_right, sym, ap, ap₂, ◌∙◌, append-nil, length-drop, length-take-le}
use Rattle.lists.specs.Tab.{tab}
use Rattle.lists.specs.Sums.{total, up_to, up_to_next}
use Rattle.lists.specs.Turns.{sum_to, join_to, sum_tab, join_tab, sum_most, sum_room, Written, written_none, written_more, written_all}
use Rattle.scheme.specs.Units.{Request}
use Rattle.scheme.specs.Refusals.{Window, most_windows, points_along, points_of, points_of_all}
use Rattle.scheme.specs.Reach.{window_of, Tile, whole_at, in_turn}
use Rattle.scheme.specs.Promises.{tile}
use Rattle.scheme.specs.Most.{most_points}
use Rattle.scheme.specs.Accepted.{Shaped, OnGrid, FitsWindow, FitsScreen}
use Rattle.scheme.proofs.Accepted.{few_points}
use Rattle.scheme.proofs.Stored.{length-stored}
use Rattle.request.specs.declared.Window.{Window as Ends}
use Rattle.request.specs.Tables.{window_in, window_no, windows_in, OnScreen}

-- the points of the first k windows
abbrev pub points_before : List Ends → ℕ → ℕ
points_before ws k = sum_to k (λ m. points_of (window_no ws m))

-- of windows on a grid they are few, all together
pub all_few : {nx ny len : ℕ} → Shaped nx ny len → (ws : List Ends) → OnScreen nx ny ws → points_of_all (windows_in ws) ≤ most_windows * most_points
all_few shape ws on =
    rw (sum_tab points_of (length ws) (window_no ws))
    (le_trans (sum_most most_points (length ws) _ (λ k h. few_points (on.on k h) shape.few_columns shape.few_rows)) (mul-le-mul_right most_points on.few))

-- a screen of one window
module _ (w : Ends) where
  pub on_alone : {nx ny : ℕ} → OnGrid nx ny (window_in w) → OnScreen nx ny (w ∷ [])
  on_alone on = record { few = omega arith; on = λ k h. (let e : k ≡ 0 = omega arith in rw e on) }

  pub fits_alone : {grid support : ℕ} → FitsWindow (window_in w) grid support → FitsScreen (windows_in (w ∷ [])) grid support
  unfolding tab total
  fits_alone f = record { grid_long = omega (arith, f.grid_long); support_long = omega (arith, f.support_long) }

  pub turn_alone : (has : Window → Tile) → in_turn has (windows_in (w ∷ [])) ≡ has (window_in w)
  unfolding tab total
  turn_alone has = ap₂ tile (append-nil (has (window_in w)).grid) (append-nil (has (window_in w)).support)

-- the numbers of the whole grid at a window are as many as it has points
pub whole_long : (q : Request) (w : Window) → FitsWindow w (length (whole_at q w).grid) (length (whole_at q w).support)
unfolding whole_at window_of
whole_long q w =
    record {
      grid_long = length-stored (points_along w.columns) (points_along w.rows) _;
      support_long = length-stored (points_along w.columns) (points_along w.rows) _;
    }

-- what each window has, which is as long as it is
module _ (has : Window → Tile) (long : (w : Window) → FitsWindow w (length (has w).grid) (length (has w).support)) (ws : List Ends) where
  abbrev grid_to : ℕ → List ℤ
  grid_to k = join_to k (λ m. (has (window_no ws m)).grid)

  abbrev support_to : ℕ → List ℕ
  support_to k = join_to k (λ m. (has (window_no ws m)).support)

  -- results of g and u elements, in which k windows are written
  module _ (g u : ℕ) where
    pub record Turned (k at : ℕ) (grid : List ℤ) (support : List ℕ) : Type 0 where
      pub at_is : at ≡ points_before ws k
      pub grid_so : Written g (grid_to k) at grid
      pub support_so : Written u (support_to k) at support

  pub turned_none : (grid : List ℤ) (support : List ℕ) → Turned (length grid) (length support) 0 0 grid support
  unfolding up_to
  turned_none grid support = record { at_is = refl; grid_so = written_none grid; support_so = written_none support }

  module _ {g u : ℕ} (fits : FitsScreen (windows_in ws) g u) where
    all_points : points_of_all (windows_in ws) ≡ points_before ws (length ws)
    all_points = sum_tab points_of (length ws) (window_no ws)

    -- the next window has room
    pub room : (k : ℕ) → k < (length ws) → points_before ws k + points_of (window_no ws k) ≤ points_of_all (windows_in ws)
    room k h = rw all_points (sum_room (length ws) k (λ m. points_of (window_no ws m)) h)

    module _ {k at m : ℕ} {grid : List ℤ} {support : List ℕ} (t : Turned g u k at grid support) (h : k < (length ws)) (points : m ≡ points_of (window_no ws k)) where
      -- its points are the m from `at` on
      pub enough : at + m ≤ points_of_all (windows_in ws)
      enough = omega (arith, t.at_is, points, room k h)

      -- which are few
      pub small : {nx ny len : ℕ} → Shaped nx ny len → OnScreen nx ny ws → at + m ≤ most_windows * most_points
      small shape on = le_trans enough (all_few shape ws on)

      pub in_grid : at + m ≤ length grid
      in_grid = omega (arith, enough, t.grid_so.same_length, fits.grid_long)

      pub in_support : at + m ≤ length support
      in_support = omega (arith, enough, t.support_so.same_length, fits.support_long)

      pub its_part : FitsWindow (window_no ws k) (length (take m (drop at grid))) (length (take m (drop at support)))
      its_part =
          record {
            grid_long = length-take-le m (drop at grid) (rw (length-drop at grid) (omega (arith, in_grid))) ∙ points;
            support_long = length-take-le m (drop at support) (rw (length-drop at support) (omega (arith, in_support))) ∙ points;
          }

      -- one window more
      pub turned_more : {end : ℕ} {ys : List ℤ} {us : List ℕ} → end ≡ at + m → tile ys us ≡ has (window_no ws k)
          → Turned g u (k + 1) end (take at grid ++ (ys ++ drop m (drop at grid))) (take at support ++ (us ++ drop m (drop at support)))
      turned_more {end} {ys} {us} e same =
          record {
            at_is = e ∙ ap₂ ◌+◌ t.at_is points ∙ sym (up_to_next 0 ◌+◌ k (λ i. points_of (window_no ws i)));
            grid_so =
                rw (e, up_to_next [] ◌++◌ k (λ i. (has (window_no ws i)).grid), ← ap (λ (x : Tile). x.grid) same)
                (written_more t.grid_so m ys (ap (λ (x : Tile). length x.grid) same ∙ (long (window_no ws k)).grid_long ∙ sym points) (omega (arith, in_grid, t.grid_so.same_length)));
            support_so =
                rw (e, up_to_next [] ◌++◌ k (λ i. (has (window_no ws i)).support), ← ap (λ (x : Tile). x.support) same)
                (written_more t.support_so m us (ap (λ (x : Tile). length x.support) same ∙ (long (window_no ws k)).support_long ∙ sym points) (omega (arith, in_support, t.support_so.same_length)));
          }

    -- all windows
    pub turned_all : {k at : ℕ} {grid : List ℤ} {support : List ℕ} → Turned g u k at grid support → k ≡ (length ws)
        → tile grid support ≡ in_turn has (windows_in ws)
    turned_all {k} {at} {grid} {support} t e =
        let end : at ≡ points_of_all (windows_in ws) = t.at_is ∙ ap (points_before ws) e ∙ sym all_points in
        let a = written_all t.grid_so (end ∙ sym fits.grid_long) ∙ ap grid_to e ∙ sym (join_tab (λ w. (has w).grid) (length ws) (window_no ws)) in
        let b = written_all t.support_so (end ∙ sym fits.support_long) ∙ ap support_to e ∙ sym (join_tab (λ w. (has w).support) (length ws) (window_no ws)) in
        cc
