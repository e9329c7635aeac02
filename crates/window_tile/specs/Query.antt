-- The window out of a whole analysis: the copied parts are the window of document 01.
use Rattle.std.specs.Prelude.{ℕ, ◌+◌, ◌*◌, ◌≤◌, ◌≡◌, List, ◌++◌, length, take, drop, ℤ, pos}
use Rattle.std.proofs.Common.{arith, ap, ◌∙◌, length-append, take_at}
use Rattle.scheme.specs.Units.{Request, Field, stored}
use Rattle.scheme.specs.Refusals.{Window, points_along, points_of}
use Rattle.scheme.specs.Scan.{at_end, analysis}
use Rattle.scheme.specs.Reach.{window_of, Tile, whole_at}
use Rattle.scheme.specs.Promises.{slices, tile}
use Rattle.scheme.specs.Accepted.{Shaped, OnGrid, FitsWindow}
use Rattle.scheme.proofs.Stored.{length-stored, field_stored, stored_same}
use Rattle.scheme.proofs.Lengths.{grid_long, support_long}
use Rattle.window_cut.specs.Part.{part_at, part_of, PartReady, part_ready}

-- ---- a lent prefix of n elements, and the array with what comes back in its place

module _ {A : Type 0} (n : ℕ) (ys xs : List A) (e : length ys ≡ n) where
  pub prefix_back : take n (ys ++ drop n xs) ≡ ys
  prefix_back = take_at ys (drop n xs) n e

  pub prefix_in : n ≤ length (ys ++ drop n xs)
  prefix_in = simp length-append (omega arith)

-- ---- the window's part of the whole analysis

-- results that the analysis filled
module _ (q : Request) {values : List ℤ} {bits verdict : List ℕ} (e : slices values bits verdict ≡ analysis q) where
  pub values_long : length values ≡ q.nx * q.ny
  values_long = ap (λ a. length a.grid) e ∙ grid_long q

  pub bits_long : length bits ≡ q.nx * q.ny
  bits_long = ap (λ a. length a.support) e ∙ support_long q

-- the window's part of a grid and its support, stored in rows of nx
abbrev pub tile_from : ℕ → List ℤ → List ℕ → Window → Tile
tile_from nx values bits w =
    tile (stored (points_along w.columns) (points_along w.rows) (part_of (pos 0) nx (part_at w) values))
    (stored (points_along w.columns) (points_along w.rows) (part_of 0 nx (part_at w) bits))

pub tile_long : (nx : ℕ) (values : List ℤ) (bits : List ℕ) (w : Window) → FitsWindow w (length (tile_from nx values bits w).grid) (length (tile_from nx values bits w).support)
tile_long nx values bits w =
    record {
      grid_long = length-stored (points_along w.columns) (points_along w.rows) _;
      support_long = length-stored (points_along w.columns) (points_along w.rows) _;
    }

-- a slice of the grid has it
pub window_part : {nx ny n : ℕ} → Shaped nx ny n → (w : Window) → OnGrid nx ny w → (m : ℕ) → m ≡ points_of w
    → PartReady m n nx (part_at w)
window_part s w on m e = part_ready s (omega (arith, on.across, on.right)) (omega (arith, on.down, on.bottom)) m e

module _ (q : Request) (w : Window) (on : OnGrid q.nx q.ny w) where
  window-of : {A : Type 0} (past : A) (f : Field A) (l : List A) → l ≡ stored q.nx q.ny f
      → stored (points_along w.columns) (points_along w.rows) (part_of past q.nx (part_at w) l) ≡ window_of w f
  unfolding window_of
  window-of past f l e =
      rw e
      (stored_same (points_along w.columns) (points_along w.rows) _ _
      (λ i j hi hj. field_stored q.nx q.ny past f (i + w.columns.first) (j + w.rows.first) (omega (arith, on.across, on.right)) (omega (arith, on.down, on.bottom))))

  pub whole_part : {values : List ℤ} {bits verdict : List ℕ} → slices values bits verdict ≡ analysis q → tile_from q.nx values bits w ≡ whole_at q w
  unfolding analysis whole_at
  whole_part {values = values} {bits = bits} e =
      let v = window-of (pos 0) (at_end q).field values (ap (λ a. a.grid) e) in
      let b = window-of 0 (at_end q).support bits (ap (λ a. a.support) e) in
      cc
