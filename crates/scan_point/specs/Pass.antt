-- A correction pass over a stored grid, row after row, under the plan's rule.
use Rattle.std.specs.Prelude.{ℕ, ◌+◌, ◌-◌, ◌*◌, ◌/◌, ◌%◌, ◌≤◌, ◌<◌, ◌≡◌, refl, ◌⊎◌, ◌&&◌, List, ltb, length, get_or, set, ℤ, pos, nat_abs, ◌+ℤ◌}
use native.Mathlib.Omega.{arith}
use native.Mathlib.Nat.{add-zero}
use lib.IntN.{+ℤ_idr}
use Rattle.std.proofs.Common.{mul-le-mul, mul-le-mul_left, mul-le-mul_right, suc-mul, mul_comm, sym, ap, ◌∙◌, inl, inr}
use Rattle.std.proofs.Math.Path.{fun_ext}
use Rattle.std.proofs.Math.Bool.{cond}
use Rattle.std.proofs.Math.Arith.{digits_div, digits_mod}
use Rattle.std.proofs.Math.Dec.{eqb}
use borrow.Author.Tests.{ne_eqb}
use Rattle.lists.specs.Tests.{lt_or_le, ltb_same}
use Rattle.lists.specs.Sums.{up_to}
use Rattle.lists.specs.Filled.{Filled, filled_set, filled_join, filled_all}
use Rattle.scheme.specs.Units.{most_side, Field, stored, field_of, most_stations, most_radius, most_limit, wind_mode, equation_rule, listing_rule}
use Rattle.scheme.specs.Rounding.{rounded}
use Rattle.scheme.specs.Weight.{scale}
use Rattle.scheme.specs.Correction.{Sums, nothing, plus, divisor, correction}
use Rattle.scheme.specs.Most.{most_points, most_square, most_weights, most_field}
use Rattle.scheme.specs.Accepted.{Shaped}
use Rattle.scheme.proofs.Accepted.{same_shape}
use Rattle.scan_lone.specs.Divides.{Divides}
use Rattle.scan_point.specs.Near.{Slight, weights_few, near_small, Stations, sums_over, Ready, Gathered}

-- ---- one row, whose points stand at base, base + 1, ..

-- what the n entries of the list give to the point in column i
abbrev pub row_sums : (give : ℕ → ℕ → Sums) (n i : ℕ) → Sums
row_sums give n i = up_to nothing plus n (give i)

-- the new value and the new support byte at place k
unfoldable pub row_z : (rule : ℕ) (z : List ℤ) (give : ℕ → ℕ → Sums) (n base k : ℕ) → ℤ
row_z rule z give n base k = get_or z k (pos 0) +ℤ correction rule (row_sums give n (k - base))

unfoldable pub row_s : (sup : List ℕ) (give : ℕ → ℕ → Sums) (n bit base k : ℕ) → ℕ
row_s sup give n bit base k = get_or sup k 0 + cond (ltb 0 (row_sums give n (k - base)).weights) bit 0

-- what a point is moved by, wd the sum of weight·D there, divided by w
abbrev pub moved_by : (w : ℕ) (wd : ℤ) → ℤ
moved_by w wd = cond (eqb w 0) (pos 0) (rounded wd w)

-- by what it is to be divided: so the correction, and the support
module _ (rule w inside over : ℕ) (by : Divides rule w inside over) where
  divides_so : (wd : ℤ) (s : Sums) → w ≡ s.weights → wd ≡ s.pulls → s.inside ≡ inside → moved_by over wd ≡ correction rule s
  unfolding correction divisor
  divides_so wd s ew ed ei = rw (← ew, ← ed, ei) (go (lt_or_le 0 w))
    where
      go : (0 < w) ⊎ (w ≤ 0) → moved_by over wd ≡ cond (eqb w 0) (pos 0) (rounded wd (cond (eqb rule listing_rule && eqb inside 1) scale w))
      go (inl h) = rw (ne_eqb over 0 (λ e. omega (arith, by.least)), ne_eqb w 0 (λ e. omega arith)) (ap (rounded wd) (by.is h))
      go (inr h) = let e : w ≡ 0 = omega arith in rw (by.none e, e)

  supports_so : ltb 0 over ≡ ltb 0 w
  supports_so = ltb_same 0 over 0 w (λ h. some (lt_or_le 0 w) h) (λ h. omega (arith, by.least))
    where
      some : (0 < w) ⊎ (w ≤ 0) → 0 < over → 0 < w
      some (inl h) l = h
      some (inr h) l = absurd (let e : w ≡ 0 = omega arith in omega (arith, by.none e))

-- and a row by a rule that is not 2 is one by rule 1
pub other_rule : (rule : ℕ) → (rule ≡ listing_rule → ⊥) → (z : List ℤ) (give : ℕ → ℕ → Sums) (n base : ℕ) → row_z rule z give n base ≡ row_z equation_rule z give n base
unfolding row_z correction divisor
other_rule rule other z give n base = fun_ext (λ k. rw (ne_eqb rule listing_rule other))

-- a row that no station is near stays as it is
module _ (give : ℕ → ℕ → Sums) {n : ℕ} (none : n ≡ 0) (base nx : ℕ) where
  pub none_z : (rule : ℕ) (z : List ℤ) → Filled (pos 0) (row_z rule z give n base) base (base + nx) z z
  unfolding row_z correction up_to
  none_z rule z = record { same_length = refl; low = λ k h. refl; new = λ k h m. rw none (sym (+ℤ_idr (get_or z k (pos 0)))); rest = λ k h. refl }

  pub none_s : (sup : List ℕ) (bit : ℕ) → Filled 0 (row_s sup give n bit base) base (base + nx) sup sup
  unfolding row_s up_to
  none_s sup bit = record { same_length = refl; low = λ k h. refl; new = λ k h m. rw none (sym (add-zero (get_or sup k 0))); rest = λ k h. refl }

-- a point whose value and support can be set
pub record PointReady (z : List ℤ) (sup : List ℕ) (p bit : ℕ) : Type 0 where
  pub inside : p < length z
  pub both : p < length sup
  pub short : p < most_points
  pub low : nat_abs (get_or z p (pos 0)) ≤ most_field
  pub free : get_or sup p 0 + bit < 256

pub record RowReady (z : List ℤ) (sup : List ℕ) (base nx : ℕ) (give : ℕ → ℕ → Sums) (n bit : ℕ) : Type 0 where
  pub few : n ≤ most_stations
  pub narrow : nx ≤ most_side
  pub inside : base + nx ≤ length z
  pub short : length z ≤ most_points
  pub both : length sup ≡ length z
  pub slight : (i t : ℕ) → t < n → Slight (give i t)
  pub low : (k : ℕ) → base ≤ k → nat_abs (get_or z k (pos 0)) ≤ most_field
  pub free : (k : ℕ) → base ≤ k → get_or sup k 0 + bit < 256

-- a turn along the row: w and wd are the sums at column i
module _ {z₀ : List ℤ} {sup₀ : List ℕ} {base nx : ℕ} {give : ℕ → ℕ → Sums} {n bit : ℕ}
    (ok : RowReady z₀ sup₀ base nx give n bit) (rule : ℕ) {z : List ℤ} {sup : List ℕ} {i : ℕ} (turn : i < nx)
    (pz : Filled (pos 0) (row_z rule z₀ give n base) base (base + i) z₀ z) (ps : Filled 0 (row_s sup₀ give n bit base) base (base + i) sup₀ sup) where
  pub point_ready : PointReady z sup (base + i) bit
  point_ready =
      record {
        inside = omega (arith, pz.same_length, ok.inside);
        both = omega (arith, ps.same_length, ok.both, ok.inside);
        short = omega (arith, ok.inside, ok.short);
        low = rw (pz.rest (base + i) (omega arith)) (ok.low (base + i) (omega arith));
        free = rw (ps.rest (base + i) (omega arith)) (ok.free (base + i) (omega arith));
      }

  column : base + i - base ≡ i
  column = omega arith

  next_place : base + (i + 1) ≡ base + i + 1
  next_place = omega arith

  module _ {w inside : ℕ} {wd : ℤ} (w-is : w ≡ (row_sums give n i).weights) (wd-is : wd ≡ (row_sums give n i).pulls) (inside_is : (row_sums give n i).inside ≡ inside) where
    pub sums_small : (w ≤ most_weights) × (nat_abs wd ≤ most_limit * w) × (w ≤ scale * inside)
    sums_small =
        let h = near_small (give i) n (ok.slight i) in
        rw (w-is, wd-is, ← inside_is) (omega (arith, weights_few n (row_sums give n i) h, ok.few), h.modest.pulls_most, h.modest.weights_most)

    module _ {over : ℕ} (by : Divides rule w inside over) where
      pub pulls_small : nat_abs wd ≤ most_limit * over
      pulls_small = omega (arith, sums_small.1, mul-le-mul_left most_limit by.least)

      pub next_value : (v : ℤ) → v ≡ get_or z (base + i) (pos 0) +ℤ moved_by over wd
          → Filled (pos 0) (row_z rule z₀ give n base) base (base + (i + 1)) z₀ (set z (base + i) v)
      next_value v e =
          filled_set (pos 0) (row_z rule z₀ give n base) base (base + i) (base + (i + 1)) z₀ z v next_place (omega arith) point_ready.inside (e ∙ same) pz
        where
          same : get_or z (base + i) (pos 0) +ℤ moved_by over wd ≡ row_z rule z₀ give n base (base + i)
          same = unfold row_z in (rw (column, pz.rest (base + i) (omega arith), divides_so rule w inside over by wd (row_sums give n i) w-is wd-is inside_is))

      pub next_support : (b : ℕ) → b ≡ get_or sup (base + i) 0 + cond (ltb 0 over) bit 0
          → Filled 0 (row_s sup₀ give n bit base) base (base + (i + 1)) sup₀ (set sup (base + i) b)
      next_support b e =
          filled_set 0 (row_s sup₀ give n bit base) base (base + i) (base + (i + 1)) sup₀ sup b next_place (omega arith) point_ready.both (e ∙ same) ps
        where
          same : get_or sup (base + i) 0 + cond (ltb 0 over) bit 0 ≡ row_s sup₀ give n bit base (base + i)
          same = unfold row_s in (rw (column, supports_so rule w inside over by, w-is, ps.rest (base + i) (omega arith)))

-- ---- a grid row, from all the stations

-- the new value and the new support byte at place k of grid row j, whose points stand at base, base + 1, ..
unfoldable pub row_value : (rule : ℕ) (z : List ℤ) (all : Stations) (r2 j base k : ℕ) → ℤ
row_value rule z all r2 j base k = get_or z k (pos 0) +ℤ correction rule (sums_over all r2 (k - base) j)

unfoldable pub row_support : (sup : List ℕ) (all : Stations) (r2 bit j base k : ℕ) → ℕ
row_support sup all r2 bit j base k = get_or sup k 0 + cond (ltb 0 (sums_over all r2 (k - base) j).weights) bit 0

pub record RowPass (z : List ℤ) (sup : List ℕ) (nx ny : ℕ) (all : Stations) (r2 bit j : ℕ) : Type 0 where
  pub shape : Shaped nx ny (length z)
  pub both : length sup ≡ length z
  pub row : j < ny
  pub close : r2 ≤ most_square
  pub stations : Ready all
  pub known : all.mode ≤ wind_mode
  pub low : (k : ℕ) → j * nx ≤ k → nat_abs (get_or z k (pos 0)) ≤ most_field
  pub free : (k : ℕ) → j * nx ≤ k → get_or sup k 0 + bit < 256

row_in : (nx ny j : ℕ) → j < ny → j * nx + nx ≤ nx * ny
row_in nx ny j h = omega (arith, mul-le-mul_right nx h)

few_points : {nx ny len : ℕ} → Shaped nx ny len → len ≤ most_points
few_points shape = rw shape.whole (mul-le-mul shape.few_columns shape.few_rows)

-- the list gathered for the row serves it
module _ {z : List ℤ} {sup : List ℕ} {nx ny : ℕ} {all : Stations} {r2 bit j : ℕ} (ok : RowPass z sup nx ny all r2 bit j) where
  pub row_place : j * nx + nx ≤ most_points
  row_place = omega (arith, row_in nx ny j ok.row, few_points ok.shape, ok.shape.whole)

  module _ {give : ℕ → ℕ → Sums} {Fine : ℕ → Type 0} {n : ℕ} (fine : (i t : ℕ) → Fine t → Slight (give i t))
      (near : Gathered give Fine n all r2 j all.count) where
    pub row_ready : RowReady z sup (j * nx) nx give n bit
    row_ready =
        record {
          few = omega (arith, near.no_more, ok.stations.few);
          narrow = ok.shape.few_columns;
          inside = omega (arith, row_in nx ny j ok.row, ok.shape.whole);
          short = few_points ok.shape;
          both = ok.both;
          slight = λ i t h. fine i t (near.sized t h);
          low = ok.low;
          free = ok.free;
        }

    same_values : (rule : ℕ) → row_z rule z give n (j * nx) ≡ row_value rule z all r2 j (j * nx)
    unfolding row_z row_value sums_over
    same_values rule = fun_ext (λ k. rw (near.same (k - j * nx)))

    same_supports : row_s sup give n bit (j * nx) ≡ row_support sup all r2 bit j (j * nx)
    unfolding row_s row_support sums_over
    same_supports = fun_ext (λ k. rw (near.same (k - j * nx)))

    pub row_values : (rule : ℕ) {z' : List ℤ} → Filled (pos 0) (row_z rule z give n (j * nx)) (j * nx) (j * nx + nx) z z'
        → Filled (pos 0) (row_value rule z all r2 j (j * nx)) (j * nx) (j * nx + nx) z z'
    row_values rule p = rw (same_values rule) at p

    pub row_supports : {sup' : List ℕ} → Filled 0 (row_s sup give n bit (j * nx)) (j * nx) (j * nx + nx) sup sup'
        → Filled 0 (row_support sup all r2 bit j (j * nx)) (j * nx) (j * nx + nx) sup sup'
    row_supports p = rw same_supports at p

-- ---- the whole grid

-- the field after the corrections, and the support with its new bit, from the stations
unfoldable pub corrected : (rule : ℕ) (z : List ℤ) (nx : ℕ) (all : Stations) (r2 : ℕ) → Field ℤ
corrected rule z nx all r2 i j = field_of (pos 0) nx z i j +ℤ correction rule (sums_over all r2 i j)

unfoldable pub backed : (sup : List ℕ) (nx : ℕ) (all : Stations) (r2 bit : ℕ) → Field ℕ
backed sup nx all r2 bit i j = field_of 0 nx sup i j + cond (ltb 0 (sums_over all r2 i j).weights) bit 0

abbrev pub pass_z : (rule : ℕ) (z : List ℤ) (nx : ℕ) (all : Stations) (r2 k : ℕ) → ℤ
pass_z rule z nx all r2 k = corrected rule z nx all r2 (k % nx) (k / nx)

abbrev pub pass_s : (sup : List ℕ) (nx : ℕ) (all : Stations) (r2 bit k : ℕ) → ℕ
pass_s sup nx all r2 bit k = backed sup nx all r2 bit (k % nx) (k / nx)

pub record PassReady (z : List ℤ) (sup : List ℕ) (nx ny : ℕ) (all : Stations) (radius bit : ℕ) : Type 0 where
  pub shape : Shaped nx ny (length z)
  pub both : length sup ≡ length z
  pub close : radius ≤ most_radius
  pub stations : Ready all
  pub known : all.mode ≤ wind_mode
  pub low : (k : ℕ) → nat_abs (get_or z k (pos 0)) ≤ most_field
  pub free : (k : ℕ) → get_or sup k 0 + bit < 256

-- ---- a row of the pass

module _ {z₀ : List ℤ} {sup₀ : List ℕ} {nx ny : ℕ} {all : Stations} {radius bit : ℕ}
    (ok : PassReady z₀ sup₀ nx ny all radius bit) where
  abbrev r2 : ℕ
  r2 = radius * radius

  pub r2_close : r2 ≤ most_square
  r2_close = mul-le-mul ok.close ok.close

  module _ (rule : ℕ) {j : ℕ} (hj : j < ny) {z : List ℤ} {sup : List ℕ}
      (pz : Filled (pos 0) (pass_z rule z₀ nx all r2) 0 (j * nx) z₀ z) (ps : Filled 0 (pass_s sup₀ nx all r2 bit) 0 (j * nx) sup₀ sup) where
    pub row_pass : RowPass z sup nx ny all (radius * radius) bit j
    row_pass =
        record {
          shape = same_shape ok.shape (length z) (pz.same_length ∙ ok.shape.whole);
          both = ps.same_length ∙ ok.both ∙ sym pz.same_length;
          row = hj;
          close = r2_close;
          stations = ok.stations;
          known = ok.known;
          low = λ k h. rw (pz.rest k h) (ok.low k);
          free = λ k h. rw (ps.rest k h) (ok.free k);
        }

    -- place k of row j
    module _ (k : ℕ) (h : j * nx ≤ k) (l : k < j * nx + nx) where
      split : k ≡ j * nx + (k - j * nx)
      split = omega arith

      at_column : k % nx ≡ k - j * nx
      at_column = ap (λ (m : ℕ). m % nx) split ∙ digits_mod j (omega arith)

      at_row : k / nx ≡ j
      at_row = ap (λ (m : ℕ). m / nx) split ∙ digits_div j (omega arith)

      same_z : row_value rule z all r2 j (j * nx) k ≡ pass_z rule z₀ nx all r2 k
      unfolding row_value corrected field_of
      same_z = rw (at_column, at_row, ← split) (rw (pz.rest k h))

      same_s : row_support sup all r2 bit j (j * nx) k ≡ pass_s sup₀ nx all r2 bit k
      unfolding row_support backed field_of
      same_s = rw (at_column, at_row, ← split) (rw (ps.rest k h))

    next_row : j * nx + nx ≡ (j + 1) * nx
    next_row = omega (arith, suc-mul j nx)

    pub next_z : (z' : List ℤ) → Filled (pos 0) (row_value rule z all r2 j (j * nx)) (j * nx) (j * nx + nx) z z'
        → Filled (pos 0) (pass_z rule z₀ nx all r2) 0 ((j + 1) * nx) z₀ z'
    next_z z' p =
        rw (← next_row)
        (filled_join (pos 0) (pass_z rule z₀ nx all r2) (row_value rule z all r2 j (j * nx)) 0 (j * nx) (j * nx + nx) z₀ z z' (omega arith) (omega arith) same_z pz p)

    pub next_s : (sup' : List ℕ) → Filled 0 (row_support sup all r2 bit j (j * nx)) (j * nx) (j * nx + nx) sup sup'
        → Filled 0 (pass_s sup₀ nx all r2 bit) 0 ((j + 1) * nx) sup₀ sup'
    next_s sup' p =
        rw (← next_row)
        (filled_join 0 (pass_s sup₀ nx all r2 bit) (row_support sup all r2 bit j (j * nx)) 0 (j * nx) (j * nx + nx) sup₀ sup sup' (omega arith) (omega arith) same_s ps p)

  -- all rows
  pub all_z : (rule : ℕ) (z : List ℤ) → Filled (pos 0) (pass_z rule z₀ nx all r2) 0 (ny * nx) z₀ z → z ≡ stored nx ny (corrected rule z₀ nx all r2)
  unfolding stored
  all_z rule z p = filled_all (pos 0) (pass_z rule z₀ nx all r2) (nx * ny) z₀ z ok.shape.whole (rw (mul_comm ny nx) at p)

  pub all_s : (sup : List ℕ) → Filled 0 (pass_s sup₀ nx all r2 bit) 0 (ny * nx) sup₀ sup → sup ≡ stored nx ny (backed sup₀ nx all r2 bit)
  unfolding stored
  all_s sup p = filled_all 0 (pass_s sup₀ nx all r2 bit) (nx * ny) sup₀ sup (ok.both ∙ ok.shape.whole) (rw (mul_comm ny nx) at p)
