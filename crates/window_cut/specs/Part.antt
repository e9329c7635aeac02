-- A part of a stored field, copied row after row.
use Rattle.std.specs.Prelude.{ℕ, ◌+◌, ◌-◌, ◌*◌, ◌/◌, ◌%◌, ◌≤◌, ◌<◌, ◌≡◌, ◌⊎◌, List, ◌++◌, length, take, drop, get_or}
use Rattle.std.proofs.Common.{arith, add_comm, mul_comm, mul-le-mul, mul-le-mul_right, ap, ◌∙◌, inl, inr, length-drop, length-take-le}
use Rattle.std.proofs.lemmas.List.{get_or-append-add, get_or_append_left, get_or-take, get_or-drop}
use Rattle.std.proofs.Math.Arith.{digits_div, digits_mod}
use Rattle.lists.specs.Tests.{lt_or_le}
use Rattle.lists.specs.Tab.{is_tab}
use Rattle.scheme.specs.Units.{most_side, Field, stored, field_of}
use Rattle.scheme.specs.Refusals.{Window, points_along}
use Rattle.scheme.specs.Most.{most_points}
use Rattle.scheme.specs.Accepted.{Shaped}
use Rattle.window_cut.specs.declared.Part.{Part}

-- ---- the part

-- a window's
abbrev pub part_at : Window → Part
part_at w = record { column = w.columns.first; row = w.rows.first; wide = points_along w.columns; high = points_along w.rows }

abbrev pub part_of : {A : Type 0} → A → (across : ℕ) → Part → List A → Field A
part_of past across p from i j = field_of past across from (i + p.column) (j + p.row)

pub record PartReady (to from across : ℕ) (p : Part) : Type 0 where
  pub to_is : to ≡ p.wide * p.high
  pub to_few : to ≤ most_points
  pub from_few : from ≤ most_points
  pub columns : p.column + p.wide ≤ across
  pub few_rows : p.row + p.high ≤ most_side
  pub rows : (p.row + p.high) * across ≤ from

-- of a grid of that many columns
pub part_ready : {from across down : ℕ} {p : Part} → Shaped across down from → p.column + p.wide ≤ across → p.row + p.high ≤ down
    → (to : ℕ) → to ≡ p.wide * p.high → PartReady to from across p
part_ready {from = from} {across = across} {down = down} {p = p} s c r to e =
    record {
      to_is = e;
      to_few = rw e (mul-le-mul narrow low);
      from_few = rw s.whole (mul-le-mul s.few_columns s.few_rows);
      columns = c;
      few_rows = omega (arith, s.few_rows);
      rows = omega (arith, mul-le-mul_right across r, s.whole, mul_comm across down);
    }
  where
    narrow : p.wide ≤ most_side
    narrow = omega (arith, s.few_columns)

    low : p.high ≤ most_side
    low = omega (arith, s.few_rows)

-- ---- its rows, one after the other

module _ {A : Type 0} (across : ℕ) (p : Part) (from : List A) where
  -- where row j begins in the part, and in the field
  abbrev in_part : ℕ → ℕ
  in_part j = j * p.wide

  abbrev in_field : ℕ → ℕ
  in_field j = (p.row + j) * across + p.column

  -- the first j rows are copied
  abbrev pub Copied : ℕ → List A → Type 0
  Copied j to = (past : A) (k : ℕ) → k < in_part j → get_or to k past ≡ part_of past across p from (k % p.wide) (k / p.wide)

  pub copied_none : (to : List A) → Copied 0 to
  copied_none to past k h = absurd (omega (arith, h))

  -- a row more: so many of the field's from its place on, in the place of as many of the part's
  pub copied_next : (j : ℕ) (to : List A) {row : List A} (m n : ℕ) → m ≡ p.wide → n ≡ p.wide → in_part j + p.wide ≤ length to → in_field j + p.wide ≤ length from
      → row ≡ take n (drop (in_field j) from) → Copied j to → Copied (j + 1) (take (in_part j) to ++ (row ++ drop m (drop (in_part j) to)))
  unfolding field_of
  copied_next j to {row = row} m n em en room inside e passed past k h = go (lt_or_le k (in_part j))
    where
      rest : List A
      rest = row ++ drop m (drop (in_part j) to)

      head : length (take (in_part j) to) ≡ in_part j
      head = length-take-le (in_part j) to (omega (arith, room))

      long : length row ≡ p.wide
      long = ap length e ∙ length-take-le n (drop (in_field j) from) (rw (length-drop (in_field j) from, en) (omega (arith, inside))) ∙ en

      go : (k < in_part j) ⊎ (in_part j ≤ k) → get_or (take (in_part j) to ++ rest) k past ≡ part_of past across p from (k % p.wide) (k / p.wide)
      go (inl q) = get_or_append_left (take (in_part j) to) rest past k (omega (arith, head, q)) ∙ get_or-take (in_part j) to k past q ∙ passed past k q
      go (inr q) =
          let i = k - in_part j in
          let inrow : i < p.wide = omega (arith, h, q) in
          let at : k ≡ length (take (in_part j) to) + i = omega (arith, head, q) in
          let here : k ≡ j * p.wide + i = omega (arith, q) in
          let a : k % p.wide ≡ i = ap (λ (l : ℕ). l % p.wide) here ∙ digits_mod j inrow in
          let b : k / p.wide ≡ j = ap (λ (l : ℕ). l / p.wide) here ∙ digits_div j inrow in
          let s : in_field j + i ≡ (j + p.row) * across + (i + p.column) = omega (arith, ap (λ (l : ℕ). l * across) (add_comm p.row j)) in
          ap (λ (l : ℕ). get_or (take (in_part j) to ++ rest) l past) at
          ∙ get_or-append-add (take (in_part j) to) rest i past
          ∙ get_or_append_left row (drop m (drop (in_part j) to)) past i (omega (arith, long, inrow))
          ∙ ap (λ (l : List A). get_or l i past) e
          ∙ get_or-take n (drop (in_field j) from) i past (omega (arith, inrow, en))
          ∙ get_or-drop (in_field j) from i past
          ∙ ap (λ (l : ℕ). get_or from l past) s
          ∙ rw (a, b)

  -- all rows
  pub copied_all : (j : ℕ) (to : List A) → j ≡ p.high → length to ≡ p.wide * p.high → Copied j to → (past : A) → to ≡ stored p.wide p.high (part_of past across p from)
  unfolding stored
  copied_all j to e long passed past =
      is_tab past (p.wide * p.high) _ to long (λ k h. passed past k (omega (arith, h, mul_comm p.wide p.high, ap (λ (n : ℕ). n * p.wide) e)))

  -- row j lies in both
  pub row_ready : {to j : ℕ} → PartReady to (length from) across p → j < p.high → (in_part j + p.wide ≤ to) × (in_field j + p.wide ≤ length from)
  row_ready {j = j} r h = (
    omega (arith, r.to_is, mul-le-mul_right p.wide h, mul_comm p.wide p.high),
    omega (arith, r.columns, r.rows, mul-le-mul_right across (below j h)),
  )
    where
      below : (j : ℕ) → j < p.high → p.row + j + 1 ≤ p.row + p.high
      below j h = omega arith
