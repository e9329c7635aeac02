-- What is left of a row, of a line and of the rows of a grid, after some of it is put.
use Rattle.std.specs.Prelude.{ℕ, suc, ◌+◌, ◌-◌, ◌*◌, ◌/◌, ◌≤◌, ◌<◌, ◌≡◌, refl, List, [], ◌∷◌, ◌++◌, length, ℤ}
use Rattle.std.proofs.Common.{arith, add-one, sym, ap, ◌∙◌, drop, get_or, drop_of_length-le, length-append, append_assoc}
use Rattle.std.proofs.Math.ListN.{length-drop}
use Rattle.std.proofs.Math.Nat.{add-div_right, div-eq_of_lt, mul-div_right}
use Rattle.std.proofs.Math.Seq.{drop-cons, take-append_seam, drop-append_seam}
use Rattle.scheme.specs.Text.{first_two, analysis_text}
use Rattle.scheme.specs.Text.Pieces.{ascii, mark}
use Rattle.scheme.specs.Text.Printed.{decimal, integer, cells, keyed, grid_lines}
use Rattle.scheme.specs.Promises.{slices}

module _ {A : Type 0} (shown : A → List ℕ) where
  -- ---- a row

  -- the value at i, what follows it, and those after it
  pub cells_next : (zs : List A) (i : ℕ) (v : A) → i < length zs → v ≡ get_or zs i v → cells shown (drop i zs) ≡ shown v ++ (mark (length zs - 1 - i) ∷ cells shown (drop (i + 1) zs))
  unfolding cells
  cells_next zs i v h is =
      let e : length zs - suc i ≡ length zs - 1 - i = omega arith in
      rw (add-one i, drop-cons zs i v h, length-drop (suc i) zs, e, ← is)

  pub cells_done : (zs : List A) (i : ℕ) → length zs ≤ i → cells shown (drop i zs) ≡ []
  unfolding cells
  cells_done zs i h = rw (drop_of_length-le zs h)

  -- ---- a line

  -- what follows its key
  abbrev pub after_key : List A → List ℕ
  after_key [] = 10 ∷ []
  after_key (v ∷ vs) = cells shown (v ∷ vs)

  pub key_first : (key : List ℕ) (zs : List A) → keyed key shown zs ≡ key ++ after_key zs
  unfolding keyed
  key_first key [] = refl
  key_first key (z ∷ zs) = refl

  pub none_after : (zs : List A) → length zs ≡ 0 → after_key zs ≡ 10 ∷ []
  none_after [] h = refl
  none_after (z ∷ zs) h = absurd (omega arith)

  pub some_after : (zs : List A) → (length zs ≡ 0 → ⊥) → after_key zs ≡ cells shown zs
  some_after [] h = absurd (h refl)
  some_after (z ∷ zs) h = refl

  pub keyed_one : (key : List ℕ) (z : A) → keyed key shown (z ∷ []) ≡ key ++ (shown z ++ (10 ∷ []))
  unfolding keyed cells
  keyed_one key z = refl

  -- ---- the rows of a grid

  module _ (key : List ℕ) (nx : ℕ) where
    -- of as many rows as the values fill
    abbrev pub rows : List A → List ℕ
    rows zs = grid_lines key shown nx (length zs / nx) zs

    module _ (h : 0 < nx) where
      -- a row, and those after it
      pub rows_next : (zs row more : List A) → zs ≡ row ++ more → length row ≡ nx → rows zs ≡ keyed key shown row ++ rows more
      unfolding grid_lines
      rows_next zs row more e n =
          let m : length (row ++ more) / nx ≡ suc (length more / nx) = ap (λ (k : ℕ). k / nx) (omega (arith, length-append row more)) ∙ add-div_right (length more) h ∙ add-one (length more / nx) in
          rw (e, m, grid_lines, ← n, take-append_seam row more, drop-append_seam row more)

      pub rows_done : (zs : List A) → length zs < nx → rows zs ≡ []
      unfolding grid_lines
      rows_done zs k = rw (div-eq_of_lt k, grid_lines)

      pub rows_all : (ny : ℕ) (zs : List A) → ny * nx ≡ length zs → rows zs ≡ grid_lines key shown nx ny zs
      rows_all ny zs e = let q : length zs / nx ≡ ny = ap (λ (k : ℕ). k / nx) (sym e ∙ omega arith) ∙ mul-div_right ny h in rw q

-- ---- the answer

pub answer_parts : (nx ny : ℕ) (grid : List ℤ) (support verdict : List ℕ) → 0 < nx → ny * nx ≡ length grid → ny * nx ≡ length support
    → analysis_text nx ny (slices grid support verdict) ≡ first_two 0 0 ++ (rows integer (ascii "row=") nx grid ++ (rows decimal (ascii "sup=") nx support ++ keyed (ascii "ver=") decimal verdict))
unfolding analysis_text
answer_parts nx ny grid support verdict h g s =
    rw (rows_all integer (ascii "row=") nx h ny grid g, rows_all decimal (ascii "sup=") nx h ny support s) (simp append_assoc)
