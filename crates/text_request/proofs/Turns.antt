-- A turn of each reading loop, over plain values: what is read so far, before what the definition still reads from here, is the whole.
use Rattle.std.proofs.Common.{ℕ, suc, ◌+◌, ◌-◌, ◌*◌, ◌≤◌, ◌<◌, ◌≡◌, refl, ap, sym, ◌∙◌, arith, add-one, List, [], ◌∷◌, ◌++◌, map, append_assoc, append-nil, length, take, drop, set, take-suc-set, take_all, length-append, length-take, length-drop, take_at, length-take-le}
use mathlib.Core.List.{flatten}
use Rattle.std.proofs.lemmas.List.{map-append}
use Rattle.scheme.specs.Text.Reader.{fails, reads, onward, gives}
use Rattle.scheme.specs.Text.Pieces.{Piece}
use Rattle.scheme.specs.Text.Order.{Text, line, lines, rows}
use Rattle.scheme.specs.RoundTrip.{led}
use Rattle.text_head.specs.Left.{Read}

led_none : {A : Type 0} (r : Read (List A)) → r ≡ led [] r
led_none (fails k) = refl
led_none (reads vs left) = refl

led_twice : {A : Type 0} (l m : List A) (r : Read (List A)) → led l (led m r) ≡ led (l ++ m) r
led_twice l m (fails k) = refl
led_twice {A = A} l m (reads vs left) = ap (λ (w : List A). reads w left) (sym (append_assoc l m vs))

-- ---- lines of a kind: F n reads n of them

module _ {A : Type 0} (F : ℕ → Text (List A)) (n : ℕ) (whole : ℕ × List ℕ) where
  -- i lines read, which said so much, up to here
  abbrev pub Reached : ℕ → List A → ℕ × List ℕ → Type 0
  Reached i said here = F n whole ≡ led said (F (n - i) here)

  pub begin : Reached 0 [] whole
  begin = let e : n ≡ n - 0 = omega arith in led_none (F n whole) ∙ ap (λ (k : ℕ). led [] (F k whole)) e

  module _ (i : ℕ) (said : List A) (here : ℕ × List ℕ) (inv : Reached i said here) where
    module _ (h : i < n) where
      next : F n whole ≡ led said (F (suc (n - (i + 1))) here)
      next = let e : n - i ≡ suc (n - (i + 1)) = omega arith in inv ∙ ap (λ (k : ℕ). led said (F k here)) e

      pub turn : (vs more : List A) (after : ℕ × List ℕ) → ((m : ℕ) → F (suc m) here ≡ led vs (F m after)) → more ≡ said ++ vs → Reached (i + 1) more after
      turn vs more after f e =
          next
          ∙ ap (led said) (f (n - (i + 1)))
          ∙ led_twice said vs (F (n - (i + 1)) after)
          ∙ ap (λ (w : List A). led w (F (n - (i + 1)) after)) (sym e)

      pub stop : (k : ℕ) → ((m : ℕ) → F (suc m) here ≡ fails k) → F n whole ≡ fails k
      stop k off = next ∙ ap (led said) (off (n - (i + 1)))

    pub done : n ≤ i → F 0 here ≡ reads [] here → F n whole ≡ reads said here
    done h none =
        let e : n - i ≡ 0 = omega arith in
        inv ∙ ap (λ (k : ℕ). led said (F k here)) e ∙ ap (led said) none ∙ ap (λ (w : List A). reads w here) (append-nil said)

-- lines that say one thing each
module _ {A : Type 0} (p : Piece A) (here : ℕ × List ℕ) where
  pub lines_more : (a : A) (after : ℕ × List ℕ) → line p here ≡ reads a after → (m : ℕ) → lines (suc m) p here ≡ led (a ∷ []) (lines m p after)
  unfolding lines
  lines_more a after e m = rw e (go (lines m p after))
    where
      go : (r : Read (List A)) → onward r (λ more. gives (a ∷ more)) ≡ led (a ∷ []) r
      go (fails n) = refl
      go (reads vs left) = refl

  pub lines_stop : (k : ℕ) → line p here ≡ fails k → (m : ℕ) → lines (suc m) p here ≡ fails k
  unfolding lines
  lines_stop k e m = rw e

  pub lines_none : lines 0 p here ≡ reads [] here
  unfolding lines
  lines_none = refl

-- the next of them is stored behind those before it
pub stored : {A B : Type 0} (f : A → B) (vs : List A) (i : ℕ) (v : A) → i < length vs → map f (take (i + 1) (set vs i v)) ≡ map f (take i vs) ++ (f v ∷ [])
stored {A = A} f vs i v h = ap (map f) (ap (λ (j : ℕ). take j (set vs i v)) (add-one i) ∙ take-suc-set vs i v h) ∙ map-append f (take i vs) (v ∷ [])

pub all_stored : {A B : Type 0} (f : A → B) (vs : List A) (i : ℕ) → length vs ≤ i → map f (take i vs) ≡ map f vs
all_stored f vs i h = ap (map f) (take_all i vs h)

-- lines of values
module _ {A : Type 0} (p : Piece (List A)) (k : ℕ) (text : List ℕ) where
  pub rows_stop : p text ≡ fails tt → (m : ℕ) → rows (suc m) p (k, text) ≡ fails k
  unfolding rows lines
  rows_stop e m = rw (e, line)

  pub rows_none : rows 0 p (k, text) ≡ reads [] (k, text)
  unfolding rows lines flatten
  rows_none = refl

-- ---- a grid row put into its place of the grid

pub part_long : {A : Type 0} (nx j : ℕ) (z : List A) → j * nx + nx ≤ length z → length (take (j * nx + nx - j * nx) (drop (j * nx) z)) ≡ nx
part_long nx j z h = simp (length-take, length-drop) (omega arith)

pub put_row : {A : Type 0} (nx j : ℕ) (z ys rest : List A) → j * nx ≤ length z → length ys ≡ nx → take ((j + 1) * nx) (take (j * nx) z ++ (ys ++ rest)) ≡ take (j * nx) z ++ ys
put_row {A = A} nx j z ys rest h l =
    let e : length (take (j * nx) z ++ ys) ≡ (j + 1) * nx = length-append (take (j * nx) z) ys ∙ omega (arith, length-take-le (j * nx) z h) in
    ap (λ (w : List A). take ((j + 1) * nx) w) (sym (append_assoc (take (j * nx) z) ys rest))
    ∙ take_at (take (j * nx) z ++ ys) rest ((j + 1) * nx) e
