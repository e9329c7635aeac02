-- A turn of the loop over the values of a row, over plain values: what is read so far, before what the definition still reads from here, is the whole.
use Rattle.std.proofs.Common.{ℕ, suc, ◌+◌, ◌≤◌, ◌<◌, ◌≡◌, refl, List, [], ◌∷◌, ◌++◌, length, take, set, ℤ, add-one, sym, ap, ◌∙◌, append_assoc, append-nil, take-suc-set, take_all}
use Rattle.scheme.specs.Text.Reader.{fails, reads, onward, gives, ◌before◌}
use Rattle.scheme.specs.Text.Pieces.{Piece, word, signed, mark, values}
use Rattle.text_pieces.specs.Told.{Parsed, follows}

-- a value that has so many after it
abbrev pub cell : ℕ → Piece ℤ
cell more = signed before word (mark more ∷ [])

-- such a value, as code reads it
pub cell_told : {m r : Parsed ℤ} (more b : ℕ) (text : List ℕ) → b ≡ mark more → signed text ≡ m → follows m (word (b ∷ [])) ≡ r → cell more text ≡ r
cell_told more b text e f g = ap (λ (x : ℕ). (signed before word (x ∷ [])) text) (sym e) ∙ ap (λ (x : Parsed ℤ). follows x (word (b ∷ []))) f ∙ g

-- values that were read before others
abbrev pub prefixed : List ℤ → Parsed (List ℤ) → Parsed (List ℤ)
prefixed l (fails none) = fails none
prefixed l (reads vs rest) = reads (l ++ vs) rest

prefixed_twice : (l m : List ℤ) (p : Parsed (List ℤ)) → prefixed l (prefixed m p) ≡ prefixed (l ++ m) p
prefixed_twice l m (fails none) = refl
prefixed_twice l m (reads vs rest) = ap (λ (k : List ℤ). reads k rest) (sym (append_assoc l m vs))

values_more : (more : ℕ) (text rest : List ℕ) (v : ℤ) → cell more text ≡ reads v rest → values (suc more) text ≡ prefixed (v ∷ []) (values more rest)
unfolding values
values_more more text rest v e = rw e (go (values more rest))
  where
    go : (p : Parsed (List ℤ)) → onward p (λ vs. gives (v ∷ vs)) ≡ prefixed (v ∷ []) p
    go (fails none) = refl
    go (reads vs r) = refl

values_stop : (more : ℕ) (text : List ℕ) → cell more text ≡ fails tt → values (suc more) text ≡ fails tt
unfolding values
values_stop more text e = rw e

module _ (text left : List ℕ) (n i more : ℕ) (z : List ℤ) where
  -- i values read into z, and so many more to be read from here
  abbrev pub Reached : Type 0
  Reached = values n text ≡ prefixed (take i z) (values more left)

  pub values_turn : (m : ℕ) (v : ℤ) (rest : List ℕ) → more ≡ m + 1 → i < length z → Reached → cell m left ≡ reads v rest
      → values n text ≡ prefixed (take (i + 1) (set z i v)) (values m rest)
  values_turn m v rest e h inv c =
      inv
      ∙ ap (λ (k : ℕ). prefixed (take i z) (values k left)) (e ∙ add-one m)
      ∙ ap (prefixed (take i z)) (values_more m left rest v c)
      ∙ prefixed_twice (take i z) (v ∷ []) (values m rest)
      ∙ ap (λ (l : List ℤ). prefixed l (values m rest)) (sym (ap (λ (j : ℕ). take j (set z i v)) (add-one i) ∙ take-suc-set z i v h))

  pub values_off : (m : ℕ) → more ≡ m + 1 → Reached → cell m left ≡ fails tt → values n text ≡ fails tt
  values_off m e inv c =
      inv
      ∙ ap (λ (k : ℕ). prefixed (take i z) (values k left)) (e ∙ add-one m)
      ∙ ap (prefixed (take i z)) (values_stop m left c)

  pub values_done : more ≡ 0 → length z ≤ i → Reached → values n text ≡ reads z left
  unfolding values
  values_done e h inv =
      inv
      ∙ ap (λ (k : ℕ). prefixed (take i z) (values k left)) e
      ∙ ap (λ (k : List ℤ). reads k left) (append-nil (take i z) ∙ take_all i z h)

pub values_begin : (n : ℕ) (text : List ℕ) (z : List ℤ) → values n text ≡ prefixed (take 0 z) (values n text)
values_begin n text z = go (values n text)
  where
    go : (p : Parsed (List ℤ)) → p ≡ prefixed [] p
    go (fails none) = refl
    go (reads vs r) = refl
