-- The support of the four corners of a cell, p, q over r, s.
use Rattle.std.specs.Prelude.{ℕ, ◌+◌, ◌-◌, ◌*◌, ◌≡◌, refl, Bool, true, false, not, ◌&&◌, ◌||◌, List, [], ◌∷◌, eqb, get_or}
use Rattle.std.specs.List.{zip, list_all}
use Rattle.std.proofs.Common.{◌∙◌}
use Rattle.scheme.specs.Units.{field_of, step}
use Rattle.scheme.specs.Value.{cell, corners}
use Rattle.scheme.specs.Readings.{is_backed}
use Rattle.field_value.specs.Corners.{shares_of, Spotted, right_of, above, across}

-- a corner with that share and support byte
abbrev pub corner_backed : (share support : ℕ) → Bool
corner_backed share support = eqb share 0 || not (eqb support 0)

-- all of them
abbrev pub all_backed : (shares support : List ℕ) → Bool
all_backed shares support = list_all (λ corner. corner_backed corner.0 corner.1) (zip shares support)

all_four : (p q r s : Bool) → p && (q && (r && (s && true))) ≡ p && q && r && s
all_four true true true true = refl
all_four true true true false = refl
all_four true true false s = refl
all_four true false r s = refl
all_four false q r s = refl

-- the support of the corners as a stored field has them is the field's
pub all_is_backed : (l : List ℕ) (nx ny x y corner a b : ℕ) → Spotted nx ny x y corner a b
    → all_backed (shares_of a b) (get_or l corner 0 ∷ get_or l (corner + 1) 0 ∷ get_or l (corner + nx) 0 ∷ get_or l (corner + nx + 1) 0 ∷ [])
    ≡ is_backed nx ny (field_of 0 nx l) x y
unfolding is_backed corners field_of
all_is_backed l nx ny x y corner a b s =
    let m = cell nx x in
    let n = cell ny y in
    all_four (corner_backed ((step - a) * (step - b)) (get_or l corner 0)) (corner_backed (a * (step - b)) (get_or l (corner + 1) 0))
    (corner_backed ((step - a) * b) (get_or l (corner + nx) 0)) (corner_backed (a * b) (get_or l (corner + nx + 1) 0))
    ∙ rw (s.corner_is, s.a_is, s.b_is, right_of nx m n, across nx m n, above nx m n)
