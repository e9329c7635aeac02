-- "One scan", Weight.
use Rattle.std.specs.Prelude.{ℕ, ◌+◌, ◌-◌, ◌*◌, ◌/◌, Bool, not, cond, ◌&&◌, ltb, eqb, ℤ, nat_abs, ◌+ℤ◌, ◌*ℤ◌}
use Rattle.scheme.specs.Units.{Wind, is_no_wind, wind_mode}

-- a weight is in parts of this: weights in ten-thousandths (document 02, 3)
abbrev pub scale : ℕ
scale = 10000

-- the round weight: with r2 = R², for squared distance d2 from point to station, the whole part of 10,000(R² - d2)/(R² + d2)
unfoldable pub weight : (r2 d2 : ℕ) → ℕ
weight r2 d2 = scale * (r2 - d2) / (r2 + d2)

abbrev pub square : ℤ → ℕ
square z = nat_abs z * nat_abs z

-- d2 of the station's offset dx, dy from the point; and V = u² + v² of its wind
abbrev pub squares : ℤ → ℤ → ℕ
squares a b = square a + square b

-- 0 if d2 ≥ R²: only a station inside the radius has weight
abbrev pub inside : (r2 : ℕ) (dx dy : ℤ) → Bool
inside r2 dx dy = ltb (squares dx dy) r2

-- ---- Stretch along the wind (document 02, 5)

-- u·dx + v·dy
abbrev pub along : Wind → (dx dy : ℤ) → ℤ
along w dx dy = w.u *ℤ dx +ℤ w.v *ℤ dy

abbrev pub strength : Wind → ℕ
strength w = squares w.u w.v

-- the effective squared radius is R²(1 + (u·dx + v·dy)²/(V·d2)), as an exact fraction R²(V·d2 + (u·dx + v·dy)²) over V·d2. The weight uses it in
-- place of R²: both parts of the weight's fraction are multiplied by V·d2, and one whole part is taken, at the end
unfoldable pub stretched : (r2 : ℕ) → Wind → (dx dy : ℤ) → ℕ
stretched r2 w dx dy =
    let d2 = squares dx dy in
    weight (r2 * (strength w * d2 + square (along w dx dy))) (strength w * d2 * d2)

-- Calm, missing wind or d2 = 0 gives the round weight
unfoldable pub blows : (mode : ℕ) → Wind → (dx dy : ℤ) → Bool
blows mode w dx dy = eqb mode wind_mode && not (is_no_wind w) && ltb 0 (strength w * squares dx dy)

-- ---- the weight at a point of a station dx and dy off it

unfoldable pub weight_at : (mode r2 : ℕ) → Wind → (dx dy : ℤ) → ℕ
weight_at mode r2 w dx dy =
    cond (inside r2 dx dy) (cond (blows mode w dx dy) (stretched r2 w dx dy) (weight r2 (squares dx dy))) 0
