-- An axis of the grid and a stretch of it: the places of positions, and how the stretch counts them from its first point.
use Rattle.std.specs.Prelude.{ℕ, ◌+◌, ◌-◌, ◌*◌, ◌≤◌, ◌<◌, ◌≡◌, ℤ, pos, ◌-ℤ◌}
use Rattle.scheme.specs.Units.{Field, step}
use Rattle.scheme.specs.Refusals.{Span, points_along}

pub record Axis : Type 0 where
  pub n : ℕ
  pub span : Span
  pub two : span.first < span.last
  pub inside : span.last < n

-- where the stretch starts, and how many points it has
abbrev pub off : Axis → ℕ
off a = a.span.first

abbrev pub len : Axis → ℕ
len a = points_along a.span

-- a position counted from the first point of the stretch
abbrev pub from_first : Axis → ℤ → ℤ
from_first a x = x -ℤ pos (step * off a)

-- a position on the stretch, its ends included
pub record On (a : Axis) (x : ℕ) : Type 0 where
  pub low : step * a.span.first ≤ x
  pub high : x ≤ step * a.span.last

abbrev pub gap : ℕ → ℕ → ℕ
gap a b = (a - b) + (b - a)

-- point i of the stretch is a corner with a share in the position x
pub record Beside (a : Axis) (x i : ℕ) : Type 0 where
  pub inside : i < len a
  pub close : gap (step * (i + off a)) x < step

-- f of the grid and g of the stretches a and b are the same at the corners with a share in the place (x, y)
abbrev pub SameBeside : {A : Type 0} → Axis → Axis → (x y : ℕ) → Field A → Field A → Type 0
SameBeside a b x y f g = (i j : ℕ) → Beside a x i → Beside b y j → f (i + off a) (j + off b) ≡ g i j
