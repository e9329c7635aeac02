-- Fields and the lists that store them: what is stored is there, and only the points of the grid matter.
use Prim.Native.Nat.{ℕ, ◌<◌}
use Rattle.std.specs.Prelude.{◌≡◌}
use Rattle.scheme.specs.Units.{Field}

-- two fields are the same on a grid
abbrev pub Same : {A : Type 0} → (nx ny : ℕ) → Field A → Field A → Type 0
Same nx ny f g = (i j : ℕ) → i < nx → j < ny → f i j ≡ g i j
