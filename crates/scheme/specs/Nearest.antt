-- The rounded quotient is the nearest whole number, halves away from zero: that is its property, and it has no other answer.
use Rattle.std.specs.Prelude.{ℕ, ◌≤◌, ◌≡◌, ℤ, pos, nat_abs, ◌-ℤ◌, ◌*ℤ◌}

-- how far n lies from r times d
abbrev pub off : ℤ → ℕ → ℤ → ℕ
off n d r = nat_abs (n -ℤ r *ℤ pos d)

-- r is n / d to the nearest whole number, halves away from zero
pub record Nearest (n : ℤ) (d : ℕ) (r : ℤ) : Type 0 where
  -- no whole number is nearer
  pub near : (k : ℤ) → off n d r ≤ off n d k
  -- and of two that are equally near, r is the farther from zero
  pub away : (k : ℤ) → off n d k ≡ off n d r → nat_abs k ≤ nat_abs r
