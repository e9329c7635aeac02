-- Printed numbers, digit by digit, and how many digits they have.
use Rattle.std.specs.Prelude.{ℕ, ◌+◌}

abbrev pub digit : ℕ → ℕ
digit d = 48 + d
