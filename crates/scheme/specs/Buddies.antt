-- "Buddy check" (document 02, 7): after each scan's E test a survivor is held to the others near it.
use Rattle.std.specs.Prelude.{ℕ, ◌+◌, ◌*◌, Bool, cond, ◌&&◌, List, leb, ltb, ℤ, pos, nat_abs, ◌+ℤ◌, ◌-ℤ◌, ◌*ℤ◌}
use Rattle.lists.specs.Sums.{total}
use Rattle.scheme.specs.Units.{Station}
use Rattle.scheme.specs.Verdicts.{is_accepted}
use Rattle.scheme.specs.Difference.{Row}
use Rattle.scheme.specs.Weight.{inside}

-- n neighbours, and the sum of their D
pub record Heard : Type 0 where
  pub count : ℕ
  pub sum : ℤ

abbrev pub silence : Heard
silence = record { count = 0; sum = pos 0 }

abbrev pub both : Heard → Heard → Heard
both a b = record { count = a.count + b.count; sum = a.sum +ℤ b.sum }

-- what another row says to a station: its D, if it is a survivor at distance below B. B uses true positions
unfoldable pub says : (radius : ℕ) (D : Station → ℤ) → Station → Row → Heard
says radius D s other =
    let o = other.station in
    cond (is_accepted other.verdict && inside (radius * radius) (o.x -ℤ s.x) (o.y -ℤ s.y)) (record { count = 1; sum = D o }) silence

unfoldable pub heard : (radius : ℕ) (D : Station → ℤ) → Station → List Row → Heard
heard radius D s others = total silence both (says radius D s) others

-- at least two, and n·D differs from the sum of its n neighbours' D by more than n·L
unfoldable pub is_odd : (limit : ℕ) → ℤ → Heard → Bool
is_odd limit D h = leb 2 h.count && ltb (h.count * limit) (nat_abs (pos h.count *ℤ D -ℤ h.sum))

-- A surviving station is then set aside for good, with verdict 20 + scan number
unfoldable pub after_buddies : (scan limit : ℕ) → ℤ → Heard → ℕ → ℕ
after_buddies scan limit D h verdict = cond (is_accepted verdict && is_odd limit D h) (20 + scan) verdict

-- in a scan of that number, for B and L, by its differences: a row beside the others
unfoldable pub beside_others : (scan radius limit : ℕ) (D : Station → ℤ) → Row → List Row → Row
beside_others scan radius limit D r others =
    let s = r.station in
    record { station = s; verdict = after_buddies scan limit (D s) (heard radius D s others) r.verdict }
