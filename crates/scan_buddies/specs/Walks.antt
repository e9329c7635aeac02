-- The walk down a cell's chain, on which a station hears the survivors in the cell one by one.
use Rattle.std.specs.Prelude.{ℕ, ◌+◌, ◌-◌, ◌*◌, ◌≤◌, ◌<◌, ◌≡◌, List, length, get_or, ℤ, pos}
use Rattle.std.proofs.Common.{arith, ap, ◌∙◌}
use Rattle.lists.specs.Chains.{last, sum_of, Walked, last_most, walk_start, walk_turn, walk_end}
use Rattle.scheme.specs.Units.{most_stations}
use Rattle.scheme.specs.Buddies.{Heard, silence, both}
use Rattle.scheme.proofs.Adding.{both_silence, both_assoc}
use Rattle.request.specs.declared.Station.{Station as Row}
use Rattle.request.specs.Tables.{station_in}
use Rattle.scan_buddies.specs.Aside.{Standing}
use Rattle.scan_buddies.specs.Voices.{both_comm, OfAtMost, of_more, of_both, from_cells, from_one, from_few, walked_few}
use Rattle.scan_buddies.specs.Cells.{cells, kinds, cell_at, Survivors}
use Rattle.scan_buddies.specs.Nine.{voice, voice_small, in_cell}

-- station k, which had heard before, has walked the chain of cell c down to t, and has heard h by now
abbrev pub Walking : (radius : ℕ) (stations : List Row) (ds : List ℤ) (k c : ℕ) (st : List ℕ) (before : Heard) (t : ℕ) → Heard → Type 0
Walking radius stations ds k c st before t h =
    Walked silence both (cell_at radius stations st) c (voice radius stations ds k) (length stations) t h
    (both before (sum_of silence both (cell_at radius stations st) c (voice radius stations ds k) (length stations)))

-- the next station of the chain is t - 1
pub record Turn (stations : List Row) (ds : List ℤ) (t : ℕ) (h : Heard) : Type 0 where
  pub inside : t - 1 < length stations
  pub standing : Standing (station_in stations (t - 1)) (get_or ds (t - 1) (pos 0))
  pub few : OfAtMost (5 * most_stations) h

module _ (radius : ℕ) (stations : List Row) (ds : List ℤ) (heads next : List ℕ) (st : List ℕ) (s : Survivors radius stations ds heads next st) (k : ℕ) where
  abbrev n : ℕ
  n = length stations

  -- what those in the cells say is small
  voices_small : (high : ℕ) → high ≤ cells → (j : ℕ) → j < n → cell_at radius stations st j < high → OfAtMost 1 (voice radius stations ds k j)
  voices_small high most j h l = voice_small radius stations ds k j (s.standing j h (in_cell radius stations st j (omega arith)))

  pub cells_small : (low high : ℕ) → high ≤ cells → OfAtMost most_stations (from_cells (cell_at radius stations st) n low high (voice radius stations ds k))
  cells_small low high most =
      of_more n most_stations (from_cells (cell_at radius stations st) n low high (voice radius stations ds k)) s.few
      (from_few (cell_at radius stations st) n low high (voice radius stations ds k) (voices_small high most))

  -- with what was heard before
  pub with_cells : (m low high : ℕ) (before h : Heard) → high ≤ cells → OfAtMost (m * most_stations) before
      → h ≡ both before (from_cells (cell_at radius stations st) n low high (voice radius stations ds k)) → OfAtMost ((m + 1) * most_stations) h
  with_cells m low high before h most few e =
      rw e
      (of_more (m * most_stations + most_stations) ((m + 1) * most_stations) _ (omega arith)
      (of_both (m * most_stations) most_stations before (from_cells (cell_at radius stations st) n low high (voice radius stations ds k)) few (cells_small low high most)))

  module _ (c : ℕ) (before : Heard) where
    pub walking_start : c < kinds → Walking radius stations ds k c st before (get_or heads c 0) before
    walking_start l =
        rw (s.chained.head c l)
        (walk_start silence both both_silence both_assoc both_comm (cell_at radius stations st) c (voice radius stations ds k) n before)

    module _ (small : c < cells) (t : ℕ) (h : Heard) (some : 0 < t) (w : Walking radius stations ds k c st before t h) where
      turned : (cell_at radius stations st (t - 1) ≡ c)
          × Walking radius stations ds k c st before (last (cell_at radius stations st) (cell_at radius stations st (t - 1)) (t - 1)) (both h (voice radius stations ds k (t - 1)))
      turned =
          walk_turn silence both both_silence both_assoc both_comm (cell_at radius stations st) c (voice radius stations ds k) n t (t - 1) h _ (omega arith) w

      below : t - 1 < n
      below = omega (arith, w.no_more)

      pub turn : OfAtMost (3 * most_stations) before → Turn stations ds t h
      turn few =
          record {
            inside = below;
            standing = s.standing (t - 1) below (in_cell radius stations st (t - 1) (omega (arith, turned.0)));
            few =
                of_more (4 * most_stations + n) (5 * most_stations) h (omega (arith, s.few))
                (walked_few (cell_at radius stations st) c n t (4 * most_stations) (voice radius stations ds k) h _ (voices_small (c + 1) (omega arith))
                (with_cells 3 c (c + 1) before _ (omega arith) few (ap (both before) (from_one (cell_at radius stations st) n c (voice radius stations ds k)))) w);
          }

      next_is : get_or next (t - 1) 0 ≡ last (cell_at radius stations st) (cell_at radius stations st (t - 1)) (t - 1)
      next_is = s.chained.link (t - 1) below

      pub next_less : get_or next (t - 1) 0 < t
      next_less = omega (arith, next_is, last_most (cell_at radius stations st) (cell_at radius stations st (t - 1)) (t - 1))

      pub walking_next : Walking radius stations ds k c st before (get_or next (t - 1) 0) (both h (voice radius stations ds k (t - 1)))
      walking_next = rw next_is turned.1

    pub walking_end : (t : ℕ) (h : Heard) → t ≡ 0 → Walking radius stations ds k c st before t h
        → h ≡ both before (from_cells (cell_at radius stations st) n c (c + 1) (voice radius stations ds k))
    walking_end t h e w =
        walk_end silence both both_silence both_assoc both_comm (cell_at radius stations st) c (voice radius stations ds k) n t h _ e w
        ∙ ap (both before) (from_one (cell_at radius stations st) n c (voice radius stations ds k))
