-- A screen of windows and the single queries of its windows, in order: they answer the same, refusals included (document 02, 2).
use Prim.Native.Nat.{ℕ, ◌<◌}
use Rattle.std.proofs.Math.Path.{◌≡◌}
use Rattle.std.specs.Prelude.{◌↔◌, Bool, eqb, length}
use mathlib.Core.List.{List, [], ◌∷◌, map}
use Rattle.lists.specs.Turns.{join_to}
use Rattle.lists.specs.First.{first_in}
use Rattle.scheme.specs.Units.{Call, asked}
use Rattle.scheme.specs.Refusals.{Refusal, accepted, refused, number_of, as_one, in_order, refused_if, refused_at, Window, Screen, window_on, windows_of, points_of, bad_columns, from_five, window_refusal}
use Rattle.scheme.specs.Reach.{Tile}
use Rattle.scheme.specs.Promises.{tile, Queries, four_columns}
use Rattle.scheme.specs.Accepted.{FitsWindow}

-- a query that is refused for its window
abbrev pub for_its_window : Refusal → Bool
for_its_window r = eqb (number_of r) 2

-- 2 names the first of them that is refused for its window, by its index; or else it is as the first that is refused
unfoldable pub of_singles : List Refusal → Refusal
of_singles rs = in_order (refused_at 2 (first_in for_its_window rs) ∷ rs)

-- the single query of a window, with results as long as it is
abbrev pub single : Call → Window → Refusal
single c w = window_refusal c w (points_of w) (points_of w)

abbrev pub from_four : Call → List Refusal
from_four c = refused_if 4 (bad_columns c.stations) ∷ from_five (asked c)

-- a screen of one window is the single query
abbrev pub alone : (left right top bottom : ℕ) → Screen
alone left right top bottom = four_columns (left ∷ []) (right ∷ []) (top ∷ []) (bottom ∷ [])

pub record Singly (c : Call) (s : Screen) : Type 0 where
  pub found : ℕ → Tile
  pub answer : ℕ → ℕ
  pub left : ℕ → Tile
  pub fits : (k : ℕ) → k < length s.left → FitsWindow (window_on s k) (length (found k).grid) (length (found k).support)
  pub queries : (k : ℕ) → k < length s.left → Queries c (window_on s k) (found k) (answer k) (left k)

-- what a screen answers and leaves, beside them
pub record AsSingly (c : Call) (s : Screen) (found : Tile) (answer : ℕ) (left : Tile) (each : Singly c s) : Type 0 where
  pub refusal : answer ≡ as_one (of_singles (map (single c) (windows_of s)))
  pub their_refusals : (k : ℕ) → k < length s.left → each.answer k ≡ as_one (single c (window_on s k))
  pub accepted_where_all_are : (of_singles (map (single c) (windows_of s)) ≡ accepted) ↔ ((k : ℕ) → k < length s.left → single c (window_on s k) ≡ accepted)
  pub leaves_in_turn : of_singles (map (single c) (windows_of s)) ≡ accepted
      → left ≡ tile (join_to (length s.left) (λ k. (each.left k).grid)) (join_to (length s.left) (λ k. (each.left k).support))
  pub or_writes_nothing : (number place : ℕ) → of_singles (map (single c) (windows_of s)) ≡ refused number place → left ≡ found
