-- The stations of the cut, as a loop keeps them: each that is on the cut is put after those kept.
use Rattle.std.specs.Prelude.{ℕ, ◌+◌, ◌*◌, ◌≤◌, ◌<◌, ◌≡◌, refl, Bool, true, false, cond, List, [], ◌∷◌, ◌++◌, length, map, take, set}
use Rattle.std.proofs.Common.{arith, sym, ap, ◌∙◌, get_or-set_same, get_or-set_other}
use Rattle.std.proofs.lemmas.List.{length-take-le, get_or-take}
use Rattle.lists.specs.Tab.{tab, tab_same, tab_more}
use Rattle.lists.specs.Keep.{keep}
use Rattle.scheme.specs.Units.{most_side}
use Rattle.scheme.specs.Refusals.{Window}
use Rattle.scheme.specs.Reach.{on_window, counted}
use Rattle.scheme.specs.Accepted.{Shaped, OnGrid}
use Rattle.request.specs.declared.Station.{Station as Row}
use Rattle.request.specs.Tables.{no_row, station_of, station_in, stations_in}
use Rattle.window_spans.specs.Spans.{Placed}

-- ---- one element more at the end of a list that is kept

module _ {A B : Type 0} (p : A → Bool) (f : A → B) (a : A) where
  kept_more : (l : List A) → p a ≡ true → map f (keep p (l ++ (a ∷ []))) ≡ map f (keep p l) ++ (f a ∷ [])
  unfolding keep
  kept_more [] e = rw e
  kept_more (b ∷ l) e = go (p b) (kept_more l e)
    where
      go : (t : Bool) → map f (keep p (l ++ (a ∷ []))) ≡ map f (keep p l) ++ (f a ∷ [])
          → map f (cond t (b ∷ keep p (l ++ (a ∷ []))) (keep p (l ++ (a ∷ [])))) ≡ map f (cond t (b ∷ keep p l) (keep p l)) ++ (f a ∷ [])
      go true h = ap (λ (r : List B). f b ∷ r) h
      go false h = h

kept_same : {A : Type 0} (p : A → Bool) (a : A) (l : List A) → p a ≡ false → keep p (l ++ (a ∷ [])) ≡ keep p l
unfolding keep
kept_same p a [] e = rw e
kept_same {A = A} p a (b ∷ l) e = ap (λ (r : List A). cond (p b) (b ∷ r) r) (kept_same p a l e)

-- ---- the loop

-- what it needs
pub record KeepReady (nx ny : ℕ) (w : Window) (stations : List Row) : Type 0 where
  pub shape : Shaped nx ny (nx * ny)
  pub on : OnGrid most_side most_side w
  pub placed : (k : ℕ) → k < length stations → Placed (station_in stations k)

module _ (nx ny : ℕ) (w : Window) (stations : List Row) where
  -- the first m rows of those that it fills are the cut of the first k stations
  pub record Kept (kept : List Row) (k m : ℕ) : Type 0 where
    pub no_more : m ≤ k
    pub so : tab m (station_in kept) ≡ map (counted w) (keep (on_window nx ny w) (tab k (station_in stations)))

  pub kept_none : (kept : List Row) → Kept kept 0 0
  unfolding tab keep
  kept_none kept = record { no_more = omega arith; so = refl }

  -- a turn: station k is put after those kept, if it is on the cut
  module _ {kept : List Row} {k m : ℕ} (p : Kept kept k m) where
    pub kept_put : (row : Row) → m < length kept → on_window nx ny w (station_in stations k) ≡ true → station_of row ≡ counted w (station_in stations k)
        → Kept (set kept m row) (k + 1) (m + 1)
    kept_put row room on e =
        record {
          no_more = omega (arith, p.no_more);
          so =
              tab_more m (station_in (set kept m row))
              ∙ rw (before, put, tab_more k (station_in stations)) (sym (kept_more (on_window nx ny w) (counted w) (station_in stations k) (tab k (station_in stations)) on));
        }
      where
        put : station_in (set kept m row) m ≡ counted w (station_in stations k)
        put = ap station_of (get_or-set_same kept m row no_row room) ∙ e

        before : tab m (station_in (set kept m row)) ≡ map (counted w) (keep (on_window nx ny w) (tab k (station_in stations)))
        before =
            tab_same m (station_in (set kept m row)) (station_in kept) (λ i l. ap station_of (get_or-set_other kept m i row no_row (λ (q : i ≡ m). omega arith)))
            ∙ p.so

    pub kept_passed : on_window nx ny w (station_in stations k) ≡ false → Kept kept (k + 1) m
    kept_passed off =
        record {
          no_more = omega (arith, p.no_more);
          so = rw (tab_more k (station_in stations), kept_same (on_window nx ny w) (station_in stations k) (tab k (station_in stations)) off) p.so;
        }

  -- all stations
  pub kept_all : {kept : List Row} {k m : ℕ} → Kept kept k m → k ≡ length stations → m ≤ length kept
      → stations_in (take m kept) ≡ map (counted w) (keep (on_window nx ny w) (stations_in stations))
  kept_all {kept = kept} {m = m} p e room =
      ap (λ (n : ℕ). tab n (station_in (take m kept))) (length-take-le m kept room)
      ∙ tab_same m (station_in (take m kept)) (station_in kept) (λ i l. ap station_of (get_or-take m kept i no_row l))
      ∙ p.so
      ∙ ap (λ (n : ℕ). map (counted w) (keep (on_window nx ny w) (tab n (station_in stations)))) e
