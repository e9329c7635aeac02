-- Smoothing and the cut: one step of agreement is used up, and the cut's border does not show.
use Rattle.std.specs.Prelude.{ℕ, ◌+◌, ◌-◌, ◌≤◌, ◌<◌, ◌≡◌, refl, ◌⊎◌, Bool, true, cond, ◌&&◌, ltb}
use Rattle.std.proofs.Common.{arith, inl, inr}
use Rattle.std.proofs.Math.Bool.{false}
use Rattle.lists.specs.Tests.{true_or_false, and_true, ltb_same}
use Rattle.scheme.specs.Units.{Field}
use Rattle.scheme.specs.Smoothing.{inner}
use Rattle.scheme.specs.Reach.{widened}
use Rattle.scheme.proofs.Stored.{inner_in}
use Rattle.scheme.specs.Axes.{off, len}
use Rattle.scheme.specs.Laws.{Scheme}
use Rattle.scheme.proofs.Laws.{smoothed_if, Laws}
use Rattle.scheme.specs.Near.{Side}
use Rattle.scheme.proofs.Near.{cut_along, Point, Agree, agree_less}

-- a point fewer than `wider` steps off is on the cut's border only where it is on the grid's
inner_same : (w : Side) (ρ i : ℕ) → ρ < w.wider → Point w ρ i → inner w.n (i + off (cut_along w)) ≡ inner (len (cut_along w)) i
unfolding inner widened
inner_same w ρ i h p =
    let first : ltb 0 (i + off (cut_along w)) ≡ ltb 0 i =
    ltb_same 0 (i + off (cut_along w)) 0 i (λ q. omega (arith, p.low)) (λ q. omega arith) in
    let last : ltb (i + off (cut_along w) + 1) w.n ≡ ltb (i + 1) (len (cut_along w)) =
    ltb_same (i + off (cut_along w) + 1) w.n (i + 1) (len (cut_along w))
    (λ q. omega (arith, p.high, p.inside, w.ordered, w.inside)) (λ q. omega (arith, w.inside)) in
    cc (first, last)

-- the points around an inner one are at most one step farther off
around_point : (w : Side) (ρ i a : ℕ) → Point w ρ i → (0 < i) × (i + 1 < len (cut_along w)) → a < 3 → Point w (1 + ρ) (i + a - 1)
around_point w ρ i a p q h =
    record {
      inside = inside (len (cut_along w)) q.0 q.1;
      low = low (off (cut_along w)) q.0 p.low;
      high = high (off (cut_along w)) p.high;
    }
  where
    inside : (l : ℕ) → 0 < i → i + 1 < l → i + a - 1 < l
    inside l s t = omega arith

    low : (o : ℕ) → 0 < i → w.window.first ≤ i + o + ρ → w.window.first ≤ i + a - 1 + o + (1 + ρ)
    low o s t = omega arith

    high : (o : ℕ) → i + o ≤ w.window.last + ρ → i + a - 1 + o ≤ w.window.last + (1 + ρ)
    high o t = omega arith

module _ (S : Scheme) (law : Laws S) (across down : Side) (ρ : ℕ) (z z' : Field S.Value) where
  smoothed_agree : ρ < across.wider → ρ < down.wider → Agree across down (1 + ρ) z z'
      → Agree across down ρ (λ i j. cond (inner across.n i && inner down.n j) (S.around z i j) (z i j))
      (λ i j. cond (inner (len (cut_along across)) i && inner (len (cut_along down)) j) (S.around z' i j) (z' i j))
  unfolding Agree
  smoothed_agree hx hy ag i j p r =
      rw (inner_same across ρ i hx p, inner_same down ρ j hy r) (go (true_or_false (inner (len (cut_along across)) i && inner (len (cut_along down)) j)))
    where
      around : (0 < i) × (i + 1 < len (cut_along across)) → (0 < j) × (j + 1 < len (cut_along down))
          → S.around z (i + off (cut_along across)) (j + off (cut_along down)) ≡ S.around z' i j
      around s t =
          law.around_local z z' i j (off (cut_along across)) (off (cut_along down)) s.0 t.0
          (λ a b ha hb. ag (i + a - 1) (j + b - 1) (around_point across ρ i a p s ha) (around_point down ρ j b r t hb))

      go : (inner (len (cut_along across)) i && inner (len (cut_along down)) j ≡ true) ⊎ (inner (len (cut_along across)) i && inner (len (cut_along down)) j ≡ false)
          → cond (inner (len (cut_along across)) i && inner (len (cut_along down)) j) (S.around z (i + off (cut_along across)) (j + off (cut_along down))) (z (i + off (cut_along across)) (j + off (cut_along down)))
          ≡ cond (inner (len (cut_along across)) i && inner (len (cut_along down)) j) (S.around z' i j) (z' i j)
      go (inl e) =
          let (s, t) = and_true _ _ e in
          rw e (around (inner_in _ i s) (inner_in _ j t))
      go (inr e) = rw e (agree_less across down ρ (1 + ρ) z z' (omega arith) (unfold Agree in ag) i j p r)

  -- with smoothing or without
  pub smoothing_agrees : cond S.smooth 1 0 + ρ ≤ across.wider → cond S.smooth 1 0 + ρ ≤ down.wider
      → Agree across down (cond S.smooth 1 0 + ρ) z z'
      → Agree across down ρ (smoothed_if S across.n down.n z) (smoothed_if S (len (cut_along across)) (len (cut_along down)) z')
  smoothing_agrees hx hy ag = go S.smooth refl hx hy ag
    where
      go : (b : Bool) → S.smooth ≡ b → cond b 1 0 + ρ ≤ across.wider → cond b 1 0 + ρ ≤ down.wider → Agree across down (cond b 1 0 + ρ) z z'
          → Agree across down ρ (smoothed_if S across.n down.n z) (smoothed_if S (len (cut_along across)) (len (cut_along down)) z')
      go true e hx hy ag = unfold smoothed_if Agree in rw e (smoothed_agree (omega arith) (omega arith) ag)
      go false e hx hy ag = unfold smoothed_if Agree in rw e (agree_less across down ρ (0 + ρ) z z' (omega arith) ag)
