-- `scan_point::near_row` meets its contract. The loop's invariant: the stations gathered give what the rows passed give. Assumes nothing.
use Prim.Native.Nat.{ℕ, ◌≤◌, ◌<◌}
use native.Mathlib.Omega.{arith}
use mir.Syntax.{w64}
use Rattle.integers.specs.Words.{bits_back}
use mathlib.Core.Path.{◌≡◌, refl, sym, ◌∙◌}
use borrow.Author.Tests.{ne_eqb}
use Rattle.std.proofs.Common.{length-set, ltb, ltb-true, ltb-false, le-ltb, add-zero}
use Rattle.lists.specs.Tests.{or_false}
use Rattle.scheme.specs.Units.{round_mode}
use Rattle.scan_lone.specs.Inside.{counted}
use Rattle.scan_point.specs.Near.{Stations, stations_with, x_at, y_at, wind_at, verdict_at, d_at, row_gap, Inside, near_none, near_is_accepted, far_passed}
use Rattle.scan_point.specs.Entries.{next_gathered}
use Rattle.scan_point.proofs.near_row.Goals as goal
use Rattle.scan_point.proofs.near_row.Goals.{In-loop-k, Start, then-near, else-near}

-- a turn, at row k
module _ (g : _) (c : In-loop-k g) where
  abbrev start : Start g
  start = c.before.before.before.before

  abbrev all : Stations
  all = stations_with g.row.MODE start.args.stations.now start.args.verdict.now start.args.d.now

  abbrev k : ℕ
  k = c.before.loop-k.k

  abbrev gap : ℕ
  gap = row_gap (verdict_at all k) (y_at all k) start.args.j start.args.r2

  -- a station that is near is accepted
  inside : gap < start.args.r2 → Inside (x_at all k) (y_at all k) (d_at all k) (wind_at all k)
  inside close = start.requires.3.inside k c.loop-k-test.true (near_is_accepted (verdict_at all k) (y_at all k) start.args.j start.args.r2 close).0

pub loop-k-init : goal.loop-k-init
loop-k-init g c =
    let a = (goal.at.loop-k-init g c).Start.args in
    near_none _ _ (stations_with g.row.MODE a.stations.now a.verdict.now a.d.now) a.r2 a.j

pub gathered-requires : goal.gathered-requires
gathered-requires g c =
    let t = (goal.at.gathered-requires g c).In-loop-k in (
      (start g t).requires.2,
      λ along.
          let near = rw (ne_eqb g.row.MODE round_mode (λ (e : g.row.MODE ≡ round_mode). omega (arith, along))) at c.if-near.true in
          let i = inside g t (omega (arith, ltb-true _ _ near, c.row_gap-gap.ensures)) in
          (i.y_small, i.wind_fair),
    )

pub loop-k-preserved : goal.loop-k-preserved
loop-k-preserved g c =
    let t = (goal.at.loop-k-preserved g c).In-loop-k in
    let a = (start g t).args in
    let p = (start g t).requires in
    let l = t.before.loop-k in
    let is = c.row_gap-gap.ensures in
    elim c.if-near.branch [
      | then-near w ↦
          let long = sym (length-set l.room l.n _) ∙ rw w.room-is at c.if-near.array_long in
          let entry = λ (close : gap g t < a.r2). rw (is, bits_back w64 (d_at (all g t) (k g t)) (omega (arith, (inside g t close).d_small))) at w.gathered.ensures in
          rw (w.room-is, is, counted (ltb (gap g t) a.r2) _ refl)
          (next_gathered (all g t) a.r2 a.j (k g t) p.1 p.3 p.0 t.loop-k-test.true l.room long l.n l.invariant.no_more w.gathered.result entry l.invariant)
      | else-near w ↦
          let far : a.r2 ≤ gap g t = omega (arith, ltb-false c.row_gap-gap.result a.r2 (or_false _ _ w.if-near.false).1, is) in
          rw (w.room-is, is, le-ltb (gap g t) a.r2 far, add-zero l.n) (far_passed l.invariant (λ i t h. refl) (λ t h s. s) far)
    ]
