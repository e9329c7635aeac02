-- `scan_point::point_sums` meets its contract. The loops' invariant: the sums are those of the stations passed. Assumes nothing.
use Prim.Native.Nat.{ℕ, ◌+◌, ◌-◌, ◌≤◌, ◌<◌}
use native.Mathlib.Omega.{arith}
use mathlib.Core.Path.{◌≡◌, subst}
use mathlib.Core.List.{List}
use lib.IntN.{pos, nat_abs, ◌+ℤ◌}
use Rattle.std.proofs.Common.{length, get_or, take, drop}
use Rattle.scheme.specs.Units.{most_side}
use Rattle.scheme.specs.Most.{most_square, most_weights, most_pulls}
use Rattle.scan_lone.specs.Inside.{nobody}
use Rattle.scan_lone.specs.declared.Near.{Near}
use Rattle.scan_point.specs.declared.Sums.{Sums}
use Rattle.scan_point.specs.Near.{Summed, summed_none}
use Rattle.scan_point.specs.Entries.{near_share, share_of, Sized, Behind, behind_all, behind_next, turn_sized, turn_small, turn_next}
use Rattle.scan_point.proofs.point_sums.Goals as goal
use Rattle.scan_point.proofs.point_sums.Goals.{then-this-eq-ROUND+in_default, else-this-eq-ROUND, In-len4-up, After-with_near-s, After-with_near-s-in-len4-up, After-with_near-s-in-len4-up-2, After-with_near-s-in-len4-up-3, Start}

-- a turn of four: the sums before each, and after the last
module _ (g : _) (c : In-len4-up g) where
  abbrev s : Start g
  s = c.before.before.before

  abbrev near : List Near
  near = s.args.near.now

  abbrev rest : List Near
  rest = c.before.loop-rest.rest.now

  abbrev At : ℕ → Sums → Type 0
  At k sums = Summed (near_share near s.args.r2 s.args.i) (length near - length rest + k) sums.w sums.wd

  inside : (k : ℕ) → k < 4 → k < length rest
  inside k h = omega (arith, h, c.in-len4-up.len_at_least)

  asked : (k : ℕ) → k < 4 → (sums : Sums) → At k sums
      → (sums.w ≤ most_weights) × (nat_abs sums.wd ≤ most_pulls) × (s.args.i < most_side) × (s.args.r2 ≤ most_square) × Sized g.row.MODE (get_or rest k nobody)
  asked k h sums a =
      let p = s.requires in
      let b = c.before.loop-rest.invariant.0 in
      let few = turn_small s.args.r2 s.args.i p.0 p.3 b k (inside k h) a in
      (few.0, few.1, p.1, p.2, turn_sized s.args.r2 s.args.i p.0 p.3 b k (inside k h) a)

  next : (k : ℕ) → k < 4 → (sums sums' : Sums) → At k sums
      → (sums'.w ≡ sums.w + (share_of (get_or rest k nobody) s.args.r2 s.args.i).weights) × (sums'.wd ≡ sums.wd +ℤ (share_of (get_or rest k nobody) s.args.r2 s.args.i).pulls)
      → At (k + 1) sums'
  next k h sums sums' a e =
      let p = s.requires in
      turn_next s.args.r2 s.args.i p.0 p.3 c.before.loop-rest.invariant.0 k (inside k h) a e

  none : At 0 c.before.loop-rest.s
  none = c.before.loop-rest.invariant.1

one : (g : _) (o : After-with_near-s g) → At g o.before 1 o.with_near-s.result
one g o = next g o.before 0 (omega arith) _ _ (none g o.before) o.with_near-s.ensures

two : (g : _) (o : After-with_near-s-in-len4-up g) → At g o.before.before 2 o.with_near-s-in-len4-up.result
two g o = next g o.before.before 1 (omega arith) _ _ (one g o.before) o.with_near-s-in-len4-up.ensures

three : (g : _) (o : After-with_near-s-in-len4-up-2 g) → At g o.before.before.before 3 o.with_near-s-in-len4-up-2.result
three g o = next g o.before.before.before 2 (omega arith) _ _ (two g o.before) o.with_near-s-in-len4-up-2.ensures

four : (g : _) (o : After-with_near-s-in-len4-up-3 g) → At g o.before.before.before.before 4 o.with_near-s-in-len4-up-3.result
four g o = next g o.before.before.before.before 3 (omega arith) _ _ (three g o.before) o.with_near-s-in-len4-up-3.ensures

-- before the first station
module _ (g : _) (c : Start g) where
  abbrev all : List Near
  all = c.args.near.now

  begun : Behind all all × Summed (near_share all c.args.r2 c.args.i) (length all - length all + 0) 0 (pos 0)
  begun =
      let e : 0 ≡ length all - length all + 0 = omega arith in
      (behind_all all, subst (λ (t : ℕ). Summed (near_share all c.args.r2 c.args.i) t 0 (pos 0)) e (summed_none _))

pub loop-rest-init : goal.loop-rest-init
loop-rest-init g c = begun g (goal.at.loop-rest-init g c).Start

pub loop-station-init : goal.loop-station-init
loop-station-init g c =
    elim c.if-this-eq-ROUND.branch [
      | then-this-eq-ROUND+in_default w ↦ rw (w.rest-is, w.s-is) w.loop-rest.invariant
      | else-this-eq-ROUND w ↦ rw (w.rest-is, w.s-is) (begun g (goal.at.loop-station-init g c).Start)
    ]

pub with_near-s-requires : goal.with_near-s-requires
with_near-s-requires g c = asked g c 0 (omega arith) _ (none g c)

pub with_near-s-requires-in-len4-up : goal.with_near-s-requires-in-len4-up
with_near-s-requires-in-len4-up g c = asked g c.before 1 (omega arith) _ (one g c)

pub with_near-s-requires-in-len4-up-2 : goal.with_near-s-requires-in-len4-up-2
with_near-s-requires-in-len4-up-2 g c = asked g c.before.before 2 (omega arith) _ (two g c)

pub with_near-s-requires-in-len4-up-3 : goal.with_near-s-requires-in-len4-up-3
with_near-s-requires-in-len4-up-3 g c = asked g c.before.before.before 3 (omega arith) _ (three g c)

pub loop-rest-preserved : goal.loop-rest-preserved
loop-rest-preserved g c =
    let t = c.before.before.before.before in
    let b = t.before.loop-rest.invariant.0 in
    let more = behind_next 4 t.in-len4-up.len_at_least b in
    let sums = c.with_near-s-in-len4-up-3.result in
    let e : length (near g t) - length (rest g t) + 4 ≡ length (near g t) - length (take (length (rest g t) - 4) (drop 4 (rest g t))) + 0 = omega (arith, more.0, b.no_more, t.in-len4-up.len_at_least) in
    (more.1, subst (λ (m : ℕ). Summed (near_share (near g t) (s g t).args.r2 (s g t).args.i) m sums.w sums.wd) e (four g c))

pub with_near-s-requires-in-loop-station : goal.with_near-s-requires-in-loop-station
with_near-s-requires-in-loop-station g c =
    let s = (goal.at.with_near-s-requires-in-loop-station g c).Start in
    let p = s.requires in
    let l = c.before.loop-station in
    let few = turn_small s.args.r2 s.args.i p.0 p.3 l.invariant.0 l.station-index c.loop-station-test.true l.invariant.1 in
    (few.0, few.1, p.1, p.2, turn_sized s.args.r2 s.args.i p.0 p.3 l.invariant.0 l.station-index c.loop-station-test.true l.invariant.1)

pub loop-station-preserved : goal.loop-station-preserved
loop-station-preserved g c =
    let s = (goal.at.loop-station-preserved g c).Start in
    let p = s.requires in
    let l = c.before.before.loop-station in
    (l.invariant.0, turn_next s.args.r2 s.args.i p.0 p.3 l.invariant.0 l.station-index c.before.loop-station-test.true l.invariant.1 c.with_near-s-in-loop-station.ensures)
