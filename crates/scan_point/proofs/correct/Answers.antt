-- `scan_point::correct` meets its contract. The loop's invariant: the rows passed are corrected. Assumes nothing.
use Prim.Native.Nat.{◌*◌}
use native.Mathlib.Omega.{arith}
use mathlib.Core.Path.{◌≡◌}
use Rattle.std.proofs.Common.{take}
use Rattle.scan_point.specs.Near.{stations_with}
use Rattle.scan_point.specs.Entries.{slight_share, gathered, gathered_length}
use Rattle.scan_point.specs.Pass.{RowPass, row_pass, row_ready, row_values, row_supports, next_z, next_s, all_z, all_s}
use Rattle.scan_point.proofs.correct.Goals as goal
use Rattle.scan_point.proofs.correct.Goals.{After-correct_row_by, After-near_row-n, In-loop-j, Start}

-- a turn, at row j
module _ (g : _) (c : In-loop-j g) where
  abbrev start : Start g
  start = c.before.before.before.before.before

  ready : RowPass c.before.loop-j.z c.before.loop-j.support start.args.t.nx start.args.t.ny (stations_with g.row.MODE start.args.stations.now start.args.verdict.now start.args.d.now) (start.args.radius * start.args.radius) start.args.bit c.before.loop-j.j
  ready = row_pass start.requires start.args.t.rule c.loop-j-test.true c.before.loop-j.invariant.0 c.before.loop-j.invariant.1

pub correct_row_by-requires : goal.correct_row_by-requires
correct_row_by-requires g c =
    let t = (goal.at.correct_row_by-requires g c).In-loop-j in
    let o = (goal.at.correct_row_by-requires g c).After-near_row-n.near_row-n in
    let a = (start g t).args in
    let r2 = a.radius * a.radius in
    let p = ready g t in
    let near = gathered o.new.room o.ensures in
    rw (gathered_length o.new.room o.result o.array_long (omega (arith, near.no_more, p.stations.few)))
    (row_ready p (λ i t. slight_share (take o.result o.new.room) r2 i t) near, p.close, near.sized)

pub loop-j-preserved : goal.loop-j-preserved
loop-j-preserved g c =
    let t = (goal.at.loop-j-preserved g c).In-loop-j in
    let o = (goal.at.loop-j-preserved g c).After-near_row-n.near_row-n in
    let r = (goal.at.loop-j-preserved g c).After-correct_row_by.correct_row_by.ensures in
    let a = (start g t).args in
    let r2 = a.radius * a.radius in
    let s = (start g t).requires in
    let i = t.before.loop-j.invariant in
    let p = ready g t in
    let h = t.loop-j-test.true in
    let near = gathered o.new.room o.ensures in
    let many = gathered_length o.new.room o.result o.array_long (omega (arith, near.no_more, p.stations.few)) in (
      next_z s a.t.rule h i.0 i.1 _ (row_values p (λ i t. slight_share (take o.result o.new.room) r2 i t) near a.t.rule (rw many at r.0)),
      next_s s a.t.rule h i.0 i.1 _ (row_supports p (λ i t. slight_share (take o.result o.new.room) r2 i t) near (rw many at r.1)),
    )

pub returns : goal.returns
returns g c =
    let o = (goal.at.returns g c).Start in
    let a = o.args in
    let l = c.before.loop-j in
    let e : l.j ≡ a.t.ny = (let h = c.loop-j-test.false in omega (arith, l.auto.j-end)) in
    (all_z o.requires a.t.rule l.z (rw e at l.invariant.0), all_s o.requires l.support (rw e at l.invariant.1))
