-- `scan_buddies::Around::with_cell` meets its contract. The loop's invariant: the chain is walked down to t. Assumes nothing.
use Rattle.std.proofs.Common.{arith, ◌≡◌}
use Rattle.scan_buddies.specs.Walks.{walking_start, turn, next_less, walking_next, walking_end}
use Rattle.scan_buddies.specs.Asked.{heard_of}
use Rattle.scan_buddies.proofs.Around.with_cell.Goals as goal

pub loop-t-init : goal.loop-t-init
loop-t-init c st survivors =
    let a = c.args.self.now in
    walking_start a.radius a.stations.now a.d.now a.heads.now a.next.now st survivors c.args.k c.args.cell (heard_of c.args.before) (omega (arith, c.requires.1))

pub with_voice-s-requires : goal.with_voice-s-requires
with_voice-s-requires c =
    let a = c.args.self.now in
    let w = c.requires.2.chains in
    let here =
    turn a.radius a.stations.now a.d.now a.heads.now a.next.now w.st w.survivors c.args.k c.args.cell (heard_of c.args.before) c.requires.1
    c.loop-t.t (heard_of c.loop-t.s) c.loop-t-test.true (c.loop-t.invariant w.st w.survivors) c.requires.0 in
    (here.few, here.inside, here.standing, c.requires.2)

pub loop-t-smaller : goal.loop-t-smaller
loop-t-smaller c =
    let a = c.args.self.now in
    let w = c.requires.2.chains in
    next_less a.radius a.stations.now a.d.now a.heads.now a.next.now w.st w.survivors c.args.k c.args.cell (heard_of c.args.before) c.requires.1
    c.loop-t.t (heard_of c.loop-t.s) c.loop-t-test.true (c.loop-t.invariant w.st w.survivors)

pub loop-t-preserved : goal.loop-t-preserved
loop-t-preserved c st survivors =
    let a = c.args.self.now in
    rw c.with_voice-s.ensures
    (walking_next a.radius a.stations.now a.d.now a.heads.now a.next.now st survivors c.args.k c.args.cell (heard_of c.args.before) c.requires.1
    c.loop-t.t (heard_of c.loop-t.s) c.loop-t-test.true (c.loop-t.invariant st survivors))

pub returns : goal.returns
returns c st survivors =
    let a = c.args.self.now in
    let e : c.loop-t.t ≡ 0 = (let h = c.loop-t-test.false in omega arith) in
    walking_end a.radius a.stations.now a.d.now a.heads.now a.next.now st survivors c.args.k c.args.cell (heard_of c.args.before) c.loop-t.t (heard_of c.loop-t.s) e
    (c.loop-t.invariant st survivors)
