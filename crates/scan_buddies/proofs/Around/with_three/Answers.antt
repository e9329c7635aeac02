-- `scan_buddies::Around::with_three` meets its contract. The loop's invariant: those in the cells passed are heard. Assumes nothing.
use Rattle.std.proofs.Common.{arith, ◌+◌, ◌≡◌, sym, ap, ◌∙◌, length}
use Rattle.scheme.specs.Buddies.{both}
use Rattle.scheme.proofs.Adding.{both_silence}
use Rattle.scan_buddies.specs.Voices.{from_none, from_more}
use Rattle.scan_buddies.specs.Walks.{with_cells}
use Rattle.scan_buddies.specs.Asked.{heard_of, cell_in, voice_in}
use Rattle.scan_buddies.proofs.Around.with_three.Goals as goal

pub loop-i-init : goal.loop-i-init
loop-i-init c st survivors =
    let a = c.args.self.now in
    let before = heard_of c.args.before in
    let none : c.args.first + 0 ≡ c.args.first = omega arith in
    sym (ap (both before) (from_none (cell_in a st) (length a.stations.now) c.args.first (c.args.first + 0) (voice_in a c.args.k) none) ∙ both_silence before)

pub with_cell-s-requires : goal.with_cell-s-requires
with_cell-s-requires c =
    let a = c.args.self.now in
    let w = c.requires.2.chains in
    let l = c.loop-i in (
      with_cells a.radius a.stations.now a.d.now a.heads.now a.next.now w.st w.survivors c.args.k 2 c.args.first (c.args.first + l.i) (heard_of c.args.before) (heard_of l.s)
          (omega arith) c.requires.0 (l.invariant w.st w.survivors),
      omega arith,
      c.requires.2,
    )

pub loop-i-preserved : goal.loop-i-preserved
loop-i-preserved c st survivors =
    let a = c.args.self.now in
    let l = c.loop-i in
    from_more (cell_in a st) (length a.stations.now) c.args.first l.i (voice_in a c.args.k) (heard_of c.args.before) (heard_of l.s) _ (l.invariant st survivors)
    (c.with_cell-s.ensures st survivors)
