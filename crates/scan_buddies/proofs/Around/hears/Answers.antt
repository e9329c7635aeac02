-- `scan_buddies::Around::hears` meets its contract. The loop's invariant: those in the rows of cells passed are heard; the three rows hold all that the
-- station hears. Assumes nothing.
use Rattle.std.proofs.Common.{arith, ℕ, ◌+◌, ◌-◌, ◌*◌, ◌≡◌, sym, ap, ◌∙◌, length}
use Rattle.scheme.specs.Units.{most_stations}
use Rattle.scheme.specs.Buddies.{Heard, both}
use Rattle.request.specs.Tables.{station_in}
use Rattle.scan_buddies.specs.Voices.{of_none, of_more}
use Rattle.scan_buddies.specs.Cells.{across, cell_of}
use Rattle.scan_buddies.specs.Nine.{three, rows_of, rows_none, rows_next, nine_are_all}
use Rattle.scan_buddies.specs.Walks.{with_cells}
use Rattle.scan_buddies.specs.Asked.{heard_of, cell_in, voice_in}
use Rattle.scan_buddies.proofs.Around.hears.Goals as goal

pub loop-i-init : goal.loop-i-init
loop-i-init c = let a = c.args.self.now in (of_none 0, λ st survivors. sym (rows_none (cell_in a st) (length a.stations.now) (c.cell_of.result - across - 1) (voice_in a c.args.k)))

pub overflow_add-first : goal.overflow_add-first
overflow_add-first c = record { fits = omega (arith, c.cell_of.ensures.framed.most) }

pub with_three-s-requires : goal.with_three-s-requires
with_three-s-requires c =
    let l = c.loop-i in
    let framed = c.cell_of.ensures.framed in
    (of_more (l.i * most_stations) (2 * most_stations) (heard_of l.s) (omega arith) l.invariant.0, omega (arith, framed.least, framed.most), c.requires)

pub loop-i-preserved : goal.loop-i-preserved
loop-i-preserved c =
    let a = c.args.self.now in
    let l = c.loop-i in
    let w = c.requires.chains in
    let framed = c.cell_of.ensures.framed in
    let first = c.cell_of.result - across - 1 in
    let low = first + l.i * across in (
      with_cells a.radius a.stations.now a.d.now a.heads.now a.next.now w.st w.survivors c.args.k l.i low (low + 3) (heard_of l.s) _
          (omega (arith, framed.least, framed.most)) l.invariant.0 (c.with_three-s.ensures w.st w.survivors),
      λ st survivors. c.with_three-s.ensures st survivors
          ∙ ap (λ (h : Heard). both h (three (cell_in a st) (length a.stations.now) low (voice_in a c.args.k))) (l.invariant.1 st survivors)
          ∙ sym (rows_next (cell_in a st) (length a.stations.now) first l.i (voice_in a c.args.k)),
    )

pub returns : goal.returns
returns c st survivors =
    let a = c.args.self.now in
    let l = c.loop-i in
    let first = c.cell_of.result - across - 1 in
    let first_is : first + across + 1 ≡ cell_of a.radius (station_in a.stations.now c.args.k) = omega (arith, c.cell_of.ensures.framed.least, c.cell_of.ensures.is) in
    let e : l.i ≡ 3 = omega arith in
    l.invariant.1 st survivors
    ∙ ap (λ (rows : ℕ). rows_of (cell_in a st) (length a.stations.now) first rows (voice_in a c.args.k)) e
    ∙ nine_are_all a.radius a.stations.now a.d.now a.heads.now a.next.now st survivors c.args.k c.requires.standing first first_is
