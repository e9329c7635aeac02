-- `text_print::Writer::put_cells` meets its contract: each value, and what follows it. Assumes nothing.
use Rattle.std.proofs.Common.{[], ◌∷◌, ◌-◌, ◌+◌, arith, refl, ap, sym, length, drop}
use Rattle.scheme.specs.Text.Pieces.{mark}
use Rattle.scheme.specs.Text.Printed.{cells}
use Rattle.text_print.specs.Puts.{Left, none_left, room_next, put_next, puts_as}
use Rattle.text_print.specs.Rows.{cells_next, cells_done}
use Rattle.text_print.proofs.Writer.put_cells.Given.{Over}
use Rattle.text_print.proofs.Writer.put_cells.Goals as goal
use Rattle.text_print.proofs.Writer.put_cells.Goals.{After-put}

-- after the value, what follows it and the rest are left
module _ (g : Over) (c : After-put g) where
  mark_left : Left c.args.self.now (cells g.N.Number.text c.args.row.now) c.put.new.writer (mark (length c.args.row.now - 1 - c.loop-k.k) ∷ cells g.N.Number.text (drop (c.loop-k.k + 1) c.args.row.now))
  mark_left = put_next c.loop-k.invariant _ _ (cells_next g.N.Number.text c.args.row.now c.loop-k.k _ c.loop-k-test.true c.index-row-k.is) c.put.ensures

pub put-requires : goal.put-requires
put-requires g c = room_next c.loop-k.invariant _ _ (cells_next g.N.Number.text c.args.row.now c.loop-k.k _ c.loop-k-test.true c.index-row-k.is) c.requires

pub put_byte-requires : goal.put_byte-requires
put_byte-requires g c = room_next (mark_left g (goal.at.put_byte-requires g c).After-put) (mark (length c.args.row.now - 1 - c.loop-k.k) ∷ []) _ refl c.requires

pub loop-k-preserved : goal.loop-k-preserved
loop-k-preserved g c =
    put_next (mark_left g (goal.at.loop-k-preserved g c).After-put) (mark (length c.args.row.now - 1 - c.loop-k.k) ∷ []) _ refl (puts_as (ap (λ b. b ∷ []) (sym c.mark_of.ensures)) c.put_byte.ensures)

pub returns : goal.returns
returns g c = none_left c.loop-k.invariant (cells_done g.N.Number.text c.args.row.now c.loop-k.k (omega arith))
