-- `text_print::Writer::put_lines` meets its contract: a line for each row that the iterator gives. Assumes nothing.
use Rattle.std.proofs.Common.{◌<◌, ◌∙◌, length}
use Rattle.std.specs.Slice.Iter.{chunks_exact_rest}
use Rattle.text_print.specs.Puts.{none_left, room_next, put_next}
use Rattle.text_print.specs.Rows.{rows_next, rows_done}
use Rattle.text_print.proofs.Writer.put_lines.Goals as goal

pub put_line-requires : goal.put_line-requires
put_line-requires g c =
    room_next c.loop-row.invariant.1 _ _ (rows_next g.N.Number.text c.args.key.now c.args.nx c.requires.width _ _ _ c.in-Some.ensures.steps.1.0 (c.in-Some.ensures.steps.1.1 ∙ c.loop-row.invariant.0)) c.requires.room

pub loop-row-preserved : goal.loop-row-preserved
loop-row-preserved g c =
    let s = c.in-Some.ensures.steps in (
      s.0 ∙ c.loop-row.invariant.0,
      put_next c.loop-row.invariant.1 _ _ (rows_next g.N.Number.text c.args.key.now c.args.nx c.requires.width _ _ _ s.1.0 (s.1.1 ∙ c.loop-row.invariant.0)) c.put_line.ensures,
    )

pub returns : goal.returns
returns g c =
    let short : length (chunks_exact_rest c.loop-row.row-iterator) < c.args.nx = rw c.loop-row.invariant.0 at c.in-None.ensures.steps.1.0 in
    none_left c.loop-row.invariant.1 (rows_done g.N.Number.text c.args.key.now c.args.nx c.requires.width _ short)
