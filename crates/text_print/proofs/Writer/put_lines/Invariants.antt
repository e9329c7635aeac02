use Rattle.std.specs.Prelude.{◌≡◌}
use Rattle.std.specs.Slice.Iter.{chunks_exact_rest, chunks_exact_size}
use Rattle.text_print.specs.Puts.{Left}
use Rattle.text_print.specs.Rows.{rows}
use Rattle.text_print.proofs.Writer.put_lines.Given as goal

abbrev pub invariant-loop-row : goal.invariant-loop-row
invariant-loop-row g l =
    (chunks_exact_size l.row-iterator ≡ l.nx)
    × Left l.initial.self (rows g.N.Number.text l.key l.nx l.grid) l.self (rows g.N.Number.text l.key l.nx (chunks_exact_rest l.row-iterator))
