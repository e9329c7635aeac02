-- `text_pieces::in_range` meets its contract: the tests are those of the range. Assumes nothing.
use Rattle.std.proofs.Common.{arith}
use Rattle.scheme.proofs.RoundTrip.{between_reads}
use Rattle.text_pieces.proofs.Ranges.{between_under, between_over}
use Rattle.text_pieces.proofs.in_range.Goals as goal
use Rattle.text_pieces.proofs.in_range.Goals.{then-value-from-via-then-value-from, then-value-from-via-else-value-from+then-value-from-2}

pub returns-then-value-from-clause-said : goal.returns-then-value-from-clause-said
returns-then-value-from-clause-said c =
    let v = c.in_ok-value in
    rw v.was
    (elim c.then-value-from.branch [
      | then-value-from-via-then-value-from w ↦ between_under c.args.low c.args.high v.value v.rest.now (omega arith)
      | then-value-from-via-else-value-from+then-value-from-2 w ↦ between_over c.args.low c.args.high v.value v.rest.now (omega arith)
    ])

pub returns-clause-said : goal.returns-clause-said
returns-clause-said c =
    let v = c.in_ok-value in
    rw v.was (between_reads c.args.low c.args.high v.value v.rest.now (omega arith) (omega arith))
