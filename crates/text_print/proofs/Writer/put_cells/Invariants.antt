use Rattle.std.proofs.Common.{drop}
use Rattle.scheme.specs.Text.Printed.{cells}
use Rattle.text_print.specs.Puts.{Left}
use Rattle.text_print.proofs.Writer.put_cells.Given as goal

abbrev pub invariant-loop-k : goal.invariant-loop-k
invariant-loop-k g l = Left l.initial.self (cells g.N.Number.text l.row) l.self (cells g.N.Number.text (drop l.k l.row))
