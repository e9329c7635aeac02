-- `clause::query_each` meets its contract: a refusal by the columns, or the screen whose columns are equal. Assumes nothing.
use Rattle.std.proofs.Common.{length, sym}
use Rattle.std.proofs.lemmas.Result.{err_from_is_err_and}
use Rattle.scheme.specs.Units.{asked}
use Rattle.scheme.specs.Refusals.{windows_of}
use Rattle.scheme.specs.Reach.{whole_at_each}
use Rattle.scheme.specs.Promises.{tile}
use Rattle.request.specs.Lent.{call_of, screen_of}
use Rattle.refusal.specs.Row.{refuses}
use Rattle.refusal.specs.Lengths.{columns_passed, columns_refused}
use Rattle.clause.proofs.query_each.Goals as goal

pub returns-in_err-of_screen_columns : goal.returns-in_err-of_screen_columns
returns-in_err-of_screen_columns c =
    let call = call_of c.args.call.now in
    let s = screen_of c.args.screen.now in
    let tested = rw c.lengths_of-lengths.ensures at c.in_err-of_screen_columns.ensures in
    let refused = columns_refused call s (length c.args.grid.now) (length c.args.support.now) _ tested in
    let p = err_from_is_err_and c.from_residual.result c.from_residual.ensures.1 in
    rw (p.1, p.2) (refuses (whole_at_each (asked call) (windows_of s)) (tile c.args.grid.now c.args.support.now) _ refused)

pub query_each_loaded-requires : goal.query_each_loaded-requires
query_each_loaded-requires c =
    let tested = rw c.lengths_of-lengths.ensures at c.in_ok-of_screen_columns.ensures in
    let equal = columns_passed (call_of c.args.call.now) (screen_of c.args.screen.now) (length c.args.grid.now) (length c.args.support.now) (sym tested) in
    record { columns = tested; shape = equal.0; equal = equal.1 }
