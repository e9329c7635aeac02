-- `clause::query` meets its contract: a refusal by lengths, or the call that passed. Assumes nothing.
use Rattle.std.proofs.Common.{length, sym}
use Rattle.std.proofs.lemmas.Result.{err_from_is_err_and}
use Rattle.scheme.specs.Units.{asked}
use Rattle.scheme.specs.Reach.{whole_at}
use Rattle.scheme.specs.Promises.{tile}
use Rattle.request.specs.Tables.{window_in}
use Rattle.request.specs.Lent.{call_of}
use Rattle.refusal.specs.Row.{refuses}
use Rattle.refusal.specs.Lengths.{window_passed, window_refused}
use Rattle.clause.proofs.query.Goals as goal

pub returns-in_err-of_window_lengths : goal.returns-in_err-of_window_lengths
returns-in_err-of_window_lengths c =
    let call = call_of c.args.call.now in
    let w = window_in c.args.w in
    let tested = rw c.lengths_of-lengths.ensures at c.in_err-of_window_lengths.ensures in
    let refused = window_refused call w (length c.args.grid.now) (length c.args.support.now) _ tested in
    let p = err_from_is_err_and c.from_residual.result c.from_residual.ensures.1 in
    rw (p.1, p.2) (refuses (whole_at (asked call) w) (tile c.args.grid.now c.args.support.now) _ refused)

pub query_passed-requires : goal.query_passed-requires
query_passed-requires c =
    let tested = rw c.lengths_of-lengths.ensures at c.in_ok-of_window_lengths.ensures in
    window_passed (call_of c.args.call.now) (window_in c.args.w) (length c.args.grid.now) (length c.args.support.now) (sym tested)
