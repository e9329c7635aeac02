-- `clause::query_each_loaded` meets its contract: a refusal by the windows or lengths, or the call that passed. Assumes nothing.
use Rattle.std.proofs.Common.{◌≡◌, length, sym}
use Rattle.std.proofs.lemmas.Result.{err_from_is_err_and}
use Rattle.scheme.specs.Units.{asked}
use Rattle.scheme.specs.Refusals.{windows_of}
use Rattle.scheme.specs.Reach.{whole_at_each}
use Rattle.scheme.specs.Promises.{tile}
use Rattle.request.specs.Tables.{windows_in}
use Rattle.request.specs.Lent.{call_of, screen_of}
use Rattle.refusal.specs.Row.{refuses}
use Rattle.refusal.specs.Lengths.{screen_passed, screen_refused}
use Rattle.clause.proofs.query_each_loaded.Goals as goal

pub returns-in_err-of_screen_lengths : goal.returns-in_err-of_screen_lengths
returns-in_err-of_screen_lengths c =
    let call = call_of c.args.call.now in
    let s = screen_of c.args.screen.now in
    let loaded : windows_in c.load_windows.new.windows ≡ windows_of s = c.load_windows.ensures in
    let tested = rw (c.lengths_of-lengths.ensures, loaded) at c.in_err-of_screen_lengths.ensures in
    let refused = screen_refused call s (length c.args.grid.now) (length c.args.support.now) (sym c.requires.columns) _ tested in
    let p = err_from_is_err_and c.from_residual.result c.from_residual.ensures.1 in
    rw (p.1, p.2) (refuses (whole_at_each (asked call) (windows_of s)) (tile c.args.grid.now c.args.support.now) _ refused)

pub query_each_passed-requires-clause-passed : goal.query_each_passed-requires-clause-passed
query_each_passed-requires-clause-passed c =
    let s = screen_of c.args.screen.now in
    let loaded : windows_in c.load_windows.new.windows ≡ windows_of s = c.load_windows.ensures in
    let tested = rw (c.lengths_of-lengths.ensures, loaded) at c.in_ok-of_screen_lengths.ensures in
    screen_passed (call_of c.args.call.now) s (length c.args.grid.now) (length c.args.support.now) (sym c.requires.columns) (sym tested)
