-- `clause::analyse` meets its contract: a refusal by lengths, or the call that passed. Assumes nothing.
use Rattle.std.proofs.Common.{length, sym}
use Rattle.std.proofs.lemmas.Result.{err_from_is_err_and}
use Rattle.scheme.specs.Units.{asked}
use Rattle.scheme.specs.Scan.{analysis}
use Rattle.scheme.specs.Promises.{slices}
use Rattle.request.specs.Lent.{call_of}
use Rattle.refusal.specs.Row.{refuses}
use Rattle.refusal.specs.Lengths.{analysis_passed, analysis_refused}
use Rattle.clause.proofs.analyse.Goals as goal

pub returns-in_err-of_lengths : goal.returns-in_err-of_lengths
returns-in_err-of_lengths c =
    let call = call_of c.args.call.now in
    let tested = rw c.lengths_of-lengths.ensures at c.in_err-of_lengths.ensures in
    let refused = analysis_refused call (length c.args.grid.now) (length c.args.support.now) (length c.args.verdict.now) _ tested in
    let p = err_from_is_err_and c.from_residual.result c.from_residual.ensures.1 in
    rw (p.1, p.2) (refuses (analysis (asked call)) (slices c.args.grid.now c.args.support.now c.args.verdict.now) _ refused)

pub analyse_passed-requires : goal.analyse_passed-requires
analyse_passed-requires c =
    let tested = rw c.lengths_of-lengths.ensures at c.in_ok-of_lengths.ensures in
    analysis_passed (call_of c.args.call.now) (length c.args.grid.now) (length c.args.support.now) (length c.args.verdict.now) (sym tested)
