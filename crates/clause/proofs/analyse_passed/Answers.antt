-- `clause::analyse_passed` meets its contract: the request that is loaded, settled. Assumes nothing.
use Rattle.scheme.specs.Promises.{slices}
use Rattle.request.specs.Lent.{call_of}
use Rattle.clause.specs.Settled.{ready, settles}
use Rattle.clause.proofs.analyse_passed.Goals as goal

pub settled-requires : goal.settled-requires
settled-requires c = ready (call_of c.args.call.now) c.terms_of.result c.load.new.stations c.terms_of.ensures c.load.ensures c.requires

pub returns : goal.returns
returns c =
    settles (call_of c.args.call.now) c.terms_of.result c.load.new.stations c.terms_of.ensures c.load.ensures c.requires
    (slices c.args.grid.now c.args.support.now c.args.verdict.now) c.settled.result c.settled.ensures
