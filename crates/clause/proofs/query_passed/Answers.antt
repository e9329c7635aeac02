-- `clause::query_passed` meets its contract: the request that is loaded, settled. Assumes nothing.
use Rattle.scheme.specs.Promises.{tile}
use Rattle.request.specs.Tables.{window_in}
use Rattle.request.specs.Lent.{call_of}
use Rattle.clause.specs.Settled.{window_ready, window_settles}
use Rattle.clause.proofs.query_passed.Goals as goal

pub settled-requires : goal.settled-requires
settled-requires c =
    window_ready (call_of c.args.call.now) c.terms_of.result c.load.new.stations c.terms_of.ensures c.load.ensures (window_in c.args.w) c.requires

pub returns : goal.returns
returns c =
    window_settles (call_of c.args.call.now) c.terms_of.result c.load.new.stations c.terms_of.ensures c.load.ensures (window_in c.args.w) c.requires
    (tile c.args.grid.now c.args.support.now) c.settled.result c.settled.ensures
