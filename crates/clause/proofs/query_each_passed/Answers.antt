-- `clause::query_each_passed` meets its contract: the request that is loaded, settled. Assumes nothing.
use Rattle.scheme.specs.Promises.{tile}
use Rattle.request.specs.Lent.{call_of, screen_of}
use Rattle.clause.specs.Settled.{screen_ready, screen_settles}
use Rattle.clause.proofs.query_each_passed.Goals as goal

pub settled-requires : goal.settled-requires
settled-requires c =
    screen_ready (call_of c.args.call.now) c.terms_of.result c.load.new.stations c.terms_of.ensures c.load.ensures (screen_of c.args.screen.now) c.args.windows.now
    c.requires.loaded c.requires.passed

pub returns : goal.returns
returns c =
    screen_settles (call_of c.args.call.now) c.terms_of.result c.load.new.stations c.terms_of.ensures c.load.ensures (screen_of c.args.screen.now) c.args.windows.now
    c.requires.loaded c.requires.passed (tile c.args.grid.now c.args.support.now) c.settled.result c.settled.ensures
