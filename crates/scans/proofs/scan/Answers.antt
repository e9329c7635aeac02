-- `scans::scan` meets its contract: each of its parts finds what it needs, and leaves what Scanned says. Assumes nothing.
use Rattle.scans.specs.Ready.{bit_is, buddies_ready, pass_ready, smooth_shaped, smooth_small, scanned}
use Rattle.scans.proofs.scan.Goals as goal

pub buddies_if-requires : goal.buddies_if-requires
buddies_if-requires c =
    let judged = rw c.limit_of-limit.ensures at c.judge.ensures.1 in
    buddies_ready c.requires judged c.judge.ensures.0

pub correct-requires : goal.correct-requires
correct-requires c =
    let judged = rw c.limit_of-limit.ensures at c.judge.ensures.1 in
    rw (c.radius_of-radius.ensures, bit_is c.args.m c.requires.entry.0) (pass_ready c.requires judged c.judge.ensures.0 c.buddies_if.ensures)

pub smooth_if-requires : goal.smooth_if-requires
smooth_if-requires c =
    let judged = rw c.limit_of-limit.ensures at c.judge.ensures.1 in
    let values = rw c.radius_of-radius.ensures at c.correct.ensures.0 in
    let d = c.judge.ensures.0 in
    let p = c.requires in
    (smooth_shaped p judged d c.buddies_if.ensures values, smooth_small p judged d c.buddies_if.ensures values)

pub returns : goal.returns
returns c =
    let judged = rw c.limit_of-limit.ensures at c.judge.ensures.1 in
    let values = rw c.radius_of-radius.ensures at c.correct.ensures.0 in
    let supports = rw (c.radius_of-radius.ensures, bit_is c.args.m c.requires.entry.0) at c.correct.ensures.1 in
    scanned c.requires judged c.judge.ensures.0 c.buddies_if.ensures values c.smooth_if.ensures supports
