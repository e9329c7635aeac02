-- `scan_point::weight` meets its contract: in mode 0 a station's wind is a calm one, by which the weight is the round one. Assumes nothing.
use mathlib.Core.Path.{sym, ◌∙◌}
use Rattle.scan_point.specs.Entries.{by_calm}
use Rattle.scan_point.proofs.weight.Goals as goal
use Rattle.scan_point.proofs.weight.Goals.{Start}

pub returns : goal.returns
returns g c =
    let s = (goal.at.returns g c).Start in
    c.weight-2.ensures ∙ sym (by_calm s.args.r2 s.args.d2 _ _ (s.requires.4.round c.before.if-this-eq-ALONG_WIND.false))
