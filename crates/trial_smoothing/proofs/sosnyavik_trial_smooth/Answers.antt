-- `trial_smoothing::sosnyavik_trial_smooth` meets its contract: past both tests, the field is one that smoothing takes.
use Rattle.std.proofs.Common.{◌∙◌, sym}
use Rattle.scheme.proofs.Accepted.{shaped}
use Rattle.trial_smoothing.specs.Trial.{all_fair_small, no_grid, unfair, smooth}
use Rattle.trial_smoothing.proofs.sosnyavik_trial_smooth.Goals as goal

pub returns-then-shape_bad : goal.returns-then-shape_bad
returns-then-shape_bad c = no_grid c.args.nx c.args.ny c.args.field.now (sym c.shape_bad.ensures ∙ c.if-shape_bad.true)

pub returns-then-not-all_fair : goal.returns-then-not-all_fair
returns-then-not-all_fair c =
    unfair c.args.nx c.args.ny c.args.field.now (sym c.shape_bad.ensures ∙ c.if-shape_bad.false) (sym c.all_fair.ensures ∙ c.if-not-all_fair.true)

pub smooth-requires : goal.smooth-requires
smooth-requires c =
    (shaped c.args.nx c.args.ny _ (sym c.shape_bad.ensures ∙ c.if-shape_bad.false), all_fair_small c.args.field.now (sym c.all_fair.ensures ∙ c.if-not-all_fair.false))

pub returns : goal.returns
returns c =
    smooth c.args.nx c.args.ny c.args.field.now (sym c.shape_bad.ensures ∙ c.if-shape_bad.false) (sym c.all_fair.ensures ∙ c.if-not-all_fair.false)
    c.smooth.new.z c.smooth.ensures
