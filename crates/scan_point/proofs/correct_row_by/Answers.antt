-- `scan_point::correct_row_by` meets its contract: a row that no station is near is corrected as it stands, and one by a rule that is not 2 is one by rule 1.
-- Assumes nothing.
use Prim.Native.Nat.{ℕ, ◌+◌}
use mathlib.Core.Path.{sym, subst}
use lib.IntN.{ℤ, pos}
use Rattle.std.proofs.Common.{rules, length, ◌≡◌}
use Rattle.lists.specs.Filled.{Filled}
use Rattle.scan_point.specs.Pass.{none_z, none_s, other_rule}
use Rattle.scan_point.specs.Entries.{near_share}
use Rattle.scan_point.proofs.correct_row_by.Goals as goal
use Rattle.scan_point.proofs.correct_row_by.Goals.{Start}

pub returns-then-is_empty : goal.returns-then-is_empty
returns-then-is_empty g c =
    let a = c.args in
    let none : length a.near.now ≡ 0 = search rules in
    let give = near_share a.near.now a.r2 in
    (none_z give none a.base a.nx a.rule a.z.now, none_s give none a.base a.nx a.support.now a.bit)

pub returns-then-rule-ne-LISTINGS : goal.returns-then-rule-ne-LISTINGS
returns-then-rule-ne-LISTINGS g c =
    let s = (goal.at.returns-then-rule-ne-LISTINGS g c).Start in
    let a = s.args in
    let r = c.before.before.before.correct_row in
    let other = c.before.before.before.before.before.before.if-rule-ne-LISTINGS.true in
    let same = other_rule a.rule other a.z.now (near_share a.near.now a.r2) (length a.near.now) a.base in
    (subst (λ (values : ℕ → ℤ). Filled (pos 0) values a.base (a.base + a.nx) a.z.now r.new.z) (sym same) r.ensures.0, r.ensures.1)
