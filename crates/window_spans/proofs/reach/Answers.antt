-- `window_spans::reach` meets its contract. The loop's invariant: the total is that of the scans passed. Assumes nothing.
use Rattle.std.proofs.Common.{◌≡◌, ◌<◌, ◌≤◌, ℕ, ap, ◌∙◌, sym, arith, get_or, take, length, pos, ℤ, w32, to_z, of_z, length-take-le}
use Rattle.std.proofs.lemmas.List.{length-map, get_or-take}
use Rattle.integers.specs.Words.{bits_back}
use Rattle.scheme.specs.Units.{most_buddy_radius, Plan, R, B}
use Rattle.scheme.specs.Accepted.{Planned, Scanned}
use Rattle.scheme.proofs.Accepted.{few_B}
use Rattle.request.specs.declared.Entry.{Entry}
use Rattle.request.specs.declared.Terms.{Terms}
use Rattle.request.specs.Tables.{plan_in, no_entry, radius_at}
use Rattle.window_spans.specs.Spans.{reach_none, reach_next, reach_all, one_most}
use Rattle.window_spans.proofs.reach.Goals as goal
use Rattle.window_spans.proofs.reach.Goals.{In-loop-entry}

-- the plan has as many entries as it counts scans
long : (t : Terms) → Planned (plan_in t) → length (take t.scans t.entries) ≡ t.scans
long t p = length-take-le t.scans t.entries (omega (arith, p.radii, length-map t.entries (λ (e : Entry). e.radius)))

-- a turn of the loop, at scan m
module _ (c : In-loop-entry) where
  abbrev p : Plan
  p = plan_in c.args.t.now

  abbrev m : ℕ
  m = c.loop-entry.entry-index

  passed : m < p.scans
  passed = omega (arith, c.loop-entry-test.true, long c.args.t.now c.requires)

  scan : Scanned p m
  scan = c.requires.scan m passed

  radius_back : to_z w32 (of_z w32 (get_or (take p.scans c.args.t.now.entries) m no_entry).radius) ≡ pos (R p m)
  radius_back =
      let e = ap (λ (e : Entry). e.radius) (get_or-take p.scans c.args.t.now.entries m no_entry passed) ∙ sym (radius_at c.args.t.now.entries m) ∙ scan.radius_is in
      ap (λ (v : ℤ). to_z w32 (of_z w32 v)) e ∙ bits_back w32 (pos (R p m)) (omega (arith, scan.radius_most))

  near-most : B p ≤ most_buddy_radius
  near-most = few_B p c.requires.checks

pub loop-entry-init : goal.loop-entry-init
loop-entry-init c = (omega arith, reach_none (plan_in c.args.t.now))

pub overflow_cast-entry : goal.overflow_cast-entry
overflow_cast-entry c =
    let k = (goal.at.overflow_cast-entry c).In-loop-entry in
    rw (radius_back k) (tt, record { fits = omega (arith, (scan k).radius_most) })

pub steps-total-requires : goal.steps-total-requires
steps-total-requires c =
    let k = (goal.at.steps-total-requires c).In-loop-entry in
    (rw (radius_back k) (scan k).radius_most, omega (arith, c.buddy_radius-near.ensures, near-most k))

pub loop-entry-preserved : goal.loop-entry-preserved
loop-entry-preserved c =
    let k = (goal.at.loop-entry-preserved c).In-loop-entry in
    let l = c.loop-entry in
    let e = rw (radius_back k, c.buddy_radius-near.ensures) at c.steps-total.ensures in (
      omega (arith, e, (scan k).radius_most, near-most k, one_most (p k).smooth, l.invariant.0),
      reach_next (p k) l.entry-index l.total c.steps-total.result l.invariant.1 e,
    )

pub returns : goal.returns
returns c =
    let l = c.loop-entry in
    let e : l.entry-index ≡ c.args.t.now.scans = omega (arith, long c.args.t.now c.requires) in
    (omega (arith, l.invariant.0, c.requires.scans_few, e), reach_all (plan_in c.args.t.now) l.entry-index l.total e l.invariant.1)
