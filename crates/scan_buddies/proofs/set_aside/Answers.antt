-- `scan_buddies::set_aside` meets its contract. The loop's invariant: the stations passed have their verdicts after the check, and the others are as
-- they were; the chains hold the survivors that the call found. Assumes nothing.
use Rattle.std.proofs.Common.{arith, refl, ℕ, ◌+◌, ◌≡◌, get_or}
use lib.ListN.{length-replicate, get_or-replicate}
use Rattle.lists.specs.Filled.{filled_set}
use Rattle.scheme.specs.Units.{most_stations}
use Rattle.scan_buddies.specs.Aside.{aside_at}
use Rattle.scan_buddies.specs.Cells.{kinds}
use Rattle.scan_buddies.proofs.set_aside.Goals as goal

pub chain-requires : goal.chain-requires
chain-requires c =
    let p = c.requires in (
      p.few,
      p.len_st,
      length-replicate {A = ℕ} kinds 0,
      length-replicate {A = ℕ} most_stations 0,
      (λ i h. get_or-replicate {A = ℕ} kinds i 0 0 h),
      (λ k l e. let s = p.standing k l e in (s.x, s.y)),
    )

pub loop-k-preserved : goal.loop-k-preserved
unfolding aside_at
loop-k-preserved c =
    let a = c.args in
    let l = c.loop-k in
    -- the verdict is the one that the call found
    let found : get_or l.verdict l.k 0 ≡ get_or a.verdict.now l.k 0 = l.invariant.0.rest l.k (omega arith) in (
      filled_set 0 (aside_at a.scan a.radius a.limit a.stations.now a.verdict.now a.d.now) 0 l.k (l.k + 1) a.verdict.now l.verdict _ refl (omega arith) (omega arith)
          (rw found at (c.verdict_beside.ensures a.verdict.now l.invariant.1)) l.invariant.0,
      l.invariant.1,
    )
