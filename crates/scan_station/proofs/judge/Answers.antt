-- `scan_station::judge` meets its contract. The loop's invariant: the stations passed have their differences and verdicts, and the others are
-- as they were. Assumes nothing.
use Rattle.std.proofs.Common.{arith, refl, ◌≡◌, ◌+◌, ◌∙◌, get_or, pos, to_z, of_z, w64}
use Rattle.integers.specs.Words.{bits_back}
use Rattle.lists.specs.Filled.{filled_set}
use Rattle.scan_station.specs.Judge.{diff_at, verdict_at, same_test}
use Rattle.scan_station.proofs.judge.Goals as goal

pub loop-k-preserved : goal.loop-k-preserved
loop-k-preserved c =
    let a = c.args in
    let l = c.loop-k in
    -- the verdict is the one that the scan found
    let found : get_or l.verdict l.k 0 ≡ get_or a.verdict.now l.k 0 = l.invariant.1.rest l.k (omega arith) in
    let back : to_z w64 (of_z w64 c.difference-dk.result) ≡ c.difference-dk.result = bits_back w64 _ (omega (arith, c.difference-dk.ensures.1)) in
    let diff_is = back ∙ rw found at c.difference-dk.ensures.0 in (
      filled_set (pos 0) (diff_at a.guess.now a.z.now a.nx a.ny a.stations.now a.verdict.now) 0 l.k (l.k + 1) a.d.now l.d _ refl (omega arith)
          (omega (arith, l.invariant.0.same_length)) diff_is l.invariant.0,
      filled_set 0 (verdict_at a.guess.now a.z.now a.nx a.ny a.stations.now a.verdict.now a.scan a.limit) 0 l.k (l.k + 1) a.verdict.now l.verdict _ refl (omega arith)
          (omega arith) (c.verdict_after.ensures ∙ rw (diff_is, found) (same_test _ _ _ _ _ _ _ _)) l.invariant.1,
    )
