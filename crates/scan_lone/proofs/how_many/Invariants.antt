use Rattle.std.proofs.Common.{◌≡◌, ◌+◌, length, drop, All, ltb, count_by}
use Rattle.scan_lone.specs.Inside.{distance, Placed}
use Rattle.scan_lone.proofs.how_many.Given as goal

abbrev pub invariant-loop-rest : goal.invariant-loop-rest
invariant-loop-rest l =
    All Placed l.rest × (l.inside + count_by (λ s. ltb (distance s l.i) l.r2) l.rest ≡ count_by (λ s. ltb (distance s l.i) l.r2) l.near)

abbrev pub decreases-loop-rest : goal.decreases-loop-rest
decreases-loop-rest l = length l.rest

abbrev pub invariant-loop-s : goal.invariant-loop-s
invariant-loop-s l =
    All Placed l.s-items × (l.inside + count_by (λ s. ltb (distance s l.i) l.r2) (drop l.s-index l.s-items) ≡ count_by (λ s. ltb (distance s l.i) l.r2) l.near)
