-- The loop's invariant of `field_value::blended`: the sum so far makes, with the corners that are left, the sum of all.
use Rattle.std.specs.Iterator.Adapters.{zip_first, zip_second}
use Rattle.std.specs.Slice.Iter.{iter_rest}
use Rattle.field_value.specs.Corners.{blend, BlendsTo}
use Rattle.field_value.proofs.blended.Given as goal

abbrev pub invariant-loop-share : goal.invariant-loop-share
invariant-loop-share l =
    BlendsTo (blend l.fn.shares l.fn.values) l.sum (iter_rest (zip_first l.share-iterator)) (iter_rest (zip_second l.share-iterator))
