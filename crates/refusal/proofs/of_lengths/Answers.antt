-- `refusal::of_lengths` meets its contract: the sides are multiplied only where they are in range. Assumes nothing.
use Rattle.std.proofs.Common.{arith, mul-le-mul, sym, ◌∙◌}
use Rattle.scheme.proofs.Accepted.{shaped}
use Rattle.refusal.proofs.of_lengths.Goals as goal

pub overflow_mul-l : goal.overflow_mul-l
overflow_mul-l c =
    let p = shaped _ _ _ (sym c.shape_bad.ensures ∙ c.if-shape_bad.false) in
    record { fits = omega (arith, mul-le-mul p.few_columns p.few_rows) }
