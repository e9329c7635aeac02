-- `scan_smoothing::smooth_row` meets its contract: the three sums of a point fit when they are added, and are those of the pattern.
use Rattle.std.proofs.Common.{rules, ℕ, ◌+◌, ◌*◌, ◌≤◌, ◌≡◌, ◌∙◌, arith, List, ℤ, nat_abs, ◌+ℤ◌, to_z, of_z, w32, to_z-of_z}
use Rattle.std.proofs.lemmas.Int.{ints}
use Rattle.scheme.specs.Most.{most_field}
use Rattle.scan_smoothing.specs.Pattern.{SmallFrom, row_at, nine, row_whole}
use Rattle.scan_smoothing.specs.Pass.{column_next}
use Rattle.scan_smoothing.proofs.smooth_row.Goals as goal
use Rattle.scan_smoothing.proofs.smooth_row.Goals.{After-row_sum-in-loop-i, After-row_sum-in-loop-i-2}

nine_of : (above here z : List ℤ) (q i : ℕ) (r₀ r₁ r₂ : ℤ) → r₀ ≡ row_at above i 0 → r₁ ≡ row_at here i 1 → r₂ ≡ row_at z (q + i) 2
    → r₀ +ℤ r₁ +ℤ r₂ ≡ nine above here z q i
unfolding nine
nine_of above here z q i r₀ r₁ r₂ e₀ e₁ e₂ = rw (e₀, e₁, e₂)

-- the sum of a row whose values are small
size_row : (l : List ℤ) (p b : ℕ) (r : ℤ) → SmallFrom p l → r ≡ row_at l p b → nat_abs r ≤ 12 * most_field
size_row l p b r small e = rw e (row_whole l p small b)

-- the sums of the two kept rows
module _ (c : After-row_sum-in-loop-i) where
  size₀ : nat_abs c.row_sum.result ≤ 12 * most_field
  size₀ = size_row c.args.above.now c.loop-i.i 0 c.row_sum.result (λ k h. c.requires.6 k) c.row_sum.ensures

  size₁ : nat_abs c.row_sum-in-loop-i.result ≤ 12 * most_field
  size₁ = size_row c.args.here.now c.loop-i.i 1 c.row_sum-in-loop-i.result (λ k h. c.requires.8 k) c.row_sum-in-loop-i.ensures

-- and that of the row below, which is as it was
size₂ : (c : After-row_sum-in-loop-i-2) → nat_abs c.row_sum-in-loop-i-2.result ≤ 12 * most_field
size₂ c =
    size_row c.loop-i.z (c.args.base + c.args.nx + c.loop-i.i) 2 c.row_sum-in-loop-i-2.result
    (λ k h. rw (c.loop-i.invariant.rest k (omega arith)) (c.requires.4 k (omega arith))) c.row_sum-in-loop-i-2.ensures

pub overflow_add-n : goal.overflow_add-n
overflow_add-n c =
    let a = size₀ c in
    let b = size₁ c in
    search (rules, ints)

pub overflow_add-n-in-loop-i : goal.overflow_add-n-in-loop-i
overflow_add-n-in-loop-i c =
    let s = (goal.at.overflow_add-n-in-loop-i c).After-row_sum-in-loop-i in
    let a = size₀ s in
    let b = size₁ s in
    let d = size₂ c in
    let two : to_z w32 (of_z w32 (to_z w32 (of_z w32 c.row_sum.result) +ℤ to_z w32 (of_z w32 c.row_sum-in-loop-i.result))) ≡ c.row_sum.result +ℤ c.row_sum-in-loop-i.result =
    omega (arith, ints) in
    rw two (search (rules, ints))

pub sixteenth-requires : goal.sixteenth-requires
sixteenth-requires c =
    let s = (goal.at.sixteenth-requires c).After-row_sum-in-loop-i in
    let a = size₀ s in
    let b = size₁ s in
    let d = size₂ c in
    omega (arith, ints)

pub loop-i-preserved : goal.loop-i-preserved
loop-i-preserved c =
    let s = (goal.at.loop-i-preserved c).After-row_sum-in-loop-i in
    let above = c.args.above.now in
    let here = c.args.here.now in
    let z = c.loop-i.z in
    let p = c.args.base + 1 in
    let q = c.args.base + c.args.nx in
    let i = c.loop-i.i in
    let a = size₀ s in
    let b = size₁ s in
    let d = size₂ (goal.at.loop-i-preserved c).After-row_sum-in-loop-i-2 in
    let v = to_z w32 (of_z w32 c.sixteenth.result) in
    let sum : to_z w32 (of_z w32 (to_z w32 (of_z w32 (to_z w32 (of_z w32 c.row_sum.result) +ℤ to_z w32 (of_z w32 c.row_sum-in-loop-i.result))) +ℤ to_z w32 (of_z w32 c.row_sum-in-loop-i-2.result)))
    ≡ c.row_sum.result +ℤ c.row_sum-in-loop-i.result +ℤ c.row_sum-in-loop-i-2.result = omega (arith, ints) in
    column_next above here c.args.z.now z p q i _ v (omega arith) (omega (arith, c.loop-i.invariant.same_length))
    (sum ∙ nine_of above here z q i c.row_sum.result c.row_sum-in-loop-i.result c.row_sum-in-loop-i-2.result c.row_sum.ensures c.row_sum-in-loop-i.ensures
    c.row_sum-in-loop-i-2.ensures)
    (to_z-of_z {w = w32} {z = c.sixteenth.result} (record { sfits = c.sixteenth.type_inv }) ∙ c.sixteenth.ensures) c.loop-i.invariant
