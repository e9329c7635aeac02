-- `text_request::row_lines` meets its contract. Assumes nothing.
use Rattle.std.proofs.Common.{arith, add-one, ℕ, suc, ◌+◌, ◌-◌, ◌*◌, ◌≤◌, ◌≡◌, sym, ap, ◌∙◌, List, length, take, take_all, ℤ}
use borrow.Rule.Slice.PartMut.{mid_of, same_len_mid}
use Rattle.scheme.proofs.Stored.{row_in}
use Rattle.scheme.proofs.RoundTrip.{rows_more}
use Rattle.scheme.specs.Text.Reader.{reads, fails}
use Rattle.scheme.specs.RoundTrip.{led}
use Rattle.scheme.specs.Text.Lines.{row_line}
use Rattle.scheme.specs.Text.Order.{rows}
use Rattle.text_head.specs.Left.{left_of}
use Rattle.text_request.proofs.Turns.{turn, stop, done, rows_stop, rows_none, part_long, put_row}
use Rattle.text_request.proofs.row_lines.Goals as goal

pub returns-in_default-clause-said : goal.returns-in_default-clause-said
returns-in_default-clause-said c =
    let a = c.args in
    let l = c.loop-j in
    let fits : l.j * a.nx + a.nx ≤ length l.z = omega (arith, row_in a.nx a.ny l.j c.loop-j-test.true) in
    let long : length (mid_of (l.j * a.nx) (l.j * a.nx + a.nx - l.j * a.nx) l.z) ≡ a.nx = part_long a.nx l.j l.z fits in
    let off : row_line a.nx l.left.text.now ≡ fails tt = ap (λ (n : ℕ). row_line n l.left.text.now) (sym long) ∙ c.in_default.ensures in
    stop (λ n. rows n (row_line a.nx)) a.ny (left_of a.left) l.j (take (l.j * a.nx) l.z) (left_of l.left) l.invariant.2 c.loop-j-test.true l.left.line
    (rows_stop (row_line a.nx) l.left.line l.left.text.now off)

pub loop-j-preserved : goal.loop-j-preserved
loop-j-preserved c =
    let a = c.args in
    let l = c.loop-j in
    let fits : l.j * a.nx + a.nx ≤ length l.z = omega (arith, row_in a.nx a.ny l.j c.loop-j-test.true) in
    let long : length (mid_of (l.j * a.nx) (l.j * a.nx + a.nx - l.j * a.nx) l.z) ≡ a.nx = part_long a.nx l.j l.z fits in
    let on : row_line a.nx l.left.text.now ≡ reads c.row_line.new.z c.in-Some.text.now = ap (λ (n : ℕ). row_line n l.left.text.now) (sym long) ∙ c.in-Some.ensures in
    let after : ℕ × List ℕ = (l.left.line + 1, c.in-Some.text.now) in
    let more : (m : ℕ) → rows (suc m) (row_line a.nx) (left_of l.left) ≡ led c.row_line.new.z (rows m (row_line a.nx) after) =
    λ m. rows_more (row_line a.nx) l.left.text.now c.in-Some.text.now c.row_line.new.z on m l.left.line
    ∙ ap (λ (k : ℕ). led c.row_line.new.z (rows m (row_line a.nx) (k, c.in-Some.text.now))) (sym (add-one l.left.line)) in (
      omega arith,
      same_len_mid (l.j * a.nx) (l.j * a.nx + a.nx - l.j * a.nx) l.z c.row_line.new.z c.row_line.auto.z ∙ l.invariant.1,
      turn (λ n. rows n (row_line a.nx)) a.ny (left_of a.left) l.j (take (l.j * a.nx) l.z) (left_of l.left) l.invariant.2 c.loop-j-test.true c.row_line.new.z _ after more
          (put_row a.nx l.j l.z c.row_line.new.z _ (omega (arith, fits)) (c.row_line.auto.z ∙ long)),
    )

pub returns-clause-said : goal.returns-clause-said
returns-clause-said c =
    let a = c.args in
    let l = c.loop-j in
    let e : l.j ≡ a.ny = omega arith in
    done (λ n. rows n (row_line a.nx)) a.ny (left_of a.left) l.j (take (l.j * a.nx) l.z) (left_of l.left) l.invariant.2 (omega arith) (rows_none (row_line a.nx) l.left.line l.left.text.now)
    ∙ ap (λ (w : List ℤ). reads w (left_of l.left)) (take_all (l.j * a.nx) l.z (rw e (omega arith)))
