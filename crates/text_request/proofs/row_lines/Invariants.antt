-- The loop of `text_request::row_lines`: what is read so far, before what is still to read, is the whole.
use Rattle.std.proofs.Common.{◌≡◌, ◌+◌, ◌*◌, length, take}
use Rattle.scheme.specs.Text.Lines.{row_line}
use Rattle.scheme.specs.Text.Order.{rows}
use Rattle.text_head.specs.Left.{left_of}
use Rattle.text_request.proofs.Turns.{Reached}
use Rattle.text_request.proofs.row_lines.Given as goal

abbrev pub invariant-loop-j : goal.invariant-loop-j
invariant-loop-j l =
    (l.left.line ≡ l.initial.left.line + l.j)
    × (length l.z ≡ length l.initial.z)
    × Reached (λ n. rows n (row_line l.nx)) l.ny (left_of l.initial.left) l.j (take (l.j * l.nx) l.z) (left_of l.left)
