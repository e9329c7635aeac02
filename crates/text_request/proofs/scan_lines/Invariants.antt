-- The loop of `text_request::scan_lines`: what is read so far, before what is still to read, is the whole.
use Rattle.std.proofs.Common.{◌≡◌, ◌+◌, length, map, take}
use Rattle.scheme.specs.Text.Lines.{scan_line}
use Rattle.scheme.specs.Text.Order.{lines}
use Rattle.text_lines.specs.Told.{entry_of}
use Rattle.text_head.specs.Left.{left_of}
use Rattle.text_request.proofs.Turns.{Reached}
use Rattle.text_request.proofs.scan_lines.Given as goal

abbrev pub invariant-loop-entry : goal.invariant-loop-entry
invariant-loop-entry l =
    (l.left.line ≡ l.initial.left.line + l.entry-index)
    × Reached (λ n. lines n scan_line) (length l.fn.entries) (left_of l.initial.left) l.entry-index (map entry_of (take l.entry-index l.entries)) (left_of l.left)
