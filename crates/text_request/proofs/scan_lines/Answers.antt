-- `text_request::scan_lines` meets its contract. Assumes nothing.
use Rattle.std.proofs.Common.{arith, ap, sym, ◌∙◌, length, map, take, set, ◌+◌, ◌∷◌, []}
use Rattle.scheme.specs.Text.Reader.{reads}
use Rattle.scheme.specs.Text.Lines.{scan_line}
use Rattle.scheme.specs.Text.Order.{lines}
use Rattle.text_lines.specs.Told.{entry_of}
use Rattle.text_head.specs.Left.{left_of}
use Rattle.text_head.proofs.Lines.{line_as, handed_on, next_line}
use Rattle.text_request.specs.Told.{all_told}
use Rattle.text_request.proofs.Turns.{begin, turn, stop, done, lines_more, lines_stop, lines_none, stored, all_stored}
use Rattle.text_request.proofs.scan_lines.Goals as goal

pub loop-entry-init : goal.loop-entry-init
loop-entry-init c = (omega arith, begin (λ n. lines n scan_line) (length c.args.entries.now) (left_of c.args.left))

pub returns-in_err-scan-clause-said : goal.returns-in_err-scan-clause-said
returns-in_err-scan-clause-said c =
    let a = c.args in
    let l = c.loop-entry in
    let off = line_as scan_line entry_of l.left c.entry_line.result c.entry_line.ensures _ c.in_err-scan.ensures in
    stop (λ n. lines n scan_line) (length a.entries.now) (left_of a.left) l.entry-index (map entry_of (take l.entry-index l.entries)) (left_of l.left) l.invariant.1 (omega arith) c.in_err-scan.field-0.0.line (lines_stop scan_line (left_of l.left) c.in_err-scan.field-0.0.line off)
    ∙ ap (all_told _) (sym (handed_on c.from_residual.result c.in_err-scan.field-0.0 c.from_residual.ensures.1))

pub loop-entry-preserved : goal.loop-entry-preserved
loop-entry-preserved c =
    let a = c.args in
    let l = c.loop-entry in
    let v = c.in_ok-scan in
    let on = line_as scan_line entry_of l.left c.entry_line.result c.entry_line.ensures _ v.ensures in (
      omega (arith, next_line l.left c.entry_line.result (v.scan, v.after) v.ensures),
      turn (λ n. lines n scan_line) (length a.entries.now) (left_of a.left) l.entry-index (map entry_of (take l.entry-index l.entries)) (left_of l.left) l.invariant.1 (omega arith) (entry_of v.scan ∷ []) (map entry_of (take (l.entry-index + 1) (set l.entries l.entry-index v.scan))) (left_of v.after) (lines_more scan_line (left_of l.left) (entry_of v.scan) (left_of v.after) on)
          (stored entry_of l.entries l.entry-index v.scan (omega arith)),
    )

pub returns-clause-said : goal.returns-clause-said
returns-clause-said c =
    let a = c.args in
    let l = c.loop-entry in
    done (λ n. lines n scan_line) (length a.entries.now) (left_of a.left) l.entry-index (map entry_of (take l.entry-index l.entries)) (left_of l.left) l.invariant.1 (omega arith) (lines_none scan_line (left_of l.left))
    ∙ ap (λ w. reads w (left_of l.left)) (all_stored entry_of l.entries l.entry-index (omega arith))
