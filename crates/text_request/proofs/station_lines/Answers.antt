-- `text_request::station_lines` meets its contract. Assumes nothing.
use Rattle.std.proofs.Common.{arith, ap, sym, ◌∙◌, length, map, take, set, ◌+◌, ◌∷◌, []}
use Rattle.scheme.specs.Text.Reader.{reads}
use Rattle.scheme.specs.Text.Lines.{station_line}
use Rattle.scheme.specs.Text.Order.{lines}
use Rattle.request.specs.Tables.{station_of}
use Rattle.text_head.specs.Left.{left_of}
use Rattle.text_head.proofs.Lines.{line_as, handed_on, next_line}
use Rattle.text_request.specs.Told.{all_told}
use Rattle.text_request.proofs.Turns.{begin, turn, stop, done, lines_more, lines_stop, lines_none, stored, all_stored}
use Rattle.text_request.proofs.station_lines.Goals as goal

pub loop-station-init : goal.loop-station-init
loop-station-init c = (omega arith, begin (λ n. lines n station_line) (length c.args.stations.now) (left_of c.args.left))

pub returns-in_err-read : goal.returns-in_err-read
returns-in_err-read c =
    let a = c.args in
    let l = c.loop-station in
    let off = line_as station_line station_of l.left c.station_line.result c.station_line.ensures _ c.in_err-read.ensures in
    stop (λ n. lines n station_line) (length a.stations.now) (left_of a.left) l.station-index (map station_of (take l.station-index l.stations)) (left_of l.left) l.invariant.1 (omega arith) c.in_err-read.field-0.0.line (lines_stop station_line (left_of l.left) c.in_err-read.field-0.0.line off)
    ∙ ap (all_told _) (sym (handed_on c.from_residual.result c.in_err-read.field-0.0 c.from_residual.ensures.1))

pub loop-station-preserved : goal.loop-station-preserved
loop-station-preserved c =
    let a = c.args in
    let l = c.loop-station in
    let v = c.in_ok-read in
    let on = line_as station_line station_of l.left c.station_line.result c.station_line.ensures _ v.ensures in (
      omega (arith, next_line l.left c.station_line.result (v.read, v.after) v.ensures),
      turn (λ n. lines n station_line) (length a.stations.now) (left_of a.left) l.station-index (map station_of (take l.station-index l.stations)) (left_of l.left) l.invariant.1 (omega arith) (station_of v.read ∷ []) (map station_of (take (l.station-index + 1) (set l.stations l.station-index v.read))) (left_of v.after) (lines_more station_line (left_of l.left) (station_of v.read) (left_of v.after) on)
          (stored station_of l.stations l.station-index v.read (omega arith)),
    )

pub returns : goal.returns
returns c =
    let a = c.args in
    let l = c.loop-station in
    done (λ n. lines n station_line) (length a.stations.now) (left_of a.left) l.station-index (map station_of (take l.station-index l.stations)) (left_of l.left) l.invariant.1 (omega arith) (lines_none station_line (left_of l.left))
    ∙ ap (λ w. reads w (left_of l.left)) (all_stored station_of l.stations l.station-index (omega arith))
