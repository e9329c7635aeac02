-- The loop of `text_request::station_lines`: what is read so far, before what is still to read, is the whole.
use Rattle.std.proofs.Common.{◌≡◌, ◌+◌, length, map, take}
use Rattle.scheme.specs.Text.Lines.{station_line}
use Rattle.scheme.specs.Text.Order.{lines}
use Rattle.request.specs.Tables.{station_of}
use Rattle.text_head.specs.Left.{left_of}
use Rattle.text_request.proofs.Turns.{Reached}
use Rattle.text_request.proofs.station_lines.Given as goal

abbrev pub invariant-loop-station : goal.invariant-loop-station
invariant-loop-station l =
    (l.left.line ≡ l.initial.left.line + l.station-index)
    × Reached (λ n. lines n station_line) (length l.fn.stations) (left_of l.initial.left) l.station-index (map station_of (take l.station-index l.stations)) (left_of l.left)
