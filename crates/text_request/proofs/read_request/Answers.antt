-- `text_request::read_request` meets its contract: part after part, each read where the one before ended. Assumes nothing.
use Rattle.std.proofs.Common.{ℕ, ◌≤◌, ◌≡◌, ◌*◌, arith, sym, subst, ◌∙◌, length, take, drop, ◌++◌, length-take-le, mul-le-mul}
use Rattle.scheme.specs.Units.{most_stations}
use Rattle.scheme.specs.Most.{most_points}
use Rattle.request.specs.declared.Terms.{Terms}
use Rattle.scheme.specs.Text.Lines.{scan_line, station_line}
use Rattle.scheme.specs.RoundTrip.{stations_line}
use Rattle.text_head.specs.Left.{left_of}
use Rattle.text_head.proofs.Lines.{line_is, handed_on, holds}
use Rattle.text_request.specs.Told.{RequestIs, Says}
use Rattle.text_request.proofs.Whole.{no_head, no_scans, no_rows, no_count, no_stations, too_long, all_read, ended, surplus, counted, scans_long, entries_long, says}
use Rattle.text_request.proofs.read_request.Goals as goal

pub returns-in_err-head : goal.returns-in_err-head
returns-in_err-head c =
    subst (RequestIs c.args.text.now _ _) (sym (handed_on c.from_residual.result c.in_err-head.field-0.0 c.from_residual.ensures.1))
    (no_head c.args.text.now c.in_err-head.field-0.0.line c.in_err-head.ensures)

pub returns-in_err-left : goal.returns-in_err-left
returns-in_err-left c =
    subst (RequestIs c.args.text.now _ _) (sym (handed_on c.from_residual-in_err-left.result c.in_err-left.field-0.0 c.from_residual-in_err-left.ensures.1))
    (no_scans c.args.text.now c.in_ok-head.head c.in_ok-head.ensures.said c.in_err-left.field-0.0.line (counted scan_line c.in_ok-head.head.scans (left_of c.in_ok-head.left) (scans_long c.in_ok-head.head.scans c.in_ok-head.ensures.limits.scans_few) c.in_err-left.ensures.said))

pub returns-in_err-left-2 : goal.returns-in_err-left-2
returns-in_err-left-2 c =
    subst (RequestIs c.args.text.now _ _) (sym (handed_on c.from_residual-in_err-left-2.result c.in_err-left-2.field-0.0 c.from_residual-in_err-left-2.ensures.1))
    (no_rows c.args.text.now c.in_ok-head.head c.in_ok-head.ensures.said (counted scan_line c.in_ok-head.head.scans (left_of c.in_ok-head.left) (scans_long c.in_ok-head.head.scans c.in_ok-head.ensures.limits.scans_few) c.in_ok-left.ensures.said) c.buddy_line.ensures.said c.in_err-left-2.field-0.0.line c.in_err-left-2.ensures.said)

pub returns-in_err-count : goal.returns-in_err-count
returns-in_err-count c =
    subst (RequestIs c.args.text.now _ _) (sym (handed_on c.from_residual-in_err-count.result c.in_err-count.field-0.0 c.from_residual-in_err-count.ensures.1))
    (no_count c.args.text.now c.in_ok-head.head c.in_ok-head.ensures.said (counted scan_line c.in_ok-head.head.scans (left_of c.in_ok-head.left) (scans_long c.in_ok-head.head.scans c.in_ok-head.ensures.limits.scans_few) c.in_ok-left.ensures.said) c.buddy_line.ensures.said c.in_ok-left-2.ensures.said c.in_err-count.field-0.0.line (line_is stations_line c.in_ok-left-2.left c.number_line.result c.number_line.ensures.said _ c.in_err-count.ensures))

pub returns-in_err-left-3 : goal.returns-in_err-left-3
returns-in_err-left-3 c =
    let few = holds c.in_ok-left-2.left (λ (n : ℕ). (0 ≤ n) × (n ≤ most_stations)) c.number_line.result (c.in_ok-count.count, c.in_ok-count.left) c.in_ok-count.ensures c.number_line.ensures.in_range in
    let long : length (take c.in_ok-count.count c.args.stations.now) ≡ c.in_ok-count.count = length-take-le c.in_ok-count.count c.args.stations.now (omega (arith, few.1)) in
    subst (RequestIs c.args.text.now _ _) (sym (handed_on c.from_residual-in_err-left-3.result c.in_err-left-3.field-0.0 c.from_residual-in_err-left-3.ensures.1))
    (no_stations c.args.text.now c.in_ok-head.head c.in_ok-head.ensures.said (counted scan_line c.in_ok-head.head.scans (left_of c.in_ok-head.left) (scans_long c.in_ok-head.head.scans c.in_ok-head.ensures.limits.scans_few) c.in_ok-left.ensures.said) c.buddy_line.ensures.said c.in_ok-left-2.ensures.said (line_is stations_line c.in_ok-left-2.left c.number_line.result c.number_line.ensures.said _ c.in_ok-count.ensures) c.in_err-left-3.field-0.0.line (counted station_line c.in_ok-count.count (left_of c.in_ok-count.left) long c.in_err-left-3.ensures))

pub returns-then-not-is_empty : goal.returns-then-not-is_empty
returns-then-not-is_empty c =
    let few = holds c.in_ok-left-2.left (λ (n : ℕ). (0 ≤ n) × (n ≤ most_stations)) c.number_line.result (c.in_ok-count.count, c.in_ok-count.left) c.in_ok-count.ensures c.number_line.ensures.in_range in
    let long : length (take c.in_ok-count.count c.args.stations.now) ≡ c.in_ok-count.count = length-take-le c.in_ok-count.count c.args.stations.now (omega (arith, few.1)) in
    too_long c.args.text.now c.in_ok-head.head c.in_ok-head.ensures.said (counted scan_line c.in_ok-head.head.scans (left_of c.in_ok-head.left) (scans_long c.in_ok-head.head.scans c.in_ok-head.ensures.limits.scans_few) c.in_ok-left.ensures.said) c.buddy_line.ensures.said c.in_ok-left-2.ensures.said (line_is stations_line c.in_ok-left-2.left c.number_line.result c.number_line.ensures.said _ c.in_ok-count.ensures) (counted station_line c.in_ok-count.count (left_of c.in_ok-count.left) long c.in_ok-left-3.ensures) c.in_ok-left-3.left.line (surplus c.in_ok-left-3.left.line c.in_ok-left-3.left.text.now c.is_empty.result c.is_empty.ensures c.if-not-is_empty.true)

pub returns : goal.returns
returns c =
    let few = holds c.in_ok-left-2.left (λ (n : ℕ). (0 ≤ n) × (n ≤ most_stations)) c.number_line.result (c.in_ok-count.count, c.in_ok-count.left) c.in_ok-count.ensures c.number_line.ensures.in_range in
    let long : length (take c.in_ok-count.count c.args.stations.now) ≡ c.in_ok-count.count = length-take-le c.in_ok-count.count c.args.stations.now (omega (arith, few.1)) in
    let h = c.in_ok-head.head in
    let limits = c.in_ok-head.ensures.limits in
    let scans = c.scan_lines.auto.entries ∙ scans_long h.scans limits.scans_few in
    let area : h.ny * h.nx ≤ most_points = mul-le-mul limits.few_rows limits.few_columns in
    let beyond = drop (h.ny * h.nx) c.args.guess.now in
    let unused = drop c.in_ok-count.count c.args.stations.now in
    subst (λ (t : Terms). Says c.args.text.now (c.row_lines.new.z ++ beyond) (c.station_lines.new.stations ++ unused) t c.in_ok-count.count c.in_ok-left-3.left.line) (sym c.terms_read-terms.ensures)
    (says h c.buddy_line.result.0 c.in_ok-count.count c.in_ok-left-3.left.line c.scan_lines.new.entries _ c.row_lines.new.z beyond c.station_lines.new.stations unused
    scans (c.row_lines.auto.z ∙ length-take-le (h.ny * h.nx) c.args.guess.now (omega (arith, area))) (c.station_lines.auto.stations ∙ long) limits (entries_long h.scans c.scan_lines.new.entries limits.scans_few scans) few.1
    (all_read c.args.text.now c.in_ok-head.head c.in_ok-head.ensures.said (counted scan_line c.in_ok-head.head.scans (left_of c.in_ok-head.left) (scans_long c.in_ok-head.head.scans c.in_ok-head.ensures.limits.scans_few) c.in_ok-left.ensures.said) c.buddy_line.ensures.said c.in_ok-left-2.ensures.said (line_is stations_line c.in_ok-left-2.left c.number_line.result c.number_line.ensures.said _ c.in_ok-count.ensures) (counted station_line c.in_ok-count.count (left_of c.in_ok-count.left) long c.in_ok-left-3.ensures) (ended c.in_ok-left-3.left.line c.in_ok-left-3.left.text.now c.is_empty.result c.is_empty.ensures c.if-not-is_empty.false)))
