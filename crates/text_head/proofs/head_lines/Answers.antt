-- `text_head::head_lines` meets its contract: line after line, each read where the one before ended. Assumes nothing.
use Rattle.std.proofs.Common.{ℕ, ◌≤◌, arith, sym, subst}
use Rattle.scheme.specs.Units.{least_side, most_side, most_scans}
use Rattle.scheme.specs.Text.Lines.{grid_line}
use Rattle.scheme.specs.Text.Pieces.{unsigned}
use Rattle.scheme.specs.RoundTrip.{time_line, smooth_line, scans_line}
use Rattle.text_lines.specs.declared.Size.{Size}
use Rattle.text_lines.specs.Told.{size_of}
use Rattle.text_head.specs.declared.Left.{Left}
use Rattle.text_head.specs.Head.{Heads}
use Rattle.text_head.proofs.Lines.{line_as, line_is, handed_on, holds, next_line}
use Rattle.text_head.proofs.head_lines.Goals as goal

pub returns-in_err-time : goal.returns-in_err-time
unfolding unsigned
returns-in_err-time c =
    let size = line_as grid_line size_of (record { line = 1; text = c.args.text }) c.grid_line.result c.grid_line.ensures.said _ c.in_ok-size.ensures in
    let time = line_is time_line c.in_ok-size.left c.number_line.result c.number_line.ensures.said _ c.in_err-time.ensures in
    subst (Heads c.args.text.now) (sym (handed_on c.from_residual-in_err-time.result c.in_err-time.field-0.0 c.from_residual-in_err-time.ensures.1)) (λ next. rw (size, time))

pub returns-in_err-smooth : goal.returns-in_err-smooth
unfolding unsigned
returns-in_err-smooth c =
    let size = line_as grid_line size_of (record { line = 1; text = c.args.text }) c.grid_line.result c.grid_line.ensures.said _ c.in_ok-size.ensures in
    let time = line_is time_line c.in_ok-size.left c.number_line.result c.number_line.ensures.said _ c.in_ok-time.ensures in
    let smooth = line_is smooth_line c.optional_line-age.result.1 c.number_line-2.result c.number_line-2.ensures.said _ c.in_err-smooth.ensures in
    subst (Heads c.args.text.now) (sym (handed_on c.from_residual-in_err-smooth.result c.in_err-smooth.field-0.0 c.from_residual-in_err-smooth.ensures.1)) (λ next. rw (size, time, c.optional_line-age.ensures.said, smooth))

pub returns-in_err-scans : goal.returns-in_err-scans
unfolding unsigned
returns-in_err-scans c =
    let size = line_as grid_line size_of (record { line = 1; text = c.args.text }) c.grid_line.result c.grid_line.ensures.said _ c.in_ok-size.ensures in
    let time = line_is time_line c.in_ok-size.left c.number_line.result c.number_line.ensures.said _ c.in_ok-time.ensures in
    let smooth = line_is smooth_line c.optional_line-age.result.1 c.number_line-2.result c.number_line-2.ensures.said _ c.in_ok-smooth.ensures in
    let scans = line_is scans_line c.optional_line-rule.result.1 c.number_line-3.result c.number_line-3.ensures.said _ c.in_err-scans.ensures in
    subst (Heads c.args.text.now) (sym (handed_on c.from_residual-in_err-scans.result c.in_err-scans.field-0.0 c.from_residual-in_err-scans.ensures.1)) (λ next. rw (size, time, c.optional_line-age.ensures.said, smooth, c.optional_line-rule.ensures.said, scans))

pub returns : goal.returns
unfolding unsigned
returns c =
    let size = line_as grid_line size_of (record { line = 1; text = c.args.text }) c.grid_line.result c.grid_line.ensures.said _ c.in_ok-size.ensures in
    let time = line_is time_line c.in_ok-size.left c.number_line.result c.number_line.ensures.said _ c.in_ok-time.ensures in
    let smooth = line_is smooth_line c.optional_line-age.result.1 c.number_line-2.result c.number_line-2.ensures.said _ c.in_ok-smooth.ensures in
    let scans = line_is scans_line c.optional_line-rule.result.1 c.number_line-3.result c.number_line-3.ensures.said _ c.in_ok-scans.ensures in
    let first : Left = record { line = 1; text = c.args.text } in
    let columns = holds first (λ (s : Size). (least_side ≤ s.nx) × (s.nx ≤ most_side)) c.grid_line.result (c.in_ok-size.size, c.in_ok-size.left) c.in_ok-size.ensures c.grid_line.ensures.columns in
    let rows = holds first (λ (s : Size). (least_side ≤ s.ny) × (s.ny ≤ most_side)) c.grid_line.result (c.in_ok-size.size, c.in_ok-size.left) c.in_ok-size.ensures c.grid_line.ensures.rows in
    let few = holds c.optional_line-rule.result.1 (λ (n : ℕ). (1 ≤ n) × (n ≤ most_scans)) c.number_line-3.result (c.in_ok-scans.scans, c.in_ok-scans.left) c.in_ok-scans.ensures c.number_line-3.ensures.in_range in
    record {
      said = λ next. rw (size, time, c.optional_line-age.ensures.said, smooth, c.optional_line-rule.ensures.said, scans);
      limits = record {
        two_columns = columns.0;
        few_columns = columns.1;
        two_rows = rows.0;
        few_rows = rows.1;
        scans_some = few.0;
        scans_few = few.1;
        ruled = c.optional_line-rule.ensures.in_range;
      };
      line = omega (
        arith,
        next_line first c.grid_line.result (c.in_ok-size.size, c.in_ok-size.left) c.in_ok-size.ensures,
        next_line c.in_ok-size.left c.number_line.result (c.in_ok-time.time, c.in_ok-time.left) c.in_ok-time.ensures,
        c.optional_line-age.ensures.next,
        next_line c.optional_line-age.result.1 c.number_line-2.result (c.in_ok-smooth.smooth, c.in_ok-smooth.left) c.in_ok-smooth.ensures,
        c.optional_line-rule.ensures.next,
        next_line c.optional_line-rule.result.1 c.number_line-3.result (c.in_ok-scans.scans, c.in_ok-scans.left) c.in_ok-scans.ensures,
      );
    }
