-- `text_print::analysis_text` meets its contract: the first two lines, the rows, the support, the verdicts. Assumes nothing.
use Rattle.std.proofs.Common.{ℕ, rules, arith, ap, refl, length, length-append}
use Rattle.text_print.specs.Puts.{all_left, room_left, room_next, put_next, put_last}
use Rattle.text_print.specs.Rows.{answer_parts}
use Rattle.text_print.proofs.analysis_text.Goals as goal

pub put_first_two-requires : goal.put_first_two-requires
put_first_two-requires c =
    let a = c.args in
    let parts = answer_parts a.nx a.ny a.grid.now a.support.now a.verdict.now c.requires.0 c.requires.1 c.requires.2 in
    omega (arith, ap length parts, length-append {A = ℕ}, c.requires.3)

pub put_lines-requires : goal.put_lines-requires
put_lines-requires c =
    let a = c.args in
    let parts = answer_parts a.nx a.ny a.grid.now a.support.now a.verdict.now c.requires.0 c.requires.1 c.requires.2 in
    let two = put_next (all_left _ _ _ parts) _ _ refl c.put_first_two.ensures in
    record { width = c.requires.0; room = room_next two _ _ refl c.requires.3 }

pub put_lines-requires-2 : goal.put_lines-requires-2
put_lines-requires-2 c =
    let a = c.args in
    let parts = answer_parts a.nx a.ny a.grid.now a.support.now a.verdict.now c.requires.0 c.requires.1 c.requires.2 in
    let two = put_next (all_left _ _ _ parts) _ _ refl c.put_first_two.ensures in
    let rows = put_next two _ _ refl c.put_lines.ensures in
    record { width = c.requires.0; room = room_next rows _ _ refl c.requires.3 }

pub put_line-requires : goal.put_line-requires
put_line-requires c =
    let a = c.args in
    let parts = answer_parts a.nx a.ny a.grid.now a.support.now a.verdict.now c.requires.0 c.requires.1 c.requires.2 in
    let two = put_next (all_left _ _ _ parts) _ _ refl c.put_first_two.ensures in
    let rows = put_next two _ _ refl c.put_lines.ensures in
    let sups = put_next rows _ _ refl c.put_lines-2.ensures in
    room_left sups c.requires.3

pub returns : goal.returns
returns c =
    let a = c.args in
    let parts = answer_parts a.nx a.ny a.grid.now a.support.now a.verdict.now c.requires.0 c.requires.1 c.requires.2 in
    let two = put_next (all_left _ _ _ parts) _ _ refl c.put_first_two.ensures in
    let rows = put_next two _ _ refl c.put_lines.ensures in
    let sups = put_next rows _ _ refl c.put_lines-2.ensures in
    let all = put_last sups _ refl c.put_line.ensures in search rules
