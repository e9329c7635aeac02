-- `text_pieces::signed` meets its contract. Assumes nothing.
use Rattle.std.proofs.Common.{arith, ap, ◌∙◌, sym, ◌<◌, ◌^◌}
use Rattle.std.specs.Int.{w32}
use Rattle.std.proofs.Math.Facts.{to_z_pos}
use Rattle.text_pieces.specs.Told.{told}
use Rattle.text_pieces.proofs.Ranges.{signed_minus, signed_count, signed_other}
use Rattle.text_pieces.proofs.signed.Goals as goal

pub returns-in-Some : goal.returns-in-Some
returns-in-Some c = signed_minus c.args.text.now c.in-Some.rest.now c.in-Some.ensures ∙ c.negative.ensures

pub returns-in_err-value : goal.returns-in_err-value
returns-in_err-value c = signed_other c.args.text.now c.in_default.ensures c.in_err-value.ensures.said ∙ ap told (sym c.from_residual.ensures)

pub returns : goal.returns
returns c =
    let small : c.in_ok-value.value < 2 ^ 31 = omega (arith, c.in_ok-value.ensures.in_range.1) in
    rw (to_z_pos w32 small) (signed_count c.args.text.now c.in_default.ensures c.in_ok-value.ensures.said)
