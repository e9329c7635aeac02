-- `text_lines::values` meets its contract. Assumes nothing.
use Rattle.std.proofs.Common.{rules, arith, ap, sym, ◌∙◌, ◌-◌, ◌+◌, ◌≡◌, ◌<◌, length, length-set, to_z-of_z}
use Rattle.std.specs.Int.{w32}
use mir.Val.{SFits}
use Rattle.text_lines.specs.Told.{values_told}
use Rattle.text_lines.proofs.Turns.{cell_told, values_turn, values_off, values_done}
use Rattle.text_lines.proofs.values.Goals as goal

pub returns-in_err-number : goal.returns-in_err-number
returns-in_err-number c =
    let a = c.args in
    let l = c.loop-value in
    let e : l.more ≡ l.more - 1 + 1 = omega arith in
    values_off a.text.now l.left.now (length a.z.now) l.value-index l.more l.z (l.more - 1) e l.invariant.1
    (cell_told (l.more - 1) c.mark_of.result l.left.now c.mark_of.ensures c.signed.ensures c.in_err-number.ensures.said)
    ∙ ap (values_told _) (sym c.from_residual.ensures)

pub loop-value-preserved : goal.loop-value-preserved
loop-value-preserved c =
    let a = c.args in
    let l = c.loop-value in
    let e : l.more ≡ l.more - 1 + 1 = omega arith in
    let h : l.value-index < length l.z = omega arith in
    let v : SFits w32 c.in_ok-number.number = search rules in
    simp to_z-of_z (
      omega (arith, length-set l.z l.value-index c.in_ok-number.number),
      values_turn a.text.now l.left.now (length a.z.now) l.value-index l.more l.z (l.more - 1) c.in_ok-number.number c.in_ok-number.rest.now e h l.invariant.1
          (cell_told (l.more - 1) c.mark_of.result l.left.now c.mark_of.ensures c.signed.ensures c.in_ok-number.ensures.said),
    )

pub returns : goal.returns
returns c =
    let a = c.args in
    let l = c.loop-value in
    values_done a.text.now l.left.now (length a.z.now) l.value-index l.more l.z (omega arith) (omega arith) l.invariant.1
