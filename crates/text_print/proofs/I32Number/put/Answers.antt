-- `text_print::I32Number::put` meets its contract: the sign, if there is one, and then the digits. Assumes nothing.
use Rattle.std.proofs.Common.{◌≡◌, [], ◌∷◌, refl, ap, ◌∙◌, nat_abs, to_z-of_z}
use Rattle.scheme.specs.Text.Printed.{decimal, integer}
use Rattle.text_print.specs.Puts.{Left, all_left, room_left, room_next, put_next, put_last}
use Rattle.text_print.specs.Signs.{with_sign, without_sign}
use Rattle.text_print.proofs.I32Number.put.Goals as goal
use Rattle.text_print.proofs.I32Number.put.Goals.{After-unsigned_abs, then-self-lt0, else-self-lt0}

-- the sign is put, and the digits are left
module _ (c : After-unsigned_abs) where
  digits_left : Left c.args.writer.now (integer c.args.self) c.if-self-lt0.writer (decimal c.unsigned_abs.result)
  digits_left =
      let size : c.unsigned_abs.result ≡ nat_abs c.args.self = c.unsigned_abs.ensures.value ∙ ap nat_abs (to_z-of_z c.ranges.self) in
      elim c.if-self-lt0.branch [
        | then-self-lt0 w ↦ rw (size, w.writer-is) (put_next (all_left c.args.writer.now _ _ (with_sign c.args.self (rw (to_z-of_z c.ranges.self) at w.if-self-lt0.true))) (45 ∷ []) _ refl w.put_byte.ensures)
        | else-self-lt0 w ↦ rw (size, w.writer-is) (all_left c.args.writer.now _ _ (without_sign c.args.self (rw (to_z-of_z c.ranges.self) at w.if-self-lt0.false)))
      ]

pub put_byte-requires : goal.put_byte-requires
put_byte-requires c =
    room_next (all_left c.args.writer.now _ _ (with_sign c.args.self (rw (to_z-of_z c.ranges.self) at c.if-self-lt0.true))) (45 ∷ []) _ refl c.requires

pub put_decimal-requires : goal.put_decimal-requires
put_decimal-requires c = room_left (digits_left c) c.requires

pub returns : goal.returns
returns c = put_last (digits_left (goal.at.returns c).After-unsigned_abs) _ refl c.put_decimal.ensures
