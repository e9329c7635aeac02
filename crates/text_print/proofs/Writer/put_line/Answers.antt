-- `text_print::Writer::put_line` meets its contract: the key, and then the row or the line feed. Assumes nothing.
use Rattle.std.proofs.Common.{◌≡◌, ◌≢◌, [], ◌∷◌, length, refl, arith}
use Rattle.std.proofs.lemmas.Grind.{common_steps}
use Rattle.scheme.specs.Text.Printed.{keyed}
use Rattle.text_print.specs.Puts.{Left, all_left, room_left, room_next, put_next, put_last}
use Rattle.text_print.specs.Rows.{after_key, key_first, none_after, some_after}
use Rattle.text_print.proofs.Writer.put_line.Given.{Over}
use Rattle.text_print.proofs.Writer.put_line.Goals as goal
use Rattle.text_print.proofs.Writer.put_line.Goals.{After-put}

-- the key is put
module _ (g : Over) (c : After-put g) where
  key_put : Left c.args.self.now (keyed c.args.key.now g.N.Number.text c.args.row.now) c.put.new.self (after_key g.N.Number.text c.args.row.now)
  key_put = put_next (all_left c.args.self.now _ _ (key_first g.N.Number.text c.args.key.now c.args.row.now)) _ _ refl c.put.ensures

pub put-requires : goal.put-requires
put-requires g c = room_next (all_left c.args.self.now _ _ (key_first g.N.Number.text c.args.key.now c.args.row.now)) _ _ refl c.requires

pub put_byte-requires : goal.put_byte-requires
put_byte-requires g c =
    let none : length c.args.row.now ≡ 0 = grind (arith, common_steps) in
    room_next (key_put g (goal.at.put_byte-requires g c).After-put) (10 ∷ []) [] (none_after g.N.Number.text c.args.row.now none) c.requires

pub returns-then-is_empty : goal.returns-then-is_empty
returns-then-is_empty g c =
    let none : length c.args.row.now ≡ 0 = grind (arith, common_steps) in
    put_last (key_put g (goal.at.returns-then-is_empty g c).After-put) (10 ∷ []) (none_after g.N.Number.text c.args.row.now none) c.put_byte.ensures

pub put_cells-requires : goal.put_cells-requires
put_cells-requires g c =
    let some : length c.args.row.now ≢ 0 = grind (arith, common_steps) in
    rw (← some_after g.N.Number.text c.args.row.now some) (room_left (key_put g (goal.at.put_cells-requires g c).After-put) c.requires)

pub returns-else-is_empty : goal.returns-else-is_empty
returns-else-is_empty g c =
    let some : length c.args.row.now ≢ 0 = grind (arith, common_steps) in
    put_last (key_put g (goal.at.returns-else-is_empty g c).After-put) _ (some_after g.N.Number.text c.args.row.now some) c.put_cells.ensures
