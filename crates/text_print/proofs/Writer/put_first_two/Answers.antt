-- `text_print::Writer::put_first_two` meets its contract: one line, and then the other. Assumes nothing.
use Rattle.scheme.specs.Text.{first_two}
use Rattle.text_print.specs.Puts.{puts_then, room_first, room_then}
use Rattle.text_print.proofs.Writer.put_first_two.Goals as goal

pub put_line-requires : goal.put_line-requires
unfolding first_two
put_line-requires c = room_first c.args.self.now _ _ c.requires

pub put_line-requires-2 : goal.put_line-requires-2
unfolding first_two
put_line-requires-2 c = room_then c.args.self.now _ _ _ c.requires c.put_line.ensures

pub returns : goal.returns
unfolding first_two
returns c = puts_then c.put_line.ensures c.put_line-2.ensures
