-- `text_print::Writer::put_digits` meets its contract: the number without its last digit, and then that digit. Assumes nothing.
use Rattle.std.proofs.Common.{arith}
use Rattle.scheme.proofs.Decimals.{decimal_more}
use Rattle.text_print.specs.Puts.{puts_as, puts_then, room_first, room_then}
use Rattle.text_print.proofs.Writer.+put_digits.Goals as goal

pub put_digits-requires : goal.put_digits-requires
put_digits-requires t c = (omega arith, room_first c.args.self.now _ _ (rw (decimal_more c.args.n c.if-n-lt10.false) at c.requires))

pub put_byte-requires-else-n-lt10 : goal.put_byte-requires-else-n-lt10
put_byte-requires-else-n-lt10 t c = room_then c.args.self.now _ _ _ (rw (decimal_more c.args.n c.if-n-lt10.false) at c.requires) c.put_digits.ensures

pub returns-else-n-lt10 : goal.returns-else-n-lt10
returns-else-n-lt10 t c = puts_as (decimal_more c.args.n c.if-n-lt10.false) (puts_then c.put_digits.ensures c.put_byte-else-n-lt10.ensures)
