-- `text_reply::reply` meets its contract: a text that is too long, or any other. Assumes nothing.
use Rattle.std.proofs.Common.{arith, length}
use Rattle.text_answer.specs.Answered.{at_start, stands, stands_as}
use Rattle.text_reply.specs.Reply.{two_fit, over, as_read}
use Rattle.text_reply.proofs.reply.Goals as goal

pub first_two-requires : goal.first_two-requires
first_two-requires c = at_start (two_fit 10 0 (length c.args.out.now) (omega arith) (omega arith) (omega arith))

pub returns-then-text-gt65536 : goal.returns-then-text-gt65536
returns-then-text-gt65536 c =
    stands_as c.args.out.now (over c.args.text.now c.if-text-gt65536.true)
    (stands c.args.out.now (two_fit 10 0 (length c.args.out.now) (omega arith) (omega arith) (omega arith)) c.first_two.ensures)

pub returns : goal.returns
returns c = stands_as c.args.out.now (as_read c.args.text.now c.if-text-gt65536.false) c.reply_to_text.ensures
