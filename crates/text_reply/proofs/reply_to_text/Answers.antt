-- `text_reply::reply_to_text` meets its contract: a text not in form, or a request that is answered. Assumes nothing.
use Rattle.std.proofs.Common.{arith, rules, Fits, w32, ap, ◌∙◌, ◌≡◌, length, ℤ, pos}
use Rattle.std.proofs.Math.ListN.{length-replicate}
use Rattle.scheme.specs.Units.{most_stations}
use Rattle.scheme.specs.Text.{in_form}
use Rattle.scheme.specs.Most.{most_points}
use Rattle.request.specs.declared.Station.{Station as Row}
use Rattle.request.specs.Tables.{no_row}
use Rattle.text_answer.specs.Answered.{at_start, stands, stands_as}
use Rattle.text_reply.specs.Reply.{formed, two_fit, said}
use Rattle.text_reply.proofs.reply_to_text.Goals as goal

pub reply_to-requires : goal.reply_to-requires
reply_to-requires c =
    let r = c.read_request in
    let points : length r.new.guess ≡ most_points = r.auto.guess ∙ length-replicate {A = ℤ} 4096 (pos 0) in
    let room : length r.new.stations ≡ most_stations = r.auto.stations ∙ length-replicate {A = Row} 512 no_row in
    (formed r.new.guess r.new.stations c.in-Ok.terms c.in-Ok.count points room c.in-Ok.ensures.fits, c.requires)

pub first_two-requires : goal.first_two-requires
first_two-requires c =
    let small : Fits w32 c.in-Err.fault.line = search rules in
    at_start (two_fit 9 c.in-Err.fault.line (length c.args.out.now) (omega arith) (omega arith) c.requires)

pub returns-in-Ok : goal.returns-in-Ok
returns-in-Ok c =
    let r = c.read_request in
    let points : length r.new.guess ≡ most_points = r.auto.guess ∙ length-replicate {A = ℤ} 4096 (pos 0) in
    let room : length r.new.stations ≡ most_stations = r.auto.stations ∙ length-replicate {A = Row} 512 no_row in
    stands_as c.args.out.now (said r.new.guess r.new.stations c.in-Ok.terms c.in-Ok.count points room c.in-Ok.ensures.fits c.args.text.now c.in-Ok.ensures) c.reply_to.ensures

pub returns-in-Err : goal.returns-in-Err
returns-in-Err c =
    let line = c.in-Err.fault.line in
    let small : Fits w32 c.in-Err.fault.line = search rules in
    stands_as c.args.out.now (ap in_form c.in-Err.ensures) (stands c.args.out.now (two_fit 9 line (length c.args.out.now) (omega arith) (omega arith) c.requires) c.first_two.ensures)
