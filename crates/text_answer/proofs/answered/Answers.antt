-- `text_answer::answered` meets its contract: the analysis as text, or its refusal as two lines. Assumes nothing.
use Rattle.std.proofs.Common.{arith, ◌≡◌, sym, ap, ◌∙◌, mul_comm}
use Rattle.scheme.specs.Refusals.{Refusal}
use Rattle.scheme.specs.Scan.{Analysis}
use Rattle.scheme.specs.Text.{first_two, reply_text}
use Rattle.scheme.specs.Promises.{slices}
use Rattle.request.specs.Tables.{request_of}
use Rattle.text_answer.specs.Answered.{at_start, stands, stands_as, two_short, refused_reply, accepted_reply, accepted_short}
use Rattle.text_answer.proofs.answered.Goals as goal

pub analysis_text-requires : goal.analysis_text-requires
analysis_text-requires c =
    let a = c.args in
    let q = request_of a.request.now in
    let n = c.settled.new in
    let is = ap (λ (o : Refusal × Analysis). o.0) c.in-Ok.ensures in
    let left = ap (λ (o : Refusal × Analysis). o.1) c.in-Ok.ensures in
    let short = accepted_short q c.requires.0 (slices a.grid.now a.support.now a.verdict.now) (slices n.grid n.support n.verdict) is left in
    let e = mul_comm q.nx q.ny in (
      omega (arith, c.requires.0.shape.two_columns),
      sym (c.settled.auto.grid ∙ c.requires.1.grid_long ∙ e),
      sym (c.settled.auto.support ∙ c.requires.1.support_long ∙ e),
      at_start (omega (arith, short, c.requires.2)),
    )

pub first_two-requires : goal.first_two-requires
first_two-requires c = at_start (omega (arith, two_short c.number.result c.place.result (omega (arith, c.number.ensures.small)) (omega (arith, c.place.ensures.small)), c.requires.2))

pub returns-in-Ok : goal.returns-in-Ok
returns-in-Ok c =
    let a = c.args in
    let q = request_of a.request.now in
    let n = c.settled.new in
    let is = ap (λ (o : Refusal × Analysis). o.0) c.in-Ok.ensures in
    let left = ap (λ (o : Refusal × Analysis). o.1) c.in-Ok.ensures in
    let found = slices a.grid.now a.support.now a.verdict.now in
    let s = slices n.grid n.support n.verdict in
    stands_as a.out.now (accepted_reply q c.requires.0 found s is left)
    (stands a.out.now (omega (arith, accepted_short q c.requires.0 found s is left, c.requires.2)) c.analysis_text.ensures)

pub returns-in-Err : goal.returns-in-Err
returns-in-Err c =
    let a = c.args in
    let is = ap (λ (o : Refusal × Analysis). o.0) c.in-Err.ensures in
    let told : reply_text (request_of a.request.now) ≡ first_two c.number.result c.place.result = rw (c.number.ensures.row, c.place.ensures.row) (refused_reply (request_of a.request.now) c.requires.0 c.in-Err.refused is) in
    stands_as a.out.now told
    (stands a.out.now (omega (arith, two_short c.number.result c.place.result (omega (arith, c.number.ensures.small)) (omega (arith, c.place.ensures.small)), c.requires.2)) c.first_two.ensures)
