use Rattle.std.proofs.Common.{◌+◌, pos, sym, subst, arith}
use Rattle.celt_base.specs.declared.question.Question.TheVariants.{Uniform}
use Rattle.celt_base.specs.Intervals.{Part, InPart, InBits}
use Rattle.range_coder.specs.Nearest.{IsNearest}
use Rattle.range_coder.specs.Senders.{Sends}
use Rattle.range_coder.proofs.NearestLemmas.{wanted}
use Rattle.range_coder.proofs.SentAnswers.{one_sent, two_sent, answer_is}
use Rattle.range_coder.proofs.sending.send_uniform.Goals as goal

pub returns-then-choice-eq0-clause-sends : goal.returns-then-choice-eq0-clause-sends
returns-then-choice-eq0-clause-sends c =
    let choice = c.number_choice-choice.result in
    let part : Part = record { from = choice.top; to = choice.top + 1; total = choice.total } in
    let old = c.args.room.now in
    let mid = c.send_part-after.new.room in
    let s = c.args.sender in
    let sent : Sends old s (InPart part) mid c.send_part-after.result =
    subst (λ n. Sends old s (InPart (let p : Part = record { from = choice.top; to = choice.top + 1; total = n } in p)) mid c.send_part-after.result)
    c.of-shares.ensures.total c.send_part-after.ensures.sends in
    let r = c.number_sent.result.sender in
    let all = subst (Sends old s (InPart part) mid) (sym c.number_sent.ensures.sender) sent in
    answer_is old mid s r (Uniform c.args.limit) (pos choice.number) c.number_sent.result.answer c.number_sent.ensures.answer
    (one_sent old mid s r (Uniform c.args.limit) (pos choice.number) (InPart part) (c.number_choice-choice.ensures.narrow (omega arith)) all)

pub returns-then-choice-eq0-clause-nearest : goal.returns-then-choice-eq0-clause-nearest
returns-then-choice-eq0-clause-nearest c =
    subst (IsNearest (Uniform c.args.limit) c.args.want) (sym c.number_sent.ensures.answer)
    (wanted (Uniform c.args.limit) c.args.want (pos c.number_choice-choice.result.number) c.ranges.want c.number_choice-choice.ensures.nearest)

pub returns-clause-sends : goal.returns-clause-sends
returns-clause-sends c =
    let choice = c.number_choice-choice.result in
    let part : Part = record { from = choice.top; to = choice.top + 1; total = choice.total } in
    let old = c.args.room.now in
    let mid = c.send_part-after.new.room in
    let s = c.args.sender in
    let sent : Sends old s (InPart part) mid c.send_part-after.result =
    subst (λ n. Sends old s (InPart (let p : Part = record { from = choice.top; to = choice.top + 1; total = n } in p)) mid c.send_part-after.result)
    c.of-shares.ensures.total c.send_part-after.ensures.sends in
    let new = c.send_bits.new.room in
    let r = c.number_sent-2.result.sender in
    let bits = subst (Sends mid c.send_part-after.result (InBits choice.low choice.bits) new) (sym c.number_sent-2.ensures.sender) c.send_bits.ensures.sends in
    answer_is old new s r (Uniform c.args.limit) (pos choice.number) c.number_sent-2.result.answer c.number_sent-2.ensures.answer
    (two_sent old mid new s c.send_part-after.result r (Uniform c.args.limit) (pos choice.number) (InPart part) (InBits choice.low choice.bits)
    (c.number_choice-choice.ensures.wide (omega arith)) sent bits)

pub returns-clause-nearest : goal.returns-clause-nearest
returns-clause-nearest c =
    subst (IsNearest (Uniform c.args.limit) c.args.want) (sym c.number_sent-2.ensures.answer)
    (wanted (Uniform c.args.limit) c.args.want (pos c.number_choice-choice.result.number) c.ranges.want c.number_choice-choice.ensures.nearest)
