use Rattle.std.proofs.Common.{pos, refl, sym, subst}
use Rattle.celt_base.specs.declared.question.Question.TheVariants.{Raw}
use Rattle.celt_base.specs.Intervals.{InBits}
use Rattle.range_coder.specs.Nearest.{IsNearest}
use Rattle.range_coder.specs.Senders.{Sends}
use Rattle.range_coder.proofs.NearestLemmas.{wanted}
use Rattle.range_coder.proofs.SentAnswers.{one_sent, answer_is}
use Rattle.range_coder.proofs.sending.send_raw.Goals as goal

pub returns-clause-sends : goal.returns-clause-sends
returns-clause-sends c =
    let bits = c.raw_choice-bits.result in
    let count = c.args.count in
    let old = c.args.room.now in
    let new = c.send_bits.new.room in
    let s = c.args.sender in
    let sends = subst (λ r. Sends old s (InBits count bits) new r) (sym c.number_sent.ensures.sender) c.send_bits.ensures.sends in
    answer_is old new s c.number_sent.result.sender (Raw count) (pos bits) c.number_sent.result.answer c.number_sent.ensures.answer
    (one_sent old new s c.number_sent.result.sender (Raw count) (pos bits) (InBits count bits) refl sends)

pub returns-clause-nearest : goal.returns-clause-nearest
returns-clause-nearest c =
    subst (IsNearest (Raw c.args.count) c.args.want) (sym c.number_sent.ensures.answer)
    (wanted (Raw c.args.count) c.args.want (pos c.raw_choice-bits.result) c.ranges.want c.raw_choice-bits.ensures.nearest)
