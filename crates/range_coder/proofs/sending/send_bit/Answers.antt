use Rattle.std.proofs.Common.{pos, refl, sym, subst}
use Rattle.celt_base.specs.declared.question.Question.TheVariants.{Bit}
use Rattle.celt_base.specs.Intervals.{InPart}
use Rattle.celt_base.specs.Questions.{part_of, bit_row}
use Rattle.range_coder.specs.Nearest.{IsNearest}
use Rattle.range_coder.specs.Senders.{Sends}
use Rattle.range_coder.proofs.NearestLemmas.{wanted}
use Rattle.range_coder.proofs.SentAnswers.{one_sent, answer_is}
use Rattle.range_coder.proofs.sending.send_bit.Goals as goal

pub returns-clause-sends : goal.returns-clause-sends
returns-clause-sends c =
    let bit = c.bit_choice-bit.result in
    let old = c.args.room.now in
    let new = c.send_bit.new.room in
    let s = c.args.sender in
    let sends = subst (λ r. Sends old s (InPart (part_of (bit_row c.args.p) bit)) new r) (sym c.number_sent.ensures.sender) c.send_bit.ensures.sends in
    answer_is old new s c.number_sent.result.sender (Bit c.args.p) (pos bit) c.number_sent.result.answer c.number_sent.ensures.answer
    (one_sent old new s c.number_sent.result.sender (Bit c.args.p) (pos bit) (InPart (part_of (bit_row c.args.p) bit)) refl sends)

pub returns-clause-nearest : goal.returns-clause-nearest
returns-clause-nearest c =
    subst (IsNearest (Bit c.args.p) c.args.want) (sym c.number_sent.ensures.answer)
    (wanted (Bit c.args.p) c.args.want (pos c.bit_choice-bit.result) c.ranges.want (c.bit_choice-bit.ensures.nearest c.args.p))
