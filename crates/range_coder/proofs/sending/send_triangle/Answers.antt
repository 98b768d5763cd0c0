use Rattle.std.proofs.Common.{sym, subst}
use Rattle.celt_base.specs.declared.question.Question.TheVariants.{Triangle}
use Rattle.celt_base.specs.Intervals.{Part, InPart}
use Rattle.range_coder.specs.Nearest.{IsNearest}
use Rattle.range_coder.proofs.NearestLemmas.{choice_wanted}
use Rattle.range_coder.proofs.SentAnswers.{one_sent, answer_is}
use Rattle.range_coder.proofs.sending.send_triangle.Goals as goal

pub returns-clause-sends : goal.returns-clause-sends
returns-clause-sends c =
    let choice = c.triangle_choice-choice.result in
    let part : Part = record { from = choice.from; to = choice.to; total = choice.total } in
    let chosen = choice_wanted (Triangle c.args.most) c.args.want choice.answer part c.ranges.want c.triangle_choice-choice.ensures.choice in
    let old = c.args.room.now in
    let new = c.send_choice.new.room in
    let sent = c.send_choice.result in
    answer_is old new c.args.sender sent.sender (Triangle c.args.most) choice.answer sent.answer c.send_choice.ensures.answer
    (one_sent old new c.args.sender sent.sender (Triangle c.args.most) choice.answer (InPart part) chosen.codes c.send_choice.ensures.sends)

pub returns-clause-nearest : goal.returns-clause-nearest
returns-clause-nearest c =
    let choice = c.triangle_choice-choice.result in
    let part : Part = record { from = choice.from; to = choice.to; total = choice.total } in
    let chosen = choice_wanted (Triangle c.args.most) c.args.want choice.answer part c.ranges.want c.triangle_choice-choice.ensures.choice in
    subst (IsNearest (Triangle c.args.most) c.args.want) (sym c.send_choice.ensures.answer) chosen.nearest
