use Rattle.std.proofs.Common.{w64, subst, ◌∙◌, ap}
use Rattle.std.proofs.lemmas.Int.{to_z-of_z}
use Rattle.celt_base.specs.WalkCalls.{meant, heard}
use Rattle.celt_base.proofs.WalkSteps.{one_answer}
use Rattle.celt_base.proofs.walk.ask_at.Goals as goal

pub returns-clause-walked : goal.returns-clause-walked
returns-clause-walked g c =
    let wanted = to_z-of_z w64 c.want-wanted.result (record { sfits = c.want-wanted.type_inv }) in
    let passed = to_z-of_z w64 c.meant_answer.result (record { sfits = c.meant_answer.type_inv }) in
    let answer = to_z-of_z w64 c.ask-answer.result (record { sfits = c.ask-answer.type_inv }) in
    let number = to_z-of_z w64 c.told_number.result (record { sfits = c.told_number.type_inv }) in
    rw answer
    (one_answer c.args.at c.args.question c.requires.valid c.ask-answer.ensures.is_answer c.ask-answer.ensures.pace c.ask-answer.ensures.count
    (record {
      wanted = c.want-wanted.result;
      between = c.want-wanted.new.self;
      wants = c.want-wanted.ensures;
      asks =
          subst (λ z. g.C.Coder.calls.Asks c.args.coder.now c.args.question z c.ask-answer.result c.ask-answer.new.self)
          (passed ∙ c.meant_answer.ensures ∙ ap (meant c.args.at c.args.question) wanted)
          c.ask-answer.ensures.asks;
      told =
          subst (λ z. g.H.Chooser.calls.Told c.want-wanted.new.self c.args.at z c.told.new.self)
          (number ∙ c.told_number.ensures ∙ ap (heard c.args.at c.args.question) answer)
          c.told.ensures;
    }))
