use Rattle.std.proofs.Common.{w64}
use Rattle.std.proofs.lemmas.Int.{to_z-of_z}
use Rattle.celt_base.proofs.WalkSteps.{one_value}
use Rattle.celt_base.proofs.walk.ask_value_at.Goals as goal

pub returns-clause-walked : goal.returns-clause-walked
returns-clause-walked g c =
    let answer = to_z-of_z w64 c.ask_at-answer.result (record { sfits = c.ask_at-answer.type_inv }) in
    let value = to_z-of_z w64 c.told_number.result (record { sfits = c.told_number.type_inv }) in
    rw (value, c.told_number.ensures, answer) (one_value c.args.at c.args.question c.ask_at-answer.ensures.walked)
