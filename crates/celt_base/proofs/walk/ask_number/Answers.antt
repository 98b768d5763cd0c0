use Rattle.std.proofs.Common.{w64}
use Rattle.std.proofs.lemmas.Int.{to_z-of_z}
use Rattle.celt_base.proofs.AskSteps.{number_asked}
use Rattle.celt_base.proofs.walk.ask_number.Goals as goal

pub returns-clause-walked : goal.returns-clause-walked
returns-clause-walked g c =
    rw (to_z-of_z w64 c.ask_at.result (record { sfits = c.ask_at.type_inv })) (number_asked c.args.at c.args.question c.ask_at.ensures.walked)
