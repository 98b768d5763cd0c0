use Rattle.celt_base.proofs.WalkSteps.{one_bit}
use Rattle.celt_base.proofs.WalkValues.{is_one_test}
use Rattle.celt_base.proofs.walk.ask_bit.Goals as goal

pub returns-clause-walked : goal.returns-clause-walked
returns-clause-walked g c =
    rw (is_one_test c.ask_at.result (record { sfits = c.ask_at.type_inv }))
    (one_bit c.args.at c.args.p c.ask_at.ensures.walked)
