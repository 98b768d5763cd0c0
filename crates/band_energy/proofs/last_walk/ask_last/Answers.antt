use Rattle.std.proofs.Common.{w64}
use Rattle.std.proofs.lemmas.Int.{to_z-of_z}
use Rattle.band_energy.proofs.RawSteps.{last_asked, last_unasked}
use Rattle.band_energy.proofs.last_walk.ask_last.Goals as goal

pub returns-then-not-reached-clause-walked : goal.returns-then-not-reached-clause-walked
returns-then-not-reached-clause-walked g c = last_unasked c.args.band c.args.channel c.args.reached c.if-not-reached.true

pub returns-clause-walked : goal.returns-clause-walked
returns-clause-walked g c =
    rw (to_z-of_z w64 c.ask_at-bit.result (record { sfits = c.ask_at-bit.type_inv }))
    (last_asked c.args.band c.args.channel c.args.reached c.if-not-reached.false c.ask_at-bit.ensures.walked)
