use Rattle.std.proofs.Common.{w64, arith}
use Rattle.std.proofs.lemmas.Int.{to_z-of_z}
use Rattle.band_energy.proofs.RawSteps.{bits_asked, no_bits}
use Rattle.band_energy.proofs.fine_walk.ask_bits.Goals as goal

pub returns-then-bits-eq0-clause-walked : goal.returns-then-bits-eq0-clause-walked
returns-then-bits-eq0-clause-walked g c = no_bits c.args.band c.args.channel c.args.bits c.if-bits-eq0.true

pub returns-clause-walked : goal.returns-clause-walked
returns-clause-walked g c =
    rw (to_z-of_z w64 c.ask_at.result (record { sfits = c.ask_at.type_inv }))
    (bits_asked c.args.band c.args.channel c.args.bits (let ne = c.if-bits-eq0.false in omega (arith, ne)) c.ask_at.ensures.walked)
