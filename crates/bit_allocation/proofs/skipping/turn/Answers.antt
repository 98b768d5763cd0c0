use Rattle.std.proofs.Common.{◌≡◌, ◌+◌, arith}
use Rattle.std.specs.Prelude.{max, get_or}
use Rattle.std.specs.Int.{w32, cast_signed as to_z}
use Rattle.std.proofs.lemmas.Int.{to_z_pos}
use Rattle.bit_allocation.specs.Amounts.{threshold_of, bit_each}
use Rattle.bit_allocation.proofs.SkipSteps.{enough_is, turn_unasked, turn_stays, turn_goes}
use Rattle.bit_allocation.proofs.skipping.turn.Goals as goal

pub returns-then-offer-enough-clause-walked : goal.returns-then-offer-enough-clause-walked
returns-then-offer-enough-clause-walked g c =
    let k = c.args.bands.now.request.kind in
    let e : c.max-enough.result ≡ max (threshold_of k c.args.band) (bit_each k + 8) =
    enough_is k c.args.band c.max-enough.result (get_or c.args.bands.now.thresholds c.args.band 0) c.each.result c.max-enough.ensures (c.args.bands.now.thresholds_are c.args.band c.requires.band) c.each.ensures.value in
    turn_unasked k c.args.band c.args.offer c.max-enough.result c.few.result e c.if-offer-enough.true c.few.ensures.value

pub returns-then-ask_bit-clause-walked : goal.returns-then-ask_bit-clause-walked
returns-then-ask_bit-clause-walked g c =
    let k = c.args.bands.now.request.kind in
    let e : c.max-enough.result ≡ max (threshold_of k c.args.band) (bit_each k + 8) =
    enough_is k c.args.band c.max-enough.result (get_or c.args.bands.now.thresholds c.args.band 0) c.each.result c.max-enough.ensures (c.args.bands.now.thresholds_are c.args.band c.requires.band) c.each.ensures.value in
    turn_stays k c.args.band c.args.offer c.max-enough.result e c.if-offer-enough.false (to_z w32 c.args.offer) (to_z_pos w32 c.args.offer (omega (arith, c.requires.offer))) c.ask_bit.result c.if-ask_bit.true c.ask_bit.ensures.walked

pub returns-clause-walked : goal.returns-clause-walked
returns-clause-walked g c =
    let k = c.args.bands.now.request.kind in
    let e : c.max-enough.result ≡ max (threshold_of k c.args.band) (bit_each k + 8) =
    enough_is k c.args.band c.max-enough.result (get_or c.args.bands.now.thresholds c.args.band 0) c.each.result c.max-enough.ensures (c.args.bands.now.thresholds_are c.args.band c.requires.band) c.each.ensures.value in
    turn_goes k c.args.band c.args.offer c.max-enough.result c.few-2.result e c.if-offer-enough.false c.few-2.ensures.value (to_z w32 c.args.offer) (to_z_pos w32 c.args.offer (omega (arith, c.requires.offer))) c.ask_bit.result c.if-ask_bit.false c.ask_bit.ensures.walked
