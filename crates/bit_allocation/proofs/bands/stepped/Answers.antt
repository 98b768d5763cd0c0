use Rattle.std.proofs.Common.{◌+◌, ◌*◌, ◌/◌, arith, refl}
use Rattle.std.specs.Prelude.{slice_index}
use Rattle.celt_base.proofs.Fronts.{front_none, front_more}
use Rattle.bit_allocation.proofs.bands.stepped.Goals as goal

pub loop-band-init : goal.loop-band-init
loop-band-init c = front_none 0 _ _ refl

pub loop-band-preserved : goal.loop-band-preserved
loop-band-preserved c =
    front_more 0 c.loop-band.amounts (λ k. slice_index c.args.rise.now.firsts k + c.args.step * slice_index c.args.rise.now.seconds k / 64) c.loop-band.band _
    (omega arith) refl c.loop-band.invariant

pub returns : goal.returns
returns c = λ k below. c.loop-band.invariant.done k (omega arith)
