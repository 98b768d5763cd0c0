use Rattle.std.proofs.Common.{arith, subst, ◌≡◌}
use Rattle.celt_synth.specs.Concealment.{AreNoise}
use Rattle.celt_synth.proofs.ConcealmentLemmas.{noise_none}
use Rattle.celt_synth.proofs.concealment.fill_frame.Goals as goal

pub loop-band-init : goal.loop-band-init
loop-band-init c = noise_none c.args.kind c.args.seed c.args.left.now c.args.right.now c.requires.left_items c.requires.right_items

pub loop-band-preserved : goal.loop-band-preserved
loop-band-preserved c = c.fill_both.ensures c.args.seed c.loop-band.invariant
