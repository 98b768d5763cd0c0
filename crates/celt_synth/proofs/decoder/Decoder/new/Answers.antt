use Rattle.std.proofs.Common.{◌≡◌}
use Rattle.celt_synth.specs.States.{quiet, start}
use Rattle.celt_synth.proofs.StepLemmas.{off_is}
use Rattle.celt_synth.proofs.decoder.Decoder.new.Goals as goal

pub returns : goal.returns
unfolding start
returns c =
    let l : c.in-Ok.left ≡ quiet = c.in-Ok.ensures in
    let r : c.in-Ok-new.right ≡ quiet = c.in-Ok-new.ensures in
    let b = off_is c.off.result c.off.ensures in
    let n = off_is c.off-2.result c.off-2.ensures in
    λ k. record {
      channels = c.args.channels;
      invert = c.args.invert;
      state = record {
        energies = c.no_energies.ensures.value k;
        older1 = c.least_energies.ensures.value k;
        older2 = c.least_energies-2.ensures.value k;
        seed = 0;
        range = 0;
        before = b k;
        now = n k;
        left = l k;
        right = r k;
      };
    }
