use Rattle.std.proofs.Common.{◌≡◌}
use Rattle.celt_synth.specs.States.{start}
use Rattle.celt_synth.proofs.StepLemmas.{off_is}
use Rattle.celt_synth.proofs.decoder.Decoder.restart.Goals as goal

pub returns : goal.returns
unfolding start
returns c =
    let b = off_is c.off-self-inside.result c.off-self-inside.ensures in
    let n = off_is c.off-self-inside-2.result c.off-self-inside-2.ensures in
    rw (← c.self.view_is)
    (λ k. record {
      channels = c.self.inside.channels;
      invert = c.self.inside.invert;
      state = record {
        energies = c.no_energies-self-inside.ensures.value k;
        older1 = c.least_energies-self-inside.ensures.value k;
        older2 = c.least_energies-self-inside-2.ensures.value k;
        seed = 0;
        range = 0;
        before = b k;
        now = n k;
        left = c.restart.ensures k;
        right = c.restart-2.ensures k;
      };
    })
