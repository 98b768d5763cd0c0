use Rattle.std.proofs.Common.{◌≡◌, ◌∙◌, ap, if◌then◌else◌, nat_eq}
use Rattle.celt_synth.specs.Decoders.{state_ended, with_state}
use Rattle.celt_synth.proofs.decoder.Decoder.end.Goals as goal

pub returns : goal.returns
unfolding state_ended
returns c =
    let e = c.keep_rows.ensures.energies in
    let f = c.keep_rows.ensures.first in
    let g = c.keep_rows.ensures.second in
    let s = c.setting_before-self-inside.ensures in
    rw (← c.self.view_is)
    (λ k. record {
      channels = c.self.inside.channels;
      invert = c.self.inside.invert;
      state = record {
        energies = e k;
        older1 = f k;
        older2 = g k;
        seed = c.args.ending.seed;
        range = c.args.ending.range;
        before = s k;
        now = c.args.ending.setting;
        left = c.self.inside.buffers.left;
        right = c.self.inside.buffers.right;
      };
    })
