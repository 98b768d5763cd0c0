use Rattle.std.proofs.Common.{◌≡◌, ◌∙◌, ap, [], get_or}
use Rattle.celt_synth.specs.Blocks.{blocks_of}
use Rattle.celt_synth.proofs.ConcealmentLemmas.{spectrum_cut}
use Rattle.celt_synth.proofs.decoder.noise_spectra.Goals as goal

pub returns-clause-left : goal.returns-clause-left
returns-clause-left c =
    c.amplify_channel.ensures.value ∙ spectrum_cut (blocks_of c.args.kind) c.args.kind.end (get_or c.args.energies.now 0 []) _ _ c.fill_frame-state.ensures.left_is

pub returns-clause-right : goal.returns-clause-right
returns-clause-right c = λ two.
    c.amplify_channel-2.ensures.value ∙ spectrum_cut (blocks_of c.args.kind) c.args.kind.end (get_or c.args.energies.now 1 []) _ _ (c.fill_frame-state.ensures.right_is two)
