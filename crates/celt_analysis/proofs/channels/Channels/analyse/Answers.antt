use Rattle.std.proofs.Common.{◌∙◌, ℕ, List}
use Rattle.std.specs.Prelude.{ℤ}
use Rattle.celt_analysis.specs.Analyses.{spectrum_in}
use Rattle.celt_analysis.specs.Signals.{channel_values, is_stereo}
use Rattle.celt_analysis.proofs.ChannelLemmas.{two_channels, transient_heard, spectrum_heard, if_stereo}
use Rattle.celt_analysis.proofs.channels.Channels.analyse.Goals as goal

pub returns-clause-transient : goal.returns-clause-transient
returns-clause-transient c =
    let kind = c.args.kind in
    let values : ℕ → List ℤ = channel_values kind c.args.settings.now c.args.window.now in
    c.is_transient-transient.ensures ∙ transient_heard kind values _ _ c.hear.ensures.left (λ e. c.hear.ensures.right (two_channels kind e))

pub returns-clause-left : goal.returns-clause-left
returns-clause-left c =
    let kind = c.args.kind in
    let values : ℕ → List ℤ = channel_values kind c.args.settings.now c.args.window.now in
    c.transform.ensures.left ∙ spectrum_heard kind values 0 c.is_transient-transient.result _ (returns-clause-transient c) c.hear.ensures.left

pub returns-clause-right : goal.returns-clause-right
returns-clause-right c =
    let kind = c.args.kind in
    let values : ℕ → List ℤ = channel_values kind c.args.settings.now c.args.window.now in
    c.transform.ensures.right ∙ if_stereo (is_stereo kind) _ (spectrum_in kind values 1) (λ e. spectrum_heard kind values 1 c.is_transient-transient.result _ (returns-clause-transient c) (c.hear.ensures.right (two_channels kind e)))
