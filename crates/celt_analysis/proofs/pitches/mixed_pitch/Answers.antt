use Rattle.std.proofs.Common.{refl, sym, ap, arith, ◌∙◌}
use Rattle.fixed_math.specs.Items.{item}
use Rattle.celt_analysis.specs.Pitch.{downmix}
use Rattle.celt_analysis.proofs.PitchLaws.{pitch_same}
use Rattle.celt_analysis.proofs.PitchLemmas.{downmix-two}
use Rattle.celt_analysis.proofs.pitches.mixed_pitch.Goals as goal

pub returns : goal.returns
returns c = pitch_same (item c.mix.new.out) (downmix 2 (item c.args.window.now)) c.args.n _ (λ i p. c.mix.ensures.items i (omega (arith, c.requires.room)) ∙ sym (ap (λ f. f i) (downmix-two 2 (item c.args.window.now) refl))) c.pitch_of.ensures
