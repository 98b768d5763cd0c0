-- The frames of an encoder.
use Rattle.std.proofs.Common.{◌≡◌, ℕ, ◌≤◌, arith, List, ℤ}
use Rattle.std.specs.Prelude.{min, max}
use Rattle.celt_base.specs.declared.kind.Kind.{Kind}
use Rattle.celt_base.specs.declared.state.Setting.{Setting}
use Rattle.fixed_math.specs.Items.{item}
use Rattle.celt_analysis.specs.Pitch.{IsPitch, IsPitchOf, downmix}
use Rattle.celt_analysis.specs.Signals.{frame_size}
use Rattle.celt_synth.proofs.StepLemmas.{setting_same}
use Rattle.celt_session.specs.EncodedFrames.{pitch_in, pitch_of}

period_kept : (p q : ℕ) → p ≡ q → 15 ≤ p → p ≤ 1022 → p ≡ max 15 (min 1022 q)
period_kept p q e l h = omega (arith, e, l, h)

gain_kept : (p q : ℕ) → p ≡ q → p ≤ 24576 → p ≡ min 24576 q
gain_kept p q e h = omega (arith, e, h)

pitch_in_is : (s : ℕ → ℤ) (f n : ℕ) (r : Setting) → IsPitch s f n r → r ≡ pitch_in s f n
unfolding pitch_in
pitch_in_is s f n r p =
    setting_same r (pitch_in s f n) (period_kept r.period _ p.period r.least_period r.most_period) (gain_kept r.gain _ p.gain r.most_gain) p.tapset

-- the pitch of a window is the one that is computed
pub pitch_is : (kind : Kind) (window : List ℤ) (r : Setting) → IsPitchOf kind.channels kind.lm (item window) r → r ≡ pitch_of kind window
unfolding pitch_of
pitch_is kind window r p = pitch_in_is (downmix kind.channels (item window)) 1022 (frame_size kind) r p
