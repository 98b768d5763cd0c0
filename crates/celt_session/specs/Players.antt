-- The decoders of a stream: one for one channel and one for two, of which the header's number of channels chooses.
use Rattle.std.specs.Prelude.{ℕ, nat_eq, if◌then◌else◌}
use Rattle.celt_session.specs.Samples.{FrameStep}

pub record Players (step : FrameStep) : Type 0 where
  pub mono : step.State
  pub stereo : step.State

abbrev pub player : {step : FrameStep} → ℕ → Players step → step.State
player channels p = if nat_eq channels 2 then p.stereo else p.mono

abbrev pub with_player : {step : FrameStep} → ℕ → Players step → step.State → Players step
with_player channels p s = if nat_eq channels 2 then (record { mono = p.mono; stereo = s }) else (record { mono = s; stereo = p.stereo })

-- the step of both: that of the one chosen, and the other stays
abbrev pub players_step : FrameStep → FrameStep
players_step step = record {
  State = Players step;
  start = record { mono = step.start; stereo = step.start };
  after = λ p target frame. with_player target.channels p (step.after (player target.channels p) target frame);
  samples = λ p target frame. step.samples (player target.channels p) target frame;
}
