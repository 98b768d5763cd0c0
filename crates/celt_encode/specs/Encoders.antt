-- What an encoder stands for, and the encoded frame of an analysis.
use Rattle.std.specs.Prelude.{ℕ, Bool, true, false, not, ℤ, pos, List, [], Option, None}
use Rattle.celt_base.specs.declared.kind.Kind.{Kind}
use Rattle.celt_analysis.specs.Analyses.{Analysis}
use Rattle.celt_analysis.specs.Signals.{off}
use Rattle.celt_base.specs.Questions.{Answered}
use Rattle.celt_synth.specs.Readings.{share_by}
use Rattle.celt_synth.specs.Rows.{greater}
use Rattle.celt_synth.specs.Shared.{SharedState, shared_of}
use Rattle.celt_synth.specs.States.{start}
use Rattle.celt_encode.specs.Frames.{frame_of, kept_of, fell_of}
use Rattle.celt_encode.specs.Listening.{settled}
use Rattle.celt_encode.specs.Outsets.{Outset}

-- The kind of its frames; what it shares with its decoder after the last frame; whether it has made a frame; and the bits that
-- the last frame's choice told, where the frame had fewer.
pub record EncoderState : Type 0 where
  pub kind : Kind
  pub shared : SharedState
  pub made : Bool
  pub fell : Option ℕ

unfoldable pub new_encoder : Kind → EncoderState
new_encoder kind = record { kind = kind; shared = shared_of start; made = false; fell = None }

-- a frame of `len` bytes before its analysis
abbrev pub unheard : Kind → ℕ → Bool → List (List ℤ) → Outset
unheard kind len first energies = record {
  kind = kind;
  len = len;
  first = first;
  silent = false;
  transient = false;
  setting = off;
  spread = 0;
  dual = false;
  boosts = [];
  trim = pos 0;
  energies = energies;
  targets = [];
  units = [];
}

-- What is known of a frame before its first question, by its analysis, whether it is the first, and the energies before.
unfoldable pub outset_by : Kind → ℕ → Bool → List (List ℤ) → Analysis → Outset
outset_by kind len first energies a = settled (unheard kind len first energies) a

abbrev pub outset_for : EncoderState → Analysis → ℕ → Outset
outset_for e a len = outset_by e.kind len (not e.made) (greater e.kind.channels e.shared.energies) a

-- The encoded frame, and the answers that are kept.
unfoldable pub encoded : EncoderState → Analysis → ℕ → List ℕ
encoded e a len = frame_of (outset_for e a len)

unfoldable pub kept : EncoderState → Analysis → ℕ → List Answered
kept e a len = kept_of (outset_for e a len)

-- The encoder after a frame: what it shares is what its decoder has after the kept answers.
unfoldable pub after_frame : EncoderState → Analysis → ℕ → EncoderState
after_frame e a len = record {
  kind = e.kind;
  shared = share_by e.kind len (kept e a len) e.shared;
  made = true;
  fell = fell_of (outset_for e a len);
}
