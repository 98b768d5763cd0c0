-- The work of two encoders, one for each number of channels, of which one is at work.
use Rattle.std.specs.Prelude.{◌≡◌, ◌⊎◌, None, Some}
use Rattle.celt_base.specs.declared.kind.Kind.{Kind}
use Rattle.celt_session.specs.declared.encoder_pair.EncoderPair.{EncoderPair}
use Rattle.celt_session.specs.EncodedFrames.{Footing, encoded_frames}
use Rattle.celt_session.specs.EncoderWorks.{CanTurn, IsOn, Makes, Shows}
use Rattle.celt_session.specs.FrameWorks.{FrameWorks}

-- It made no frame: the encoder for two channels is at work, and the one for one channel can take its place.
pub record IsFresh (p : EncoderPair) (kind : Kind) : Type 0 where
  pub begun : p.begun ≡ None
  pub stereo : kind.channels ≡ 2 → Makes p.work kind
  pub mono : kind.channels ≡ 1 → CanTurn p.work p.mono kind

-- It made frames of this kind.
pub record HasBegun (p : EncoderPair) (kind : Kind) : Type 0 where
  pub begun : p.begun ≡ Some kind.channels
  pub work : Makes p.work kind

-- It makes frames of the kinds of both; once it made one, of its number of channels alone.
abbrev pub MakesEither : EncoderPair → Kind → Type 0
MakesEither p kind = IsFresh p kind ⊎ HasBegun p kind

-- The encoder at work stands there, and before the first frame the other too.
pub record ShowsEither (p : EncoderPair) (s : Footing) : Type 0 where
  pub work : Shows p.work s
  pub other : p.begun ≡ None → IsOn p.mono.kind p.mono s

abbrev pub pair_work : FrameWorks EncoderPair
pair_work = record { function = encoded_frames; Shows = ShowsEither; Makes = MakesEither }
