-- What the encoder as a maker of frames shows.
use Rattle.std.specs.Prelude.{◌≡◌, ℤ, Bool, List, is_some}
use Rattle.celt_encode.specs.Encoders.{after_frame}
use Rattle.celt_session.specs.EncodedFrames.{Footing, analysis_by, encoder_by, encoded_frames}
use Rattle.celt_cli.specs.declared.encoding_maker.EncodingMaker.{EncodingMaker}
use Rattle.celt_cli.specs.Makers.{Makers, gen_kind, gen_bytes}

-- what the encoder shares with its decoder, whether it made a frame, and the settings of the two frames before
pub record ShowsFooting (maker : EncodingMaker) (s : Footing) : Type 0 where
  pub shared : maker.encoder.shared ≡ s.shared
  pub made : maker.encoder.made ≡ s.made
  pub earlier : maker.earlier ≡ s.earlier
  pub last : maker.last ≡ s.last

-- the frame of a window does not hold the encoder's choice, and is the silent one
unfoldable pub is_replaced_by : Footing → List ℤ → Bool
is_replaced_by s window = is_some (after_frame (encoder_by s gen_kind) (analysis_by s gen_kind window) gen_bytes).fell

abbrev pub encoding_makers : Makers EncodingMaker
encoding_makers = record { function = encoded_frames; is_replaced = is_replaced_by; Shows = ShowsFooting }
