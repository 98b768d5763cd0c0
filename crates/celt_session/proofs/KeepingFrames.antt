-- Encoded frames are bytes, so that the streams of them keep the samples of their files.
use Rattle.std.proofs.Common.{◌≡◌, ℕ, ℤ, ◌^◌, ◌≤◌, List, length, None}
use Rattle.celt_base.specs.declared.kind.Kind.{Kind}
use Rattle.ogg_pages.specs.Spelling.{AreBytes}
use Rattle.celt_encode.proofs.ReadSteps.{frame_code_is}
use Rattle.celt_session.specs.declared.settings.Settings.{Settings}
use Rattle.celt_session.specs.EncodedFrames.{Footing, analysis_by, encoder_by, frame_by, encoded_frames}
use Rattle.celt_session.specs.Encodings.{AreSettings, row_of, audio_of, fault_of}
use Rattle.celt_session.specs.FrameFunctions.{state_before}
use Rattle.celt_session.specs.Keeping.{IsKept}
use Rattle.celt_session.proofs.KeepingFiles.{kept}

pub encoded_bytes : (s : Footing) (kind : Kind) (len : ℕ) (window : List ℤ) → 2 ≤ len → AreBytes (frame_by s kind len window)
unfolding frame_by
encoded_bytes s kind len window least = (frame_code_is (encoder_by s kind) (analysis_by s kind window) len least).code.bytes

pub encoding_kept : (settings : Settings) (bytes : List ℕ) → AreSettings settings → length bytes ≤ 2 ^ 40 → fault_of bytes ≡ None → IsKept encoded_frames settings bytes
encoding_kept settings bytes ok short none = kept encoded_frames settings bytes ok short none (λ channels t.
    let row = row_of encoded_frames (audio_of settings channels bytes) in
    encoded_bytes (state_before encoded_frames row t) row.kind settings.bytes (row.window t) ok.least)
