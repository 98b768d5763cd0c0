-- The two works on pages: samples and lines.
use Rattle.std.specs.Prelude.{◌≡◌, ◌⊎◌, nat_eq, true, false, ℕ, ◌+◌, ◌/◌, max, List, Option, Result}
use Rattle.std.proofs.Common.{inl, inr}
use Rattle.celt_base.specs.declared.outside.Failed.{Failed}
use Rattle.celt_session.specs.declared.samples.Samples.{Samples}
use Rattle.celt_session.specs.declared.lines.Lines.{Lines}
use Rattle.celt_session.specs.declared.work.PageWork.{PageWork}
use Rattle.celt_session.specs.declared.work.PageWork.TheVariants as works
use Rattle.celt_synth.specs.Decoders.{with_state}
use Rattle.opus_stream.specs.declared.answers.Span.{Span}
use Rattle.celt_session.specs.declared.playing.Playing.{Playing}
use Rattle.celt_session.specs.Playing.{Plays, target_for}
use Rattle.celt_session.specs.Works.{Works}
use Rattle.celt_session.specs.Frames.{Frame}
use Rattle.celt_session.specs.Decoding.{samples, lines, decoding_function}

pub record ShowsSamples (w : Samples) (s : samples.State) : Type 0 where
  pub pages : w.pages ≡ s.pages
  pub awaits_header : w.awaits_header ≡ s.awaits_header
  pub mono : w.mono ≡ record { channels = 1; invert = s.invert; state = s.decoder.mono }
  pub stereo : w.stereo ≡ record { channels = 2; invert = s.invert; state = s.decoder.stereo }

-- frames were played with the decoder for these channels
pub record PlaysChosen (w : Samples) (p : Playing) (frames : List Frame) (now : Samples) (old new : Option (List ℕ)) (r : Result Span Failed) : Type 0 where
  pub stereo : nat_eq p.channels 2 ≡ true → (now.mono ≡ w.mono) × (now.stereo ≡ with_state w.stereo now.stereo.state) × Plays w.stereo (target_for w.stereo p) frames p.span now.stereo old new r
  pub mono : nat_eq p.channels 2 ≡ false → (now.stereo ≡ w.stereo) × (now.mono ≡ with_state w.mono now.mono.state) × Plays w.mono (target_for w.mono p) frames p.span now.mono old new r

abbrev pub samples_work : Works Samples
samples_work = record { function = samples; Shows = ShowsSamples; count = λ w. w.pages }

pub record ShowsLines (w : Lines) (s : lines.State) : Type 0 where
  pub pages : w.pages ≡ s.pages
  pub frames : w.frames ≡ s.frames

-- a page has at most 255 packets of at most 48 frames
abbrev pub pages_of : Lines → ℕ
pages_of w = max w.pages ((w.frames + 12239) / 12240)

abbrev pub lines_work : Works Lines
lines_work = record { function = lines; Shows = ShowsLines; count = pages_of }

-- ---- ONE OF THE TWO

abbrev pub ShowsPages : PageWork → samples.State ⊎ lines.State → Type 0
ShowsPages (works.Samples w) (inl s) = ShowsSamples w s
ShowsPages (works.Samples w) (inr s) = ⊥
ShowsPages (works.Lines w) (inl s) = ⊥
ShowsPages (works.Lines w) (inr s) = ShowsLines w s

-- how many pages it worked on, at most
abbrev pub pages_in : PageWork → ℕ
pages_in (works.Samples w) = w.pages
pages_in (works.Lines w) = pages_of w

abbrev pub page_work : Works PageWork
page_work = record { function = decoding_function; Shows = ShowsPages; count = pages_in }
