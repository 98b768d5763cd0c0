-- The line of `gen`: samples of a seed are made into frames, the frames are decoded, and what comes out is counted.
use Rattle.std.specs.Prelude.{ℕ, ℤ, zero, suc, pos, ◌/◌, Bool, true, List, [], ◌∷◌, ◌++◌, length, map, codes, Option, None, false}
use Rattle.std.specs.List.{count_by, range_with_len}
use Rattle.std.specs.Fmt.{decimal}
use Rattle.std.specs.Io.KnownBytes.{Appends, Keeps}
use Rattle.celt_base.specs.Outside.{AppendsFront}
use Rattle.celt_base.specs.declared.status.Status.{Status}
use Rattle.celt_base.specs.declared.status.Status.TheVariants as statuses
use Rattle.frame_symbols.specs.Readings.{range_of}
use Rattle.celt_synth.specs.States.{start}
use Rattle.celt_session.specs.Frames.{Frame, framed}
use Rattle.celt_session.specs.FrameFunctions.{FrameFunction, Row, state_before, frame_at, frames_from}
use Rattle.celt_session.specs.Outcomes.{Meaning}
use Rattle.celt_session.specs.Playing.{decoder_step}
use Rattle.celt_session.specs.Samples.{Target, samples_of}
use Rattle.celt_session.specs.Texts.{hex_digits}
use Rattle.celt_cli.specs.declared.generator.GenSettings.{GenSettings}
use Rattle.celt_cli.specs.declared.report.GenReport.{GenReport}
use Rattle.celt_cli.specs.GenSignals.{window_for}
use Rattle.celt_cli.specs.GenSums.{coming_out, sum_of}
use Rattle.celt_cli.specs.Makers.{Makers, gen_kind, gen_bytes}
use Rattle.celt_cli.specs.Notes.{labelled_of}

-- ---- WHAT IS MADE

abbrev pub row_for : (f : FrameFunction) → GenSettings → Row f
row_for f settings = record { kind = gen_kind; from = f.start; window = window_for settings; bytes = λ t. gen_bytes }

-- the first frames
abbrev pub frames_for : (f : FrameFunction) → GenSettings → ℕ → List Frame
frames_for f settings count = map (framed gen_kind) (frames_from (frame_at f (row_for f settings)) 0 count)

-- whether frame t is the silent one in place of one that did not fit, and how many of the first frames are
abbrev pub is_replaced_at : {M : Type 0} (m : Makers M) → GenSettings → ℕ → Bool
is_replaced_at m settings t = m.is_replaced (state_before m.function (row_for m.function settings) t) (window_for settings t)

unfoldable pub replaced_among : {M : Type 0} (m : Makers M) → GenSettings → ℕ → ℕ
replaced_among m settings count = count_by (λ b. b) (map (is_replaced_at m settings) (range_with_len 0 count))

-- ---- WHAT IS HEARD

-- two channels, no gain, with phase inversion
abbrev pub gen_target : Target
gen_target = record { channels = 2; gain = pos 0; invert = true }

-- the samples of the first frames, and the final range of the last of them
unfoldable pub decoded : (f : FrameFunction) → GenSettings → ℕ → List ℤ
decoded f settings count = samples_of decoder_step start gen_target (frames_for f settings count)

unfoldable pub last_range : (f : FrameFunction) → GenSettings → ℕ → ℕ
last_range f settings zero = 0
last_range f settings (suc t) = range_of gen_kind (frame_at f (row_for f settings) t)

-- ---- THE LINE

abbrev pub hexed_of : List ℕ → ℕ → List ℕ
hexed_of label number = codes " " ++ (label ++ (codes " " ++ hex_digits 8 number))

unfoldable pub line_of : GenReport → List ℕ
line_of r =
    (codes "frames " ++ decimal r.frames ++ (labelled_of (codes "samples") r.samples ++ labelled_of (codes "silent") r.silent))
    ++ ((hexed_of (codes "range") r.range ++ hexed_of (codes "sum") r.sum) ++ 10 ∷ [])

-- how many frames were made, how many pairs come out, how many frames were replaced, the last final range, and the sum
abbrev pub report_of : {M : Type 0} (m : Makers M) → GenSettings → GenReport
report_of m settings = record {
  frames = settings.frames;
  samples = length (coming_out (decoded m.function settings settings.frames)) / 2;
  silent = replaced_among m settings settings.frames;
  range = last_range m.function settings settings.frames;
  sum = sum_of (coming_out (decoded m.function settings settings.frames));
}

unfoldable pub gen_line : {M : Type 0} (m : Makers M) → GenSettings → List ℕ
gen_line m settings = line_of (report_of m settings)

-- the line was added, or a front of it where that failed
abbrev pub AddsLine : List ℕ → Option (List ℕ) → Option (List ℕ) → Status → Type 0
AddsLine line old new statuses.Done = Appends old new line
AddsLine line old new statuses.WriteFault = AppendsFront old new line
AddsLine line old new statuses.NoMemory = Keeps old new
AddsLine line old new (statuses.Refused fault) = ⊥
AddsLine line old new statuses.Usage = ⊥
AddsLine line old new statuses.ReadFault = ⊥
AddsLine line old new statuses.InputTooLong = ⊥

-- what `gen` makes, which reads nothing and has no fault
abbrev pub generating : {M : Type 0} (m : Makers M) → GenSettings → Meaning
generating m settings = record { full = λ bytes. gen_line m settings; running = λ bytes. gen_line m settings; fault_of = λ bytes. None; is_end = λ name. false }
