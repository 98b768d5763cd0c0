-- The form as it is written: what a program that makes a WAV file puts before the samples.
use Rattle.std.specs.Prelude.{◌≡◌, ◌<◌, ◌≤◌, ◌⊎◌, ◌^◌, ℕ, ◌*◌, ◌%◌, ◌==◌, false, if◌then◌else◌, List, [], ◌∷◌, ◌++◌, length, take, Option, Some, None, All}
use Rattle.std.specs.List.{flat_map}
use Rattle.byteorder.specs.Endian.{little_bytes}
use Rattle.wav_edge.specs.Fields.{fits, riff, wave, format_letters, data_letters}

-- a chunk of these letters and contents; after contents of odd length comes a byte of padding
abbrev pub chunk_bytes : List ℕ → List ℕ → ℕ → List ℕ
chunk_bytes letters contents padding =
    letters ++ (little_bytes 4 (length contents) ++ (contents ++ take (length contents % 2) (padding ∷ [])))

-- a chunk that readers pass over
pub record Chunk : Type 0 where
  pub letters : List ℕ
  pub contents : List ℕ
  pub padding : ℕ

unfoldable pub spelled : Chunk → List ℕ
spelled chunk = chunk_bytes chunk.letters chunk.contents chunk.padding

-- it has four letters that are neither `fmt ` nor `data`, and its size fits 32 bits
pub record IsChunk (chunk : Chunk) : Type 0 where
  pub four : length chunk.letters ≡ 4
  pub no_format : fits format_letters chunk.letters ≡ false
  pub no_data : fits data_letters chunk.letters ≡ false
  pub short : length chunk.contents < 2 ^ 32

-- the two ways to describe samples
pub data Description : Type 0 where
  -- codec 1: bytes a second, bytes a group of samples, and what follows the bits
  Plain : ℕ → ℕ → List ℕ → Description
  -- codec FFFE, with 1 as the sub-format: the same two numbers, the eight bytes between the bits and the
  -- sub-format, and what follows the sub-format
  Extensible : ℕ → ℕ → ℕ → List ℕ → Description

-- the contents of `fmt ` for 16 bits at 48 kHz
abbrev pub format_contents : ℕ → Description → List ℕ
format_contents channels (Plain speed group extra) =
    little_bytes 2 1 ++ (little_bytes 2 channels ++ (little_bytes 4 48000 ++ (little_bytes 4 speed ++ (little_bytes 2 group
    ++ (little_bytes 2 16 ++ extra)))))
format_contents channels (Extensible speed group other extra) =
    little_bytes 2 0xFFFE ++ (little_bytes 2 channels ++ (little_bytes 4 48000 ++ (little_bytes 4 speed ++ (little_bytes 2 group
    ++ (little_bytes 2 16 ++ (little_bytes 8 other ++ (little_bytes 2 1 ++ extra)))))))

-- an extensible `fmt ` has at least 40 bytes
abbrev pub IsLong : Description → Type 0
IsLong (Plain speed group extra) = Unit {0}
IsLong (Extensible speed group other extra) = 14 ≤ length extra

-- all that may stand before `data`, and may vary
pub record Opening : Type 0 where
  pub file_size : ℕ
  pub before : List Chunk
  pub channels : ℕ
  pub description : Description
  pub padding : ℕ
  pub after : List Chunk

pub record IsOpening (o : Opening) : Type 0 where
  pub before_passed : All (λ chunk. IsChunk chunk) o.before
  pub one_or_two : (o.channels ≡ 1) ⊎ (o.channels ≡ 2)
  pub long : IsLong o.description
  pub short : length (format_contents o.channels o.description) < 2 ^ 32
  pub after_passed : All (λ chunk. IsChunk chunk) o.after

-- the head of the form
abbrev pub form_bytes : ℕ → List ℕ
form_bytes file_size = riff ++ (little_bytes 4 file_size ++ wave)

-- the bytes up to the letters of `data`
unfoldable pub opening_bytes : Opening → List ℕ
opening_bytes o =
    form_bytes o.file_size ++ (flat_map spelled o.before
    ++ (chunk_bytes format_letters (format_contents o.channels o.description) o.padding ++ flat_map spelled o.after))

-- so many bytes are whole groups of samples, or "up to the end of the file"
abbrev pub IsDataSize : ℕ → ℕ → Type 0
IsDataSize channels size = (size ≡ 0xFFFFFFFF) ⊎ (size % (2 * channels) ≡ 0)

-- the size that is declared; the largest number stands for "up to the end of the file"
abbrev pub declared : ℕ → Option ℕ
declared size = if size == 0xFFFFFFFF then None else Some size

-- the header of a file that is written before its samples are known: both sizes are the largest number
unfoldable pub header : ℕ → List ℕ
header channels =
    riff ++ (little_bytes 4 0xFFFFFFFF ++ (wave
    ++ (format_letters ++ (little_bytes 4 16 ++ (little_bytes 2 1 ++ (little_bytes 2 channels ++ (little_bytes 4 48000
    ++ (little_bytes 4 (96000 * channels) ++ (little_bytes 2 (2 * channels) ++ (little_bytes 2 16
    ++ (data_letters ++ little_bytes 4 0xFFFFFFFF)))))))))))
