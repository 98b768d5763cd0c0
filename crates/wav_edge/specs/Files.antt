-- What stands in a file by what was read of it: its header, the `fmt ` that is refused, and an end without samples.
use Rattle.std.specs.Prelude.{◌≡◌, ◌<◌, ◌^◌, ◌+◌, ◌⊎◌, ℕ, List, ◌++◌, length, Option, All}
use Rattle.std.specs.List.{flat_map}
use Rattle.byteorder.specs.Endian.{little_bytes}
use Rattle.wav_edge.specs.Fields.{format_letters, data_letters}
use Rattle.wav_edge.specs.Spellings.{Chunk, IsChunk, spelled, Opening, IsOpening, form_bytes, opening_bytes, IsDataSize, declared}

-- a header as it is written, with these channels and this size, whose samples begin at this place
pub record HasHeader (bytes : List ℕ) (channels : ℕ) (size : Option ℕ) (place : ℕ) : Type 0 where
  pub opening : Opening
  pub is_opening : IsOpening opening
  pub channels_are : opening.channels ≡ channels
  pub number : ℕ
  pub number_fits : number < 2 ^ 32
  pub number_whole : IsDataSize channels number
  pub size_is : size ≡ declared number
  pub more : List ℕ
  pub bytes_are : bytes ≡ opening_bytes opening ++ (data_letters ++ (little_bytes 4 number ++ more))
  pub place_is : place ≡ length (opening_bytes opening) + 8

-- the first `fmt `, at this place, with these four numbers in its fields
pub record HasFormat (bytes : List ℕ) (codec bits channels rate place : ℕ) : Type 0 where
  pub file_size : ℕ
  pub before : List Chunk
  pub passed : All (λ chunk. IsChunk chunk) before
  pub size : ℕ
  pub speed : ℕ
  pub group : ℕ
  pub rest : List ℕ
  pub bytes_are : bytes
      ≡ form_bytes file_size ++ (flat_map spelled before ++ (format_letters ++ (little_bytes 4 size
      ++ (little_bytes 2 codec ++ (little_bytes 2 channels ++ (little_bytes 4 rate ++ (little_bytes 4 speed ++ (little_bytes 2 group
      ++ (little_bytes 2 bits ++ rest)))))))))
  pub place_is : place ≡ 12 + length (flat_map spelled before)
  pub codec_fits : codec < 2 ^ 16
  pub channels_fit : channels < 2 ^ 16
  pub rate_fits : rate < 2 ^ 32
  pub bits_fit : bits < 2 ^ 16

-- the form and whole chunks, neither `fmt ` nor `data`
pub record IsBare (bytes : List ℕ) : Type 0 where
  pub file_size : ℕ
  pub chunks : List Chunk
  pub passed : All (λ chunk. IsChunk chunk) chunks
  pub bytes_are : bytes ≡ form_bytes file_size ++ flat_map spelled chunks

-- the form and whole chunks, one of them `fmt `
pub record IsOpened (bytes : List ℕ) : Type 0 where
  pub opening : Opening
  pub is_opening : IsOpening opening
  pub bytes_are : bytes ≡ opening_bytes opening

-- an end directly behind `WAVE` or a later chunk with its padding, where no `data` came
abbrev pub EndsWhole : List ℕ → Type 0
EndsWhole bytes = IsBare bytes ⊎ IsOpened bytes
