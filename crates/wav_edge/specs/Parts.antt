-- The parts of a RIFF WAVE file: the form's head (`RIFF`, a size that may be anything, `WAVE`), and after
-- it chunks: four letters, the size of the contents, the contents, and a byte of padding after an odd size.
-- Each test is made as soon as the bytes that it looks at are there.
use Rattle.std.specs.Prelude.{ℕ, ◌+◌, ◌*◌, ◌%◌, Bool, true, false, ◌&&◌, ◌||◌, ◌==◌, if◌then◌else◌, nat_lt, nat_le, List, length, take, drop, Some, None}
use Rattle.celt_base.specs.declared.status.FaultName.TheVariants.{BadRiff, UnsupportedFormat}
use Rattle.wav_edge.specs.declared.parts.Seen.{Seen}
use Rattle.wav_edge.specs.declared.parts.Seen.TheVariants.{Nothing, Form, Format}
use Rattle.wav_edge.specs.declared.parts.Part.{Part}
use Rattle.wav_edge.specs.declared.parts.Part.TheVariants.{More, Passed, Samples, Broken}
use Rattle.wav_edge.specs.Fields.{number_at, fits, riff, wave, format_letters, data_letters}

-- one or two channels at 48 kHz
unfoldable pub is_readable : ℕ → ℕ → Bool
is_readable channels rate = (channels == 1 || channels == 2) && rate == 48000

-- a format that was read is one that can be
abbrev pub can_follow : Seen → Bool
can_follow Nothing = true
can_follow Form = true
can_follow (Format channels rate) = is_readable channels rate

-- too few bytes of the part are there to tell
abbrev pub is_more : Part → Bool
is_more More = true
is_more (Passed seen length) = false
is_more (Samples channels rate size) = false
is_more (Broken fault) = false

-- what is found once n bytes of the part are there
abbrev pub once : ℕ → List ℕ → Part → Part
once n bytes found = if nat_le n (length bytes) then found else More

-- a field at this place that does not fit the form
abbrev pub bad_riff : ℕ → Part
bad_riff place = Broken (record { name = BadRiff; at = place })

-- the head of the form, with which the file begins
unfoldable pub form_part : List ℕ → Part
form_part bytes =
    if fits riff (take 4 bytes) then
    (if fits wave (take 4 (drop 8 bytes)) then once 12 bytes (Passed Form 12) else bad_riff 8)
    else bad_riff 0

-- the size of a chunk's contents
abbrev pub size_of : List ℕ → ℕ
size_of bytes = number_at 4 4 bytes

-- the length of a chunk: letters, size, contents and padding
abbrev pub chunk_length : List ℕ → ℕ
chunk_length bytes = 8 + size_of bytes + size_of bytes % 2

-- the head of `data` with this size, the largest of which stands for "up to the end of the input"
unfoldable pub sized : ℕ → ℕ → ℕ → ℕ → Part
sized channels rate at size =
    if size == 0xFFFFFFFF then Samples channels rate None
    else (if size % (2 * channels) == 0 then Samples channels rate (Some size) else bad_riff (at + 4))

-- the chunk `data` at this place: `fmt ` must have come before
unfoldable pub data_part : Seen → ℕ → List ℕ → Part
data_part Nothing at bytes = bad_riff at
data_part Form at bytes = bad_riff at
data_part (Format channels rate) at bytes = once 8 bytes (sized channels rate at (size_of bytes))

-- the fields of `fmt `, by their offsets in its contents, which begin behind eight bytes: codec at 0,
-- channels at 2, rate at 4, bits at 14 and, in an extensible format, the sub-format at 24; byte rate and
-- block size may be anything
abbrev pub codec_of : List ℕ → ℕ
codec_of bytes = number_at 2 8 bytes

abbrev pub channels_of : List ℕ → ℕ
channels_of bytes = number_at 2 10 bytes

abbrev pub rate_of : List ℕ → ℕ
rate_of bytes = number_at 4 12 bytes

abbrev pub bits_of : List ℕ → ℕ
bits_of bytes = number_at 2 22 bytes

abbrev pub sub_format_of : List ℕ → ℕ
sub_format_of bytes = number_at 2 32 bytes

-- PCM of 16 bits, in a number of channels and at a rate that can be read
unfoldable pub is_supported : ℕ → List ℕ → Bool
is_supported codec bytes =
    codec == 1 && bits_of bytes == 16 && is_readable (channels_of bytes) (rate_of bytes)

-- the format at this place is none that can be read
abbrev pub unsupported : ℕ → List ℕ → Part
unsupported at bytes = Broken (record {
  name = UnsupportedFormat (codec_of bytes) (bits_of bytes) (channels_of bytes) (rate_of bytes);
  at = at;
})

-- a format by its codec or, where it is extensible, its sub-format
unfoldable pub described : ℕ → ℕ → List ℕ → Part
described codec at bytes =
    if is_supported codec bytes then Passed (Format (channels_of bytes) (rate_of bytes)) (chunk_length bytes)
    else unsupported at bytes

-- the contents of `fmt `: codec FFFE is an extensible format
unfoldable pub coded : ℕ → List ℕ → Part
coded at bytes =
    if codec_of bytes == 0xFFFE then
    (if nat_lt (size_of bytes) 40 then bad_riff (at + 4)
    else once 34 bytes (described (sub_format_of bytes) at bytes))
    else once 24 bytes (described (codec_of bytes) at bytes)

-- the chunk `fmt ` at this place: it must be the first one
unfoldable pub format_part : Seen → ℕ → List ℕ → Part
format_part Nothing at bytes = bad_riff at
format_part Form at bytes =
    once 8 bytes (
    if nat_lt (size_of bytes) 16 then bad_riff (at + 4)
    else once 10 bytes (coded at bytes))
format_part (Format channels rate) at bytes = bad_riff at

-- the chunk at this place; one that is neither `fmt ` nor `data` is passed over
unfoldable pub chunk_part : Seen → ℕ → List ℕ → Part
chunk_part seen at bytes =
    once 4 bytes (
    if fits data_letters (take 4 bytes) then data_part seen at bytes
    else (if fits format_letters (take 4 bytes) then format_part seen at bytes
    else once 8 bytes (Passed seen (chunk_length bytes))))

-- the part that begins at this place, with these bytes and those that follow
unfoldable pub part_at : Seen → ℕ → List ℕ → Part
part_at Nothing at bytes = form_part bytes
part_at Form at bytes = chunk_part Form at bytes
part_at (Format channels rate) at bytes = chunk_part (Format channels rate) at bytes
