-- The form as it is written is read as what was meant.
use Rattle.std.proofs.Common.{◌≡◌, ◌≢◌, ◌⊎◌, inl, inr, true, false, Some, None, if◌then◌else◌, nat_lt, All, ◌-◌, take, drop, length-append, ℕ, suc, ◌+◌, ◌*◌, ◌/◌, ◌%◌, ◌^◌, ◌<◌, ◌≤◌, List, [], ◌∷◌, ◌++◌, length, get_or, refl, sym, ap, ◌∙◌, arith}
use Rattle.byteorder.specs.Endian.{little_bytes}
use Rattle.byteorder.specs.Endian.{little_number}
use Rattle.std.specs.List.{flat_map}
use Rattle.std.proofs.lemmas.Bool.Decides.{nat_tests}
use Rattle.byteorder.specs.Numbers.{little_number-reads_back, length-bytes_low_first}
use Rattle.std.proofs.Math.Seq.{drop-append_seam, take-append_seam}
use Rattle.std.proofs.lemmas.List.{length-take-le, append_assoc, append-nil}
use Rattle.celt_base.specs.declared.status.FaultName.TheVariants.{BadRiff, NoData}
use Rattle.wav_edge.specs.declared.parts.Seen.{Seen}
use Rattle.wav_edge.specs.declared.parts.Seen.TheVariants.{Nothing, Form, Format}
use Rattle.wav_edge.specs.declared.parts.Part.{Part}
use Rattle.wav_edge.specs.declared.parts.Part.TheVariants.{Passed, Samples}
use Rattle.wav_edge.specs.Fields.{number_at, fits, riff, wave, format_letters, data_letters}
use Rattle.wav_edge.specs.Parts.{is_readable, is_supported, once, bad_riff, form_part, described, coded, format_part, data_part, sized, size_of, chunk_length, chunk_part, part_at}
use Rattle.wav_edge.specs.Reading.{Outcome, is_between, read, broken_at, outcome, fault_at_end, end_fault}
use Rattle.wav_edge.specs.Reading.Outcome.{Started}
use Rattle.wav_edge.specs.Spellings.{chunk_bytes, Chunk, IsChunk, spelled, Description, format_contents, IsLong, Opening, IsOpening, form_bytes, opening_bytes, IsDataSize, declared, header}
use Rattle.wav_edge.specs.Spellings.Description.{Plain, Extensible}
use Rattle.wav_edge.proofs.FieldLemmas.{number_at-drop}
use Rattle.wav_edge.proofs.PartLemmas.{once_there}
use Rattle.wav_edge.proofs.ReadLemmas.{read_passed, read_samples, read_broken}

-- the header byte by byte
pub header_bytes : (channels : ℕ) (s g : List ℕ) → channels < 256 → s ≡ little_bytes 4 (96000 * channels) → g ≡ little_bytes 2 (2 * channels) →
    82 ∷ 73 ∷ 70 ∷ 70 ∷ 255 ∷ 255 ∷ 255 ∷ 255 ∷ 87 ∷ 65 ∷ 86 ∷ 69 ∷ 102 ∷ 109 ∷ 116 ∷ 32 ∷ 16 ∷ 0 ∷ 0 ∷ 0 ∷ 1 ∷ 0 ∷ channels ∷ 0 ∷ 128 ∷ 187 ∷ 0 ∷ 0
    ∷ get_or s 0 0 ∷ get_or s 1 0 ∷ get_or s 2 0 ∷ get_or s 3 0 ∷ get_or g 0 0 ∷ get_or g 1 0 ∷ 16 ∷ 0 ∷ 100 ∷ 97 ∷ 116 ∷ 97 ∷ 255 ∷ 255 ∷ 255 ∷ 255 ∷ [] ≡ header channels
unfolding header
header_bytes channels s g h es eg =
    let low : channels % 256 ≡ channels = omega arith in
    let high : channels / 256 % 256 ≡ 0 = omega arith in
    rw (es, eg, low, high) refl

-- a number that stands behind k bytes
number_at_field : (n k x : ℕ) (xs rest : List ℕ) → length xs ≡ k → x < 256 ^ n → number_at n k (xs ++ (little_bytes n x ++ rest)) ≡ x
number_at_field n k x xs rest e h =
    sym (number_at-drop n k (xs ++ (little_bytes n x ++ rest)))
    ∙ ap (λ (i : ℕ). little_number n (drop i (xs ++ (little_bytes n x ++ rest)))) (sym e)
    ∙ ap (little_number n) (drop-append_seam xs (little_bytes n x ++ rest)) ∙ little_number-reads_back n x rest h

first_four : (letters rest : List ℕ) → length letters ≡ 4 → take 4 (letters ++ rest) ≡ letters
first_four letters rest e = ap (λ (i : ℕ). take i (letters ++ rest)) (sym e) ∙ take-append_seam letters rest

-- the length of a chunk
pub chunk_bytes_length : (letters contents : List ℕ) (padding : ℕ) → length letters ≡ 4 →
    length (chunk_bytes letters contents padding) ≡ 8 + length contents + length contents % 2
chunk_bytes_length letters contents padding e =
    let n = length contents in
    let pad : length (take (n % 2) (padding ∷ [])) ≡ n % 2 = length-take-le (n % 2) (padding ∷ []) (omega arith) in
    omega (
      arith,
      length-append letters (little_bytes 4 n ++ (contents ++ take (n % 2) (padding ∷ []))),
      length-append (little_bytes 4 n) (contents ++ take (n % 2) (padding ∷ [])),
      length-append contents (take (n % 2) (padding ∷ [])),
      length-bytes_low_first 0 4 n,
      pad,
      e,
    )

-- a chunk that is passed over
chunk_passed : (letters contents : List ℕ) (padding : ℕ) (seen : Seen) (at : ℕ) → length letters ≡ 4 → fits data_letters letters ≡ false → fits format_letters letters ≡ false →
    length contents < 2 ^ 32 → chunk_part seen at (chunk_bytes letters contents padding) ≡ Passed seen (length (chunk_bytes letters contents padding))
unfolding chunk_part
chunk_passed letters contents padding seen at four no_data no_format short =
    let bytes = chunk_bytes letters contents padding in
    let len = chunk_bytes_length letters contents padding four in
    let size : size_of bytes ≡ length contents = number_at_field 4 4 (length contents) letters (contents ++ take (length contents % 2) (padding ∷ [])) four (omega arith) in
    let word : take 4 bytes ≡ letters = first_four letters _ four in
    once_there 4 bytes _ (omega (arith, len)) ∙ (rw (word, no_data, no_format) (once_there 8 bytes (Passed seen (chunk_length bytes)) (omega (arith, len))))
    ∙ ap (λ (n : ℕ). Passed seen (8 + n + n % 2)) size ∙ ap (Passed seen) (sym len)

-- a part that is passed over as a whole
pub passed_whole : (bytes more : List ℕ) (seen after : Seen) (at : ℕ) → part_at seen at bytes ≡ Passed after (length bytes) → 0 < length bytes →
    read (bytes ++ more) 0 seen at ≡ read more 0 after (at + length bytes)
passed_whole bytes more seen after at e some =
    let none : length bytes - length bytes ≡ 0 = omega arith in
    read_passed bytes more seen after at (length bytes) e some (omega arith) ∙ ap (λ (left : ℕ). read more left after (at + length bytes)) none

-- chunks that are passed over, after the form's head
pub part_of_chunk : (seen : Seen) (at : ℕ) (bytes : List ℕ) → is_between 0 seen ≡ true → part_at seen at bytes ≡ chunk_part seen at bytes
unfolding part_at
part_of_chunk Nothing at bytes h = cc
part_of_chunk Form at bytes h = refl
part_of_chunk (Format channels rate) at bytes h = refl

pub other_read : (chunk : Chunk) (more : List ℕ) (seen : Seen) (at : ℕ) → IsChunk chunk → is_between 0 seen ≡ true →
    read (spelled chunk ++ more) 0 seen at ≡ read more 0 seen (at + length (spelled chunk))
unfolding spelled
other_read chunk more seen at is between =
    passed_whole (spelled chunk) more seen seen at
    (part_of_chunk seen at (spelled chunk) between ∙ chunk_passed chunk.letters chunk.contents chunk.padding seen at is.four is.no_data is.no_format is.short)
    (omega (arith, chunk_bytes_length chunk.letters chunk.contents chunk.padding is.four))

pub others_read : (chunks : List Chunk) (more : List ℕ) (seen : Seen) (at : ℕ) → All (λ chunk. IsChunk chunk) chunks → is_between 0 seen ≡ true →
    read (flat_map spelled chunks ++ more) 0 seen at ≡ read more 0 seen (at + length (flat_map spelled chunks))
others_read [] more seen at all between = ap (read more 0 seen) (omega arith)
others_read (chunk ∷ chunks) more seen at all between =
    let rest = flat_map spelled chunks in
    ap (λ (bytes : List ℕ). read bytes 0 seen at) (append_assoc (spelled chunk) rest more)
    ∙ other_read chunk (rest ++ more) seen at (all 0 chunk (omega arith)) between
    ∙ others_read chunks more seen (at + length (spelled chunk)) (λ k d h. all (suc k) d (omega arith)) between
    ∙ ap (read more 0 seen) (omega (arith, length-append (spelled chunk) rest))

-- the fields of `fmt `
described_passed : (channels at : ℕ) (bytes : List ℕ) → number_at 2 22 bytes ≡ 16 → number_at 2 10 bytes ≡ channels → number_at 4 12 bytes ≡ 48000 →
    is_readable channels 48000 ≡ true → described 1 at bytes ≡ Passed (Format channels 48000) (chunk_length bytes)
unfolding described is_supported
described_passed channels at bytes bits some rate readable = rw (bits, some, rate, readable) refl

format_passed : (at : ℕ) (bytes : List ℕ) (passed : Part) → take 4 bytes ≡ format_letters → 24 ≤ length bytes → 16 ≤ size_of bytes → coded at bytes ≡ passed → part_at Form at bytes ≡ passed
unfolding part_at chunk_part format_part fits
format_passed at bytes passed letters there large e =
    let fits_size : nat_lt (size_of bytes) 16 ≡ false = grind (arith, nat_tests) in
    let measured : (if nat_lt (size_of bytes) 16 then bad_riff (at + 4) else once 10 bytes (coded at bytes)) ≡ coded at bytes =
    rw fits_size (once_there 10 bytes (coded at bytes) (omega arith)) in
    let headed : format_part Form at bytes ≡ coded at bytes =
    once_there 8 bytes (if nat_lt (size_of bytes) 16 then bad_riff (at + 4) else once 10 bytes (coded at bytes)) (omega arith) ∙ measured in
    let found = if fits data_letters (take 4 bytes) then data_part Form at bytes
    else (if fits format_letters (take 4 bytes) then format_part Form at bytes else once 8 bytes (Passed Form (chunk_length bytes))) in
    let lettered : found ≡ format_part Form at bytes = rw letters refl in
    once_there 4 bytes found (omega arith) ∙ lettered ∙ headed ∙ e

-- a plain format: the head of the chunk, with any bytes as its size, and the contents
abbrev plain_bytes : (a b c d channels speed group : ℕ) (tail : List ℕ) → List ℕ
plain_bytes a b c d channels speed group tail =
    format_letters ++ (a ∷ b ∷ c ∷ d ∷ (little_bytes 2 1 ++ (little_bytes 2 channels ++ (little_bytes 4 48000 ++ (little_bytes 4 speed ++ (little_bytes 2 group ++ (little_bytes 2 16 ++ tail)))))))

plain_coded : (a b c d channels speed group at : ℕ) (tail : List ℕ) → channels < 256 → is_readable channels 48000 ≡ true →
    coded at (plain_bytes a b c d channels speed group tail) ≡ Passed (Format channels 48000) (chunk_length (plain_bytes a b c d channels speed group tail))
unfolding coded number_at
plain_coded a b c d channels speed group at tail small readable =
    let bytes = plain_bytes a b c d channels speed group tail in
    let some : number_at 2 10 bytes ≡ channels = omega arith in
    let there : 24 ≤ length bytes = omega arith in
    once_there 24 bytes (described 1 at bytes) there ∙ described_passed channels at bytes refl some refl readable

-- an extensible one
abbrev extensible_bytes : (a b c d channels speed group other : ℕ) (tail : List ℕ) → List ℕ
extensible_bytes a b c d channels speed group other tail =
    format_letters ++ (a ∷ b ∷ c ∷ d ∷ (little_bytes 2 0xFFFE ++ (little_bytes 2 channels ++ (little_bytes 4 48000 ++ (little_bytes 4 speed ++ (little_bytes 2 group ++ (little_bytes 2 16
    ++ (little_bytes 8 other ++ (little_bytes 2 1 ++ tail)))))))))

extensible_coded : (a b c d channels speed group other at : ℕ) (tail : List ℕ) → channels < 256 → is_readable channels 48000 ≡ true → 40 ≤ size_of (extensible_bytes a b c d channels speed group other tail) →
    coded at (extensible_bytes a b c d channels speed group other tail) ≡ Passed (Format channels 48000) (chunk_length (extensible_bytes a b c d channels speed group other tail))
unfolding coded number_at
extensible_coded a b c d channels speed group other at tail small readable large =
    let bytes = extensible_bytes a b c d channels speed group other tail in
    let some : number_at 2 10 bytes ≡ channels = omega arith in
    let there : 34 ≤ length bytes = omega arith in
    let enough : nat_lt (size_of bytes) 40 ≡ false = grind (arith, nat_tests) in
    let measured : (if nat_lt (size_of bytes) 40 then bad_riff (at + 4) else once 34 bytes (described 1 at bytes)) ≡ described 1 at bytes = rw enough (once_there 34 bytes (described 1 at bytes) there) in
    measured ∙ described_passed channels at bytes refl some refl readable

readable_channels : (channels : ℕ) → (channels ≡ 1) ⊎ (channels ≡ 2) → is_readable channels 48000 ≡ true
unfolding is_readable
readable_channels channels few = elim few [ inl one ↦ rw one refl | inr two ↦ rw two refl ]

few_channels : (channels : ℕ) → (channels ≡ 1) ⊎ (channels ≡ 2) → channels < 256
few_channels channels few = elim few [ inl one ↦ omega arith | inr two ↦ omega arith ]

-- `fmt ` as it is written
pub format_told : (channels padding at : ℕ) (d : Description) → (channels ≡ 1) ⊎ (channels ≡ 2) → IsLong d → length (format_contents channels d) < 2 ^ 32 →
    part_at Form at (chunk_bytes format_letters (format_contents channels d) padding)
    ≡ Passed (Format channels 48000) (length (chunk_bytes format_letters (format_contents channels d) padding))
format_told channels padding at (Plain speed group extra) few long short =
    let contents = format_contents channels (Plain speed group extra) in
    let bytes = chunk_bytes format_letters contents padding in
    let len : length bytes ≡ 8 + length contents + length contents % 2 = chunk_bytes_length format_letters contents padding refl in
    let size : size_of bytes ≡ length contents = number_at_field 4 4 (length contents) format_letters (contents ++ take (length contents % 2) (padding ∷ [])) refl (omega arith) in
    let told : coded at bytes ≡ Passed (Format channels 48000) (chunk_length bytes) =
    plain_coded _ _ _ _ channels speed group at (extra ++ take (length contents % 2) (padding ∷ [])) (few_channels channels few) (readable_channels channels few) in
    format_passed at bytes (Passed (Format channels 48000) (chunk_length bytes)) refl (omega (arith, len)) (omega (arith, size)) told
    ∙ ap (λ (n : ℕ). Passed (Format channels 48000) (8 + n + n % 2)) size ∙ ap (Passed (Format channels 48000)) (sym len)
format_told channels padding at (Extensible speed group other extra) few long short =
    let contents = format_contents channels (Extensible speed group other extra) in
    let bytes = chunk_bytes format_letters contents padding in
    let len : length bytes ≡ 8 + length contents + length contents % 2 = chunk_bytes_length format_letters contents padding refl in
    let size : size_of bytes ≡ length contents = number_at_field 4 4 (length contents) format_letters (contents ++ take (length contents % 2) (padding ∷ [])) refl (omega arith) in
    let told : coded at bytes ≡ Passed (Format channels 48000) (chunk_length bytes) =
    extensible_coded _ _ _ _ channels speed group other at (extra ++ take (length contents % 2) (padding ∷ [])) (few_channels channels few) (readable_channels channels few) (omega (arith, size)) in
    format_passed at bytes (Passed (Format channels 48000) (chunk_length bytes)) refl (omega (arith, len)) (omega (arith, size)) told
    ∙ ap (λ (n : ℕ). Passed (Format channels 48000) (8 + n + n % 2)) size ∙ ap (Passed (Format channels 48000)) (sym len)

-- the head of `data` as it is written
sized_whole : (channels rate at size : ℕ) → (size ≡ 0xFFFFFFFF) ⊎ (size % (2 * channels) ≡ 0) → sized channels rate at size ≡ Samples channels rate (declared size)
unfolding sized
sized_whole channels rate at size whole = grind (arith, nat_tests)

data_told : (channels at size : ℕ) → size < 2 ^ 32 → (size ≡ 0xFFFFFFFF) ⊎ (size % (2 * channels) ≡ 0) →
    part_at (Format channels 48000) at (data_letters ++ little_bytes 4 size) ≡ Samples channels 48000 (declared size)
unfolding part_at chunk_part data_part fits
data_told channels at size small whole =
    let field : size_of (data_letters ++ (little_bytes 4 size ++ [])) ≡ size = number_at_field 4 4 size data_letters [] refl (omega arith) in
    ap (sized channels 48000 at) field ∙ sized_whole channels 48000 at size whole

pub form_told : (size : ℕ) → part_at Nothing 0 (riff ++ (little_bytes 4 size ++ wave)) ≡ Passed Form 12
unfolding part_at form_part fits
form_told size = refl

-- what stands before `data` is passed over, and the format stays
pub opening_read : (o : Opening) → IsOpening o → (more : List ℕ) → outcome (opening_bytes o ++ more) ≡ read more 0 (Format o.channels 48000) (length (opening_bytes o))
unfolding outcome opening_bytes
opening_read o is more =
    let format = Format o.channels 48000 in
    let before = flat_map spelled o.before in
    let described = chunk_bytes format_letters (format_contents o.channels o.description) o.padding in
    let after = flat_map spelled o.after in
    let form = form_bytes o.file_size in
    let joined : (before ++ (described ++ after)) ++ more ≡ before ++ (described ++ (after ++ more)) =
    append_assoc before (described ++ after) more ∙ ap (λ (xs : List ℕ). before ++ xs) (append_assoc described after more) in
    let total : length (form ++ (before ++ (described ++ after))) ≡ 12 + length before + length described + length after =
    omega (arith, length-append before (described ++ after), length-append described after) in
    let some : 0 < length described = omega (arith, chunk_bytes_length format_letters (format_contents o.channels o.description) o.padding refl) in
    ap (λ (bytes : List ℕ). read (form ++ bytes) 0 Nothing 0) joined
    ∙ passed_whole form (before ++ (described ++ (after ++ more))) Nothing Form 0 (form_told o.file_size) (omega arith)
    ∙ others_read o.before (described ++ (after ++ more)) Form 12 is.before_passed refl
    ∙ passed_whole described (after ++ more) Form format (12 + length before) (format_told o.channels o.padding (12 + length before) o.description is.one_or_two is.long is.short) some
    ∙ others_read o.after more format (12 + length before + length described) is.after_passed refl
    ∙ ap (read more 0 format) (sym total)

-- a header that is written gives its channels and its size, whatever follows it
pub spelling_read : (o : Opening) (size : ℕ) (more : List ℕ) → IsOpening o → size < 2 ^ 32 → IsDataSize o.channels size →
    outcome (opening_bytes o ++ (data_letters ++ (little_bytes 4 size ++ more))) ≡ Started o.channels 48000 (declared size) (length (opening_bytes o) + 8)
spelling_read o size more is small whole =
    let at = length (opening_bytes o) in
    opening_read o is (data_letters ++ (little_bytes 4 size ++ more))
    ∙ read_samples (data_letters ++ little_bytes 4 size) more (Format o.channels 48000) at o.channels 48000 (declared size) (data_told o.channels at size small whole) (omega arith)

-- a size that is no multiple of a group
sized_half : (channels rate at size : ℕ) → size ≢ 0xFFFFFFFF → size % (2 * channels) ≢ 0 → sized channels rate at size ≡ bad_riff (at + 4)
unfolding sized
sized_half channels rate at size bounded half = grind (arith, nat_tests)

half_told : (channels at size : ℕ) → size < 2 ^ 32 → size ≢ 0xFFFFFFFF → size % (2 * channels) ≢ 0 →
    part_at (Format channels 48000) at (data_letters ++ little_bytes 4 size) ≡ bad_riff (at + 4)
unfolding part_at chunk_part data_part fits
half_told channels at size small bounded half =
    let field : size_of (data_letters ++ (little_bytes 4 size ++ [])) ≡ size = number_at_field 4 4 size data_letters [] refl (omega arith) in
    ap (sized channels 48000 at) field ∙ sized_half channels 48000 at size bounded half

pub half_read : (o : Opening) (size : ℕ) (more : List ℕ) → IsOpening o → size < 2 ^ 32 → size ≢ 0xFFFFFFFF → size % (2 * o.channels) ≢ 0 →
    outcome (opening_bytes o ++ (data_letters ++ (little_bytes 4 size ++ more))) ≡ broken_at (length (opening_bytes o) + 4)
half_read o size more is small bounded half =
    let at = length (opening_bytes o) in
    opening_read o is (data_letters ++ (little_bytes 4 size ++ more))
    ∙ read_broken (data_letters ++ little_bytes 4 size) more (Format o.channels 48000) at (record { name = BadRiff; at = at + 4 }) (half_told o.channels at size small bounded half) (omega arith)

-- a second `fmt `
second_told : (channels at : ℕ) → part_at (Format channels 48000) at format_letters ≡ bad_riff at
unfolding part_at chunk_part format_part fits
second_told channels at = refl

pub second_read : (o : Opening) (more : List ℕ) → IsOpening o → outcome (opening_bytes o ++ (format_letters ++ more)) ≡ broken_at (length (opening_bytes o))
second_read o more is =
    let at = length (opening_bytes o) in
    opening_read o is (format_letters ++ more)
    ∙ read_broken format_letters more (Format o.channels 48000) at (record { name = BadRiff; at = at }) (second_told o.channels at) (omega arith)

-- `data` before `fmt `
early_told : (at : ℕ) → part_at Form at data_letters ≡ bad_riff at
unfolding part_at chunk_part data_part fits
early_told at = refl

pub early_read : (file_size : ℕ) (before : List Chunk) (more : List ℕ) → All (λ chunk. IsChunk chunk) before →
    outcome (form_bytes file_size ++ (flat_map spelled before ++ (data_letters ++ more))) ≡ broken_at (12 + length (flat_map spelled before))
unfolding outcome
early_read file_size before more passed =
    let at = 12 + length (flat_map spelled before) in
    passed_whole (form_bytes file_size) (flat_map spelled before ++ (data_letters ++ more)) Nothing Form 0 (form_told file_size) (omega arith)
    ∙ others_read before (data_letters ++ more) Form 12 passed refl
    ∙ read_broken data_letters more Form at (record { name = BadRiff; at = at }) (early_told at) (omega arith)

-- no `data` at all
pub ended_read : (o : Opening) → IsOpening o → end_fault (opening_bytes o) ≡ Some (record { name = NoData; at = length (opening_bytes o) })
unfolding end_fault read
ended_read o is =
    ap (λ (given : Outcome). fault_at_end given (length (opening_bytes o))) (ap outcome (sym (append-nil (opening_bytes o))) ∙ opening_read o is [])

-- the header that is written before the samples are known
header_opening : ℕ → Opening
header_opening channels = record {
  file_size = 0xFFFFFFFF;
  before = [];
  channels = channels;
  description = Plain (96000 * channels) (2 * channels) [];
  padding = 0;
  after = [];
}

pub header_read : (channels : ℕ) → (channels ≡ 1) ⊎ (channels ≡ 2) → (more : List ℕ) → outcome (header channels ++ more) ≡ Started channels 48000 None 44
unfolding header header_opening opening_bytes
header_read channels few more =
    spelling_read (header_opening channels) 0xFFFFFFFF more (record {
      before_passed = λ k d h. absurd (omega arith);
      one_or_two = few;
      long = tt;
      short = omega arith;
      after_passed = λ k d h. absurd (omega arith);
    }) (omega arith) (inl refl)
