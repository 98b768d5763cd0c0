-- What bytes are made of by what is read of them: the form, chunks that are passed over, `fmt ` and `data`.
use Rattle.std.proofs.Common.{◌≡◌, ◌⊎◌, inl, inr, ℕ, zero, suc, ◌+◌, ◌-◌, ◌*◌, ◌%◌, ◌^◌, ◌<◌, ◌≤◌, Bool, true, false, ◌&&◌, ◌==◌, nat_lt, if◌then◌else◌, List, [], ◌∷◌, ◌++◌, length, take, drop, get_or, All, Option, refl, sym, ap, subst, ◌∙◌, arith, length-append, length-drop, length-take}
use Rattle.std.specs.Prelude.{nat_eq}
use Rattle.std.specs.Int.{w16, w32, w64, from_le_bytes}
use Rattle.std.specs.List.{flat_map}
use Rattle.std.specs.Cmp.Lexicographic.{same_text}
use lib.Pointwise.{pointwise}
use Rattle.std.proofs.lemmas.Bool.{cases_Bool, cases_lt, eqb-true, ltb-false}
use Rattle.std.proofs.lemmas.List.{append_assoc, append-nil, drop_more, get_or-take, get_or-drop, get_or_past, length-take-le, take-append-drop}
use Rattle.std.proofs.lemmas.List.Elements.{All-nil, All-cons}
use Rattle.std.proofs.lemmas.Nat.{le_bytes_2, le_bytes_4, le_bytes_8}
use Rattle.byteorder.specs.Endian.{little_bytes, little_from, little_number}
use Rattle.byteorder.specs.Numbers.{little_from-take, little_from-lt}
use Rattle.celt_base.specs.declared.status.Fault.{Fault}
use Rattle.celt_base.specs.declared.status.FaultName.TheVariants.{BadRiff, UnsupportedFormat}
use Rattle.wav_edge.specs.declared.parts.Seen.{Seen}
use Rattle.wav_edge.specs.declared.parts.Seen.TheVariants.{Nothing, Form, Format}
use Rattle.wav_edge.specs.declared.parts.Part.{Part}
use Rattle.wav_edge.specs.declared.parts.Part.TheVariants.{More, Passed, Broken}
use Rattle.wav_edge.specs.Fields.{number_at, fits, riff, wave, format_letters, data_letters}
use Rattle.wav_edge.specs.Parts.{is_readable, once, bad_riff, form_part, size_of, chunk_length, sized, data_part, codec_of, channels_of, rate_of, bits_of, sub_format_of, is_supported, unsupported, described, coded, format_part, chunk_part, part_at}
use Rattle.wav_edge.specs.Reading.{is_between, followed, read, broken_at, outcome}
use Rattle.wav_edge.specs.Reading.Outcome.{Unfinished, Faulty, Started}
use Rattle.wav_edge.specs.Spellings.{chunk_bytes, Chunk, IsChunk, spelled, Description, format_contents, IsLong, Opening, IsOpening, form_bytes, opening_bytes, IsDataSize, declared}
use Rattle.wav_edge.specs.Spellings.Description.{Plain, Extensible}
use Rattle.wav_edge.specs.Files.{HasHeader, HasFormat, IsBare, IsOpened}
use Rattle.wav_edge.proofs.FieldLemmas.{little_from-drop, number_at-drop}
use Rattle.wav_edge.proofs.PartLemmas.{once_short, once_there}
use Rattle.wav_edge.proofs.ReadLemmas.{read_passed, read_broken, drop_parts}
use Rattle.wav_edge.proofs.ReaderLemmas.{readable_bounds, readable_cases}
use Rattle.wav_edge.proofs.SpellingLemmas.{part_of_chunk, other_read, passed_whole, format_told, form_told, others_read, opening_read, chunk_bytes_length}

-- ---- bytes

abbrev pub AreSmall : List ℕ → Type 0
AreSmall bytes = (k : ℕ) → get_or bytes k 0 < 256

pub all_small : (bytes : List ℕ) → All (λ byte. byte < 256) bytes → AreSmall bytes
all_small bytes all k = by_place (cases_lt k (length bytes)) where
  by_place : (k < length bytes) ⊎ (length bytes ≤ k) → get_or bytes k 0 < 256
  by_place (inl inside) = all k 0 inside
  by_place (inr past) = rw (get_or_past bytes k 0 past) (omega arith)

small_drop : (n : ℕ) (bytes : List ℕ) → AreSmall bytes → AreSmall (drop n bytes)
small_drop n bytes small k = rw (get_or-drop n bytes k 0) (small (n + k))

small_take : (n : ℕ) (bytes : List ℕ) → AreSmall bytes → AreSmall (take n bytes)
small_take n bytes small k = by_place (cases_lt k n) where
  by_place : (k < n) ⊎ (n ≤ k) → get_or (take n bytes) k 0 < 256
  by_place (inl inside) = rw (get_or-take n bytes k 0 inside) (small k)
  by_place (inr past) = rw (get_or_past (take n bytes) k 0 (simp length-take (omega arith))) (omega arith)

-- ---- numbers as they are written

number_2 : (xs : List ℕ) → AreSmall xs → 2 ≤ length xs → little_bytes 2 (little_number 2 xs) ≡ take 2 xs
number_2 xs small h =
    let two = take 2 xs in
    let said : little_from 0 2 two ≡ from_le_bytes w16 two = omega arith in
    le_bytes_2 two (little_number 2 xs) (length-take-le 2 xs h) (small_take 2 xs small) (sym (little_from-take 0 2 2 xs (omega arith)) ∙ said)

number_4 : (xs : List ℕ) → AreSmall xs → 4 ≤ length xs → little_bytes 4 (little_number 4 xs) ≡ take 4 xs
number_4 xs small h =
    let four = take 4 xs in
    let said : little_from 0 4 four ≡ from_le_bytes w32 four = omega arith in
    le_bytes_4 four (little_number 4 xs) (length-take-le 4 xs h) (small_take 4 xs small) (sym (little_from-take 0 4 4 xs (omega arith)) ∙ said)

number_8 : (xs : List ℕ) → AreSmall xs → 8 ≤ length xs → little_bytes 8 (little_number 8 xs) ≡ take 8 xs
number_8 xs small h =
    let eight = take 8 xs in
    let said : little_from 0 8 eight ≡ from_le_bytes w64 eight = omega arith in
    le_bytes_8 eight (little_number 8 xs) (length-take-le 8 xs h) (small_take 8 xs small) (sym (little_from-take 0 8 8 xs (omega arith)) ∙ said)

-- a field and what follows it
field_by : (n at : ℕ) (xs : List ℕ) → little_bytes n (little_number n (drop at xs)) ≡ take n (drop at xs) → drop at xs ≡ little_bytes n (number_at n at xs) ++ drop (at + n) xs
field_by n at xs e = drop_parts at n xs ∙ ap (λ l. l ++ drop (at + n) xs) (sym e) ∙ ap (λ k. little_bytes n k ++ drop (at + n) xs) (number_at-drop n at xs)

field_2 : (at : ℕ) (xs : List ℕ) → AreSmall xs → at + 2 ≤ length xs → drop at xs ≡ little_bytes 2 (number_at 2 at xs) ++ drop (at + 2) xs
field_2 at xs small h = field_by 2 at xs (number_2 (drop at xs) (small_drop at xs small) (simp length-drop (omega arith)))

field_4 : (at : ℕ) (xs : List ℕ) → AreSmall xs → at + 4 ≤ length xs → drop at xs ≡ little_bytes 4 (number_at 4 at xs) ++ drop (at + 4) xs
field_4 at xs small h = field_by 4 at xs (number_4 (drop at xs) (small_drop at xs small) (simp length-drop (omega arith)))

field_8 : (at : ℕ) (xs : List ℕ) → AreSmall xs → at + 8 ≤ length xs → drop at xs ≡ little_bytes 8 (number_at 8 at xs) ++ drop (at + 8) xs
field_8 at xs small h = field_by 8 at xs (number_8 (drop at xs) (small_drop at xs small) (simp length-drop (omega arith)))

number_fits : (n at : ℕ) (xs : List ℕ) → AreSmall xs → number_at n at xs < 256 ^ n
unfolding number_at
number_fits n at xs small = little_from-lt at n xs small

-- a field of the contents of a chunk
number_inside : (n k from size : ℕ) (xs : List ℕ) → k + n ≤ size → number_at n k (take size (drop from xs)) ≡ number_at n (from + k) xs
unfolding number_at
number_inside n k from size xs h = little_from-take k n size (drop from xs) h ∙ little_from-drop from k n xs

-- ---- words of four letters

riff_front : (bytes : List ℕ) → 4 ≤ length bytes → fits riff (take 4 bytes) ≡ true → take 4 bytes ≡ riff
unfolding fits
riff_front bytes h e =
    let four : length (take 4 bytes) ≡ 4 = length-take-le 4 bytes h in
    same_text (take 4 bytes) riff (sym e ∙ ap (λ n. pointwise nat_eq (take 4 bytes) (take n riff)) four)

wave_front : (bytes : List ℕ) → 4 ≤ length bytes → fits wave (take 4 bytes) ≡ true → take 4 bytes ≡ wave
unfolding fits
wave_front bytes h e =
    let four : length (take 4 bytes) ≡ 4 = length-take-le 4 bytes h in
    same_text (take 4 bytes) wave (sym e ∙ ap (λ n. pointwise nat_eq (take 4 bytes) (take n wave)) four)

format_front : (bytes : List ℕ) → 4 ≤ length bytes → fits format_letters (take 4 bytes) ≡ true → take 4 bytes ≡ format_letters
unfolding fits
format_front bytes h e =
    let four : length (take 4 bytes) ≡ 4 = length-take-le 4 bytes h in
    same_text (take 4 bytes) format_letters (sym e ∙ ap (λ n. pointwise nat_eq (take 4 bytes) (take n format_letters)) four)

data_front : (bytes : List ℕ) → 4 ≤ length bytes → fits data_letters (take 4 bytes) ≡ true → take 4 bytes ≡ data_letters
unfolding fits
data_front bytes h e =
    let four : length (take 4 bytes) ≡ 4 = length-take-le 4 bytes h in
    same_text (take 4 bytes) data_letters (sym e ∙ ap (λ n. pointwise nat_eq (take 4 bytes) (take n data_letters)) four)

-- ---- parts that are cut

read_more : (bytes : List ℕ) (seen : Seen) (at : ℕ) → 0 < length bytes → part_at seen at bytes ≡ More → read bytes 0 seen at ≡ Unfinished false
unfolding read
read_more [] seen at some e = absurd (omega arith)
read_more (byte ∷ bytes) seen at some e = ap (λ (p : Part). followed at p (λ left' seen'. read bytes left' seen' (at + 1))) e

passes_on : (left : ℕ) (seen : Seen) (at : ℕ) → 0 < left → read [] left seen at ≡ Unfinished false
unfolding read
passes_on zero seen at h = absurd (omega arith)
passes_on (suc left) seen at h = refl

read_long : (bytes : List ℕ) (seen after : Seen) (at len : ℕ) → 0 < length bytes → part_at seen at bytes ≡ Passed after len → length bytes < len → read bytes 0 seen at ≡ Unfinished false
read_long bytes seen after at len some e h =
    ap (λ l. read l 0 seen at) (sym (append-nil bytes)) ∙ read_passed bytes [] seen after at len e some (omega arith)
    ∙ passes_on (len - length bytes) after (at + length bytes) (omega arith)

-- a part that is broken
read_bad : (bytes : List ℕ) (seen : Seen) (at : ℕ) (fault : Fault) → 0 < length bytes → part_at seen at bytes ≡ Broken fault → read bytes 0 seen at ≡ Faulty fault
read_bad bytes seen at fault some e = ap (λ l. read l 0 seen at) (sym (append-nil bytes)) ∙ read_broken bytes [] seen at fault e some

-- ---- a whole chunk

pad_is : (p i : ℕ) (xs : List ℕ) → p ≤ 1 → i + p ≤ length xs → take p (get_or xs i 0 ∷ []) ≡ take p (drop i xs)
pad_is zero i xs few h = refl
pad_is (suc zero) i xs few h = ap (take 1) (sym (drop_more xs i 0 (omega arith)))
pad_is (suc (suc p)) i xs few h = absurd (omega arith)

chunk_split : (bytes : List ℕ) → AreSmall bytes → chunk_length bytes ≤ length bytes
    → bytes ≡ chunk_bytes (take 4 bytes) (take (size_of bytes) (drop 8 bytes)) (get_or bytes (8 + size_of bytes) 0) ++ drop (chunk_length bytes) bytes
chunk_split bytes small h =
    let size = size_of bytes in
    let letters = take 4 bytes in
    let contents = take size (drop 8 bytes) in
    let pad = take (length contents % 2) (get_or bytes (8 + size) 0 ∷ []) in
    let rest = drop (chunk_length bytes) bytes in
    let behind : length (drop 8 bytes) ≡ length bytes - 8 = length-drop 8 bytes in
    let len : length contents ≡ size = length-take-le size (drop 8 bytes) (omega arith) in
    let pad_here : take (size % 2) (drop (8 + size) bytes) ≡ pad =
    sym (pad_is (size % 2) (8 + size) bytes (omega arith) (omega arith)) ∙ ap (λ n. take (n % 2) (get_or bytes (8 + size) 0 ∷ [])) (sym len) in
    let number : little_bytes 4 size ≡ little_bytes 4 (length contents) = ap (little_bytes 4) (sym len) in
    let last : drop (8 + size) bytes ≡ pad ++ rest = drop_parts (8 + size) (size % 2) bytes ∙ ap (λ l. l ++ rest) pad_here in
    let inner : drop 8 bytes ≡ contents ++ (pad ++ rest) = drop_parts 8 size bytes ∙ ap (λ l. contents ++ l) last in
    let sized_part : drop 4 bytes ≡ little_bytes 4 (length contents) ++ (contents ++ (pad ++ rest)) =
    field_4 4 bytes small (omega arith) ∙ ap (λ l. l ++ drop 8 bytes) number ∙ ap (λ l. little_bytes 4 (length contents) ++ l) inner in
    sym (take-append-drop 4 bytes) ∙ ap (λ l. letters ++ l) sized_part
    ∙ ap (λ l. letters ++ (little_bytes 4 (length contents) ++ l)) (sym (append_assoc contents pad rest))
    ∙ ap (λ l. letters ++ l) (sym (append_assoc (little_bytes 4 (length contents)) (contents ++ pad) rest))
    ∙ sym (append_assoc letters (little_bytes 4 (length contents) ++ (contents ++ pad)) rest)

-- ---- chunks that are passed over

pub data Stops (rest : List ℕ) (seen : Seen) (at : ℕ) : Type 0 where
  AtEnd : rest ≡ [] → Stops rest seen at
  AtCut : read rest 0 seen at ≡ Unfinished false → Stops rest seen at
  AtFormat : 4 ≤ length rest → take 4 rest ≡ format_letters → Stops rest seen at
  AtData : 4 ≤ length rest → take 4 rest ≡ data_letters → Stops rest seen at

pub record Walk (bytes : List ℕ) (seen : Seen) (at : ℕ) : Type 0 where
  pub before : List Chunk
  pub passed : All (λ chunk. IsChunk chunk) before
  pub rest : List ℕ
  pub small : AreSmall rest
  pub bytes_are : bytes ≡ flat_map spelled before ++ rest
  pub place : ℕ
  pub place_is : place ≡ at + length (flat_map spelled before)
  pub same : read bytes 0 seen at ≡ read rest 0 seen place
  pub stops : Stops rest seen place

stop_here : (bytes : List ℕ) (seen : Seen) (at : ℕ) → AreSmall bytes → Stops bytes seen at → Walk bytes seen at
stop_here bytes seen at small stops = record {
  before = [];
  passed = All-nil (λ chunk. IsChunk chunk);
  rest = bytes;
  small = small;
  bytes_are = refl;
  place = at;
  place_is = omega arith;
  same = refl;
  stops = stops;
}

record Other (bytes : List ℕ) : Type 0 where
  pub chunk : Chunk
  pub is_chunk : IsChunk chunk
  pub bytes_are : bytes ≡ spelled chunk ++ drop (chunk_length bytes) bytes

other_chunk : (bytes : List ℕ) → AreSmall bytes → chunk_length bytes ≤ length bytes → fits data_letters (take 4 bytes) ≡ false → fits format_letters (take 4 bytes) ≡ false → Other bytes
unfolding spelled
other_chunk bytes small h no_data no_format =
    let size = size_of bytes in
    let behind : length (drop 8 bytes) ≡ length bytes - 8 = length-drop 8 bytes in
    let len : length (take size (drop 8 bytes)) ≡ size = length-take-le size (drop 8 bytes) (omega arith) in
    let fits_size = number_fits 4 4 bytes small in
    record {
      chunk = record { letters = take 4 bytes; contents = take size (drop 8 bytes); padding = get_or bytes (8 + size) 0 };
      is_chunk = record { four = length-take-le 4 bytes (omega arith); no_format = no_format; no_data = no_data; short = omega arith };
      bytes_are = chunk_split bytes small h;
    }

passed_on : (bytes : List ℕ) (seen : Seen) (at : ℕ) → is_between 0 seen ≡ true → (o : Other bytes) → Walk (drop (chunk_length bytes) bytes) seen (at + length (spelled o.chunk)) → Walk bytes seen at
passed_on bytes seen at between o w =
    let rest = drop (chunk_length bytes) bytes in
    let place_is = w.place_is in
    let total = length-append (spelled o.chunk) (flat_map spelled w.before) in
    record {
      before = o.chunk ∷ w.before;
      passed = All-cons (λ chunk. IsChunk chunk) o.chunk w.before o.is_chunk w.passed;
      rest = w.rest;
      small = w.small;
      bytes_are = o.bytes_are ∙ ap (λ l. spelled o.chunk ++ l) w.bytes_are ∙ sym (append_assoc (spelled o.chunk) (flat_map spelled w.before) w.rest);
      place = w.place;
      place_is = omega arith;
      same = ap (λ l. read l 0 seen at) o.bytes_are ∙ other_read o.chunk rest seen at o.is_chunk between ∙ w.same;
      stops = w.stops;
    }

-- what a chunk that is neither `fmt ` nor `data` says
other_said : (bytes : List ℕ) (seen : Seen) (at : ℕ) → is_between 0 seen ≡ true → 4 ≤ length bytes → fits data_letters (take 4 bytes) ≡ false → fits format_letters (take 4 bytes) ≡ false
    → part_at seen at bytes ≡ once 8 bytes (Passed seen (chunk_length bytes))
unfolding chunk_part
other_said bytes seen at between four no_data no_format =
    part_of_chunk seen at bytes between
    ∙ once_there 4 bytes (if fits data_letters (take 4 bytes) then data_part seen at bytes else (if fits format_letters (take 4 bytes) then format_part seen at bytes else once 8 bytes (Passed seen (chunk_length bytes)))) four
    ∙ (rw (no_data, no_format) refl)

no_word : (bytes : List ℕ) (seen : Seen) (at : ℕ) → length bytes < 4 → chunk_part seen at bytes ≡ More
unfolding chunk_part
no_word bytes seen at short =
    once_short 4 bytes (if fits data_letters (take 4 bytes) then data_part seen at bytes else (if fits format_letters (take 4 bytes) then format_part seen at bytes else once 8 bytes (Passed seen (chunk_length bytes)))) short

-- what begins bytes, by what is said of those behind the first chunk
walk_once : (bytes : List ℕ) (seen : Seen) (at : ℕ) → 0 < length bytes → is_between 0 seen ≡ true → AreSmall bytes
    → ((rest : List ℕ) (place : ℕ) → length rest < length bytes → AreSmall rest → Walk rest seen place) → Walk bytes seen at
walk_once bytes seen at some between small again = by_letters (cases_lt (length bytes) 4) where
  cut : part_at seen at bytes ≡ More → Walk bytes seen at
  cut e = stop_here bytes seen at small (AtCut (read_more bytes seen at some e))

  by_length : part_at seen at bytes ≡ Passed seen (chunk_length bytes) → fits data_letters (take 4 bytes) ≡ false → fits format_letters (take 4 bytes) ≡ false
      → (length bytes < chunk_length bytes) ⊎ (chunk_length bytes ≤ length bytes) → Walk bytes seen at
  by_length e no_data no_format (inl long) = stop_here bytes seen at small (AtCut (read_long bytes seen seen at (chunk_length bytes) some e long))
  by_length e no_data no_format (inr whole) =
      let o = other_chunk bytes small whole no_data no_format in
      let rest : length (drop (chunk_length bytes) bytes) ≡ length bytes - chunk_length bytes = length-drop (chunk_length bytes) bytes in
      passed_on bytes seen at between o
      (again (drop (chunk_length bytes) bytes) (at + length (spelled o.chunk)) (omega arith) (small_drop (chunk_length bytes) bytes small))

  by_size : 4 ≤ length bytes → fits data_letters (take 4 bytes) ≡ false → fits format_letters (take 4 bytes) ≡ false → (length bytes < 8) ⊎ (8 ≤ length bytes) → Walk bytes seen at
  by_size four no_data no_format (inl short) = cut (other_said bytes seen at between four no_data no_format ∙ once_short 8 bytes (Passed seen (chunk_length bytes)) short)
  by_size four no_data no_format (inr there) =
      by_length (other_said bytes seen at between four no_data no_format ∙ once_there 8 bytes (Passed seen (chunk_length bytes)) there) no_data no_format (cases_lt (length bytes) (chunk_length bytes))

  by_words : 4 ≤ length bytes → (fits data_letters (take 4 bytes) ≡ true) ⊎ (fits data_letters (take 4 bytes) ≡ false)
      → (fits format_letters (take 4 bytes) ≡ true) ⊎ (fits format_letters (take 4 bytes) ≡ false) → Walk bytes seen at
  by_words four (inl d) f = stop_here bytes seen at small (AtData four (data_front bytes four d))
  by_words four (inr d) (inl f) = stop_here bytes seen at small (AtFormat four (format_front bytes four f))
  by_words four (inr d) (inr f) = by_size four d f (cases_lt (length bytes) 8)

  by_letters : (length bytes < 4) ⊎ (4 ≤ length bytes) → Walk bytes seen at
  by_letters (inl short) = cut (part_of_chunk seen at bytes between ∙ no_word bytes seen at short)
  by_letters (inr four) = by_words four (cases_Bool (fits data_letters (take 4 bytes))) (cases_Bool (fits format_letters (take 4 bytes)))

walk_by : (k : ℕ) (bytes : List ℕ) (seen : Seen) (at : ℕ) → length bytes ≤ k → is_between 0 seen ≡ true → AreSmall bytes → Walk bytes seen at
walk_by k [] seen at h between small = stop_here [] seen at small (AtEnd refl)
walk_by zero (byte ∷ bytes) seen at h between small = absurd (omega arith)
walk_by (suc k) (byte ∷ bytes) seen at h between small =
    walk_once (byte ∷ bytes) seen at (omega arith) between small (λ rest place less rest_small. walk_by k rest seen place (omega arith) between rest_small)

walk : (bytes : List ℕ) (seen : Seen) (at : ℕ) → is_between 0 seen ≡ true → AreSmall bytes → Walk bytes seen at
walk bytes seen at between small = walk_by (length bytes) bytes seen at (omega arith) between small

-- ---- `fmt `

pub data FormatRead (rest : List ℕ) (at : ℕ) : Type 0 where
  CutFormat : read rest 0 Form at ≡ Unfinished false → FormatRead rest at
  BrokenFormat : (place : ℕ) → read rest 0 Form at ≡ broken_at place → FormatRead rest at
  Refused : 24 ≤ length rest → read rest 0 Form at ≡ Faulty (record { name = UnsupportedFormat (codec_of rest) (bits_of rest) (channels_of rest) (rate_of rest); at = at }) → FormatRead rest at
  Described : (channels : ℕ) (d : Description) (padding : ℕ) (more : List ℕ) → (channels ≡ 1) ⊎ (channels ≡ 2) → IsLong d → length (format_contents channels d) < 2 ^ 32 → AreSmall more
      → rest ≡ chunk_bytes format_letters (format_contents channels d) padding ++ more → FormatRead rest at

-- the fields of the contents up to the bits, and what follows them
contents_split : (c : List ℕ) → AreSmall c → 16 ≤ length c
    → c ≡ little_bytes 2 (number_at 2 0 c) ++ (little_bytes 2 (number_at 2 2 c) ++ (little_bytes 4 (number_at 4 4 c) ++ (little_bytes 4 (number_at 4 8 c) ++ (little_bytes 2 (number_at 2 12 c) ++ (little_bytes 2 (number_at 2 14 c) ++ drop 16 c)))))
contents_split c small h =
    let a = field_2 0 c small (omega arith) in
    let b = field_2 2 c small (omega arith) in
    let d = field_4 4 c small (omega arith) in
    let e = field_4 8 c small (omega arith) in
    let f = field_2 12 c small (omega arith) in
    let g = field_2 14 c small (omega arith) in
    a ∙ ap (λ l. little_bytes 2 (number_at 2 0 c) ++ l) (b ∙ ap (λ l. little_bytes 2 (number_at 2 2 c) ++ l) (d ∙ ap (λ l. little_bytes 4 (number_at 4 4 c) ++ l) (e ∙ ap (λ l. little_bytes 4 (number_at 4 8 c) ++ l)
    (f ∙ ap (λ l. little_bytes 2 (number_at 2 12 c) ++ l) g))))

-- the same with what the numbers are
contents_are : (c : List ℕ) (codec channels : ℕ) → AreSmall c → 16 ≤ length c → number_at 2 0 c ≡ codec → number_at 2 2 c ≡ channels → number_at 4 4 c ≡ 48000 → number_at 2 14 c ≡ 16
    → c ≡ little_bytes 2 codec ++ (little_bytes 2 channels ++ (little_bytes 4 48000 ++ (little_bytes 4 (number_at 4 8 c) ++ (little_bytes 2 (number_at 2 12 c) ++ (little_bytes 2 16 ++ drop 16 c)))))
contents_are c codec channels small h a b d g =
    contents_split c small h
    ∙ (λ i. little_bytes 2 (a i) ++ (little_bytes 2 (b i) ++ (little_bytes 4 (d i) ++ (little_bytes 4 (number_at 4 8 c) ++ (little_bytes 2 (number_at 2 12 c) ++ (little_bytes 2 (g i) ++ drop 16 c))))))

record Written (c : List ℕ) (channels : ℕ) : Type 0 where
  pub description : Description
  pub long : IsLong description
  pub is : c ≡ format_contents channels description

plain_written : (c : List ℕ) (channels : ℕ) → AreSmall c → 16 ≤ length c → number_at 2 0 c ≡ 1 → number_at 2 2 c ≡ channels → number_at 4 4 c ≡ 48000 → number_at 2 14 c ≡ 16 → Written c channels
plain_written c channels small h a b d g = record { description = Plain (number_at 4 8 c) (number_at 2 12 c) (drop 16 c); long = tt; is = contents_are c 1 channels small h a b d g }

extensible_written : (c : List ℕ) (channels : ℕ) → AreSmall c → 40 ≤ length c → number_at 2 0 c ≡ 0xFFFE → number_at 2 2 c ≡ channels → number_at 4 4 c ≡ 48000 → number_at 2 14 c ≡ 16 → number_at 2 24 c ≡ 1 → Written c channels
extensible_written c channels small h a b d g s =
    let front = contents_are c 0xFFFE channels small (omega arith) a b d g in
    let other = field_8 16 c small (omega arith) in
    let sub = field_2 24 c small (omega arith) in
    let tail : drop 16 c ≡ little_bytes 8 (number_at 8 16 c) ++ (little_bytes 2 1 ++ drop 26 c) =
    other ∙ ap (λ l. little_bytes 8 (number_at 8 16 c) ++ l) (sub ∙ ap (λ n. little_bytes 2 n ++ drop 26 c) s) in
    record {
      description = Extensible (number_at 4 8 c) (number_at 2 12 c) (number_at 8 16 c) (drop 26 c);
      long = simp length-drop (omega arith);
      is = front ∙ ap (λ l. little_bytes 2 0xFFFE ++ (little_bytes 2 channels ++ (little_bytes 4 48000 ++ (little_bytes 4 (number_at 4 8 c) ++ (little_bytes 2 (number_at 2 12 c) ++ (little_bytes 2 16 ++ l)))))) tail;
    }

-- what is supported
record Supported (codec : ℕ) (bytes : List ℕ) : Type 0 where
  pub codec_is : codec ≡ 1
  pub bits_are : bits_of bytes ≡ 16
  pub readable : is_readable (channels_of bytes) (rate_of bytes) ≡ true

and_both : (a b : Bool) → (a && b) ≡ true → (a ≡ true) × (b ≡ true)
and_both true true h = (refl, refl)
and_both true false h = let f : ⊥ = cc in absurd f
and_both false b h = let f : ⊥ = cc in absurd f

supported : (codec : ℕ) (bytes : List ℕ) → is_supported codec bytes ≡ true → Supported codec bytes
unfolding is_supported
supported codec bytes h =
    let a = and_both (codec == 1 && bits_of bytes == 16) (is_readable (channels_of bytes) (rate_of bytes)) h in
    let b = and_both (codec == 1) (bits_of bytes == 16) a.0 in
    record { codec_is = eqb-true codec 1 b.0; bits_are = eqb-true (bits_of bytes) 16 b.1; readable = a.1 }

-- the whole chunk is as it is written
described_whole : (rest : List ℕ) (at : ℕ) → AreSmall rest → take 4 rest ≡ format_letters → chunk_length rest ≤ length rest → is_readable (channels_of rest) (rate_of rest) ≡ true
    → Written (take (size_of rest) (drop 8 rest)) (channels_of rest) → FormatRead rest at
described_whole rest at small letters whole readable w =
    let size = size_of rest in
    let c = take size (drop 8 rest) in
    let padding = get_or rest (8 + size) 0 in
    let behind : length (drop 8 rest) ≡ length rest - 8 = length-drop 8 rest in
    let len : length c ≡ size = length-take-le size (drop 8 rest) (omega arith) in
    let fits_size = number_fits 4 4 rest small in
    let short : length (format_contents (channels_of rest) w.description) < 2 ^ 32 = subst (λ l. length l < 2 ^ 32) w.is (omega arith) in
    Described (channels_of rest) w.description padding (drop (chunk_length rest) rest) (readable_cases (channels_of rest) (rate_of rest) readable) w.long short (small_drop (chunk_length rest) rest small)
    (chunk_split rest small whole ∙ ap (λ l. chunk_bytes l c padding ++ drop (chunk_length rest) rest) letters ∙ ap (λ l. chunk_bytes format_letters l padding ++ drop (chunk_length rest) rest) w.is)

-- numbers of the contents are the fields
contents_numbers : (rest : List ℕ) → 16 ≤ size_of rest
    → (number_at 2 0 (take (size_of rest) (drop 8 rest)) ≡ codec_of rest) × (number_at 2 2 (take (size_of rest) (drop 8 rest)) ≡ channels_of rest)
    × (number_at 4 4 (take (size_of rest) (drop 8 rest)) ≡ rate_of rest) × (number_at 2 14 (take (size_of rest) (drop 8 rest)) ≡ bits_of rest)
contents_numbers rest h =
    let size = size_of rest in
    (number_inside 2 0 8 size rest (omega arith), number_inside 2 2 8 size rest (omega arith), number_inside 4 4 8 size rest (omega arith), number_inside 2 14 8 size rest (omega arith))

plain_whole : (rest : List ℕ) (at : ℕ) → AreSmall rest → take 4 rest ≡ format_letters → chunk_length rest ≤ length rest → 16 ≤ size_of rest → Supported (codec_of rest) rest → FormatRead rest at
plain_whole rest at small letters whole large s =
    let size = size_of rest in
    let c = take size (drop 8 rest) in
    let behind : length (drop 8 rest) ≡ length rest - 8 = length-drop 8 rest in
    let len : length c ≡ size = length-take-le size (drop 8 rest) (omega arith) in
    let n = contents_numbers rest large in
    let bounds = readable_bounds (channels_of rest) (rate_of rest) s.readable in
    described_whole rest at small letters whole s.readable
    (plain_written c (channels_of rest) (small_take size (drop 8 rest) (small_drop 8 rest small)) (omega arith) (n.0 ∙ s.codec_is) n.1 (n.2 ∙ bounds.2) (n.3 ∙ s.bits_are))

extensible_whole : (rest : List ℕ) (at : ℕ) → AreSmall rest → take 4 rest ≡ format_letters → chunk_length rest ≤ length rest → 40 ≤ size_of rest → codec_of rest ≡ 0xFFFE → Supported (sub_format_of rest) rest → FormatRead rest at
extensible_whole rest at small letters whole large extensible s =
    let size = size_of rest in
    let c = take size (drop 8 rest) in
    let behind : length (drop 8 rest) ≡ length rest - 8 = length-drop 8 rest in
    let len : length c ≡ size = length-take-le size (drop 8 rest) (omega arith) in
    let n = contents_numbers rest (omega arith) in
    let bounds = readable_bounds (channels_of rest) (rate_of rest) s.readable in
    described_whole rest at small letters whole s.readable
    (extensible_written c (channels_of rest) (small_take size (drop 8 rest) (small_drop 8 rest small)) (omega arith) (n.0 ∙ extensible) n.1 (n.2 ∙ bounds.2) (n.3 ∙ s.bits_are) (number_inside 2 24 8 size rest (omega arith) ∙ s.codec_is))

-- the chunk by its fields, once they are there
described_read : (rest : List ℕ) (codec at : ℕ) → AreSmall rest → 24 ≤ length rest → part_at Form at rest ≡ described codec at rest → (chunk_length rest ≤ length rest → Supported codec rest → FormatRead rest at) → FormatRead rest at
unfolding described
described_read rest codec at small there e whole = by_support (cases_Bool (is_supported codec rest)) where
  by_length : is_supported codec rest ≡ true → (length rest < chunk_length rest) ⊎ (chunk_length rest ≤ length rest) → FormatRead rest at
  by_length h (inl long) =
      CutFormat (read_long rest Form (Format (channels_of rest) (rate_of rest)) at (chunk_length rest) (omega arith)
      (e ∙ ap (λ b. if b then Passed (Format (channels_of rest) (rate_of rest)) (chunk_length rest) else unsupported at rest) h) long)
  by_length h (inr there) = whole there (supported codec rest h)

  by_support : (is_supported codec rest ≡ true) ⊎ (is_supported codec rest ≡ false) → FormatRead rest at
  by_support (inl h) = by_length h (cases_lt (length rest) (chunk_length rest))
  by_support (inr h) =
      Refused there (read_bad rest Form at (record { name = UnsupportedFormat (codec_of rest) (bits_of rest) (channels_of rest) (rate_of rest); at = at }) (omega arith)
      (e ∙ ap (λ b. if b then Passed (Format (channels_of rest) (rate_of rest)) (chunk_length rest) else unsupported at rest) h))

coded_read : (rest : List ℕ) (at : ℕ) → AreSmall rest → take 4 rest ≡ format_letters → 10 ≤ length rest → 16 ≤ size_of rest → part_at Form at rest ≡ coded at rest → FormatRead rest at
unfolding coded
coded_read rest at small letters ten large e = by_codec (cases_Bool (codec_of rest == 0xFFFE)) where
  extensible_part : Part
  extensible_part = if nat_lt (size_of rest) 40 then bad_riff (at + 4) else once 34 rest (described (sub_format_of rest) at rest)

  plain_part : Part
  plain_part = once 24 rest (described (codec_of rest) at rest)

  some : 0 < length rest
  some = omega arith

  cut : part_at Form at rest ≡ More → FormatRead rest at
  cut f = CutFormat (read_more rest Form at some f)

  by_plain : codec_of rest == 0xFFFE ≡ false → (length rest < 24) ⊎ (24 ≤ length rest) → FormatRead rest at
  by_plain c (inl short) = cut (e ∙ ap (λ b. if b then extensible_part else plain_part) c ∙ once_short 24 rest (described (codec_of rest) at rest) short)
  by_plain c (inr there) =
      described_read rest (codec_of rest) at small there (e ∙ ap (λ b. if b then extensible_part else plain_part) c ∙ once_there 24 rest (described (codec_of rest) at rest) there)
      (λ whole s. plain_whole rest at small letters whole large s)

  by_there : codec_of rest ≡ 0xFFFE → 40 ≤ size_of rest → part_at Form at rest ≡ once 34 rest (described (sub_format_of rest) at rest) → (length rest < 34) ⊎ (34 ≤ length rest) → FormatRead rest at
  by_there c enough f (inl short) = cut (f ∙ once_short 34 rest (described (sub_format_of rest) at rest) short)
  by_there c enough f (inr there) =
      described_read rest (sub_format_of rest) at small (omega arith) (f ∙ once_there 34 rest (described (sub_format_of rest) at rest) there)
      (λ whole s. extensible_whole rest at small letters whole enough c s)

  by_large : codec_of rest == 0xFFFE ≡ true → (nat_lt (size_of rest) 40 ≡ true) ⊎ (nat_lt (size_of rest) 40 ≡ false) → FormatRead rest at
  by_large c (inl less) =
      BrokenFormat (at + 4) (read_bad rest Form at (record { name = BadRiff; at = at + 4 }) some
      (e ∙ ap (λ b. if b then extensible_part else plain_part) c ∙ ap (λ b. if b then bad_riff (at + 4) else once 34 rest (described (sub_format_of rest) at rest)) less))
  by_large c (inr enough) =
      by_there (eqb-true (codec_of rest) 0xFFFE c) (ltb-false (size_of rest) 40 enough)
      (e ∙ ap (λ b. if b then extensible_part else plain_part) c ∙ ap (λ b. if b then bad_riff (at + 4) else once 34 rest (described (sub_format_of rest) at rest)) enough)
      (cases_lt (length rest) 34)

  by_codec : (codec_of rest == 0xFFFE ≡ true) ⊎ (codec_of rest == 0xFFFE ≡ false) → FormatRead rest at
  by_codec (inl c) = by_large c (cases_Bool (nat_lt (size_of rest) 40))
  by_codec (inr c) = by_plain c (cases_lt (length rest) 24)

-- the head of the chunk
format_said : (rest : List ℕ) (at : ℕ) → 4 ≤ length rest → take 4 rest ≡ format_letters
    → part_at Form at rest ≡ once 8 rest (if nat_lt (size_of rest) 16 then bad_riff (at + 4) else once 10 rest (coded at rest))
unfolding chunk_part part_at format_part fits
format_said rest at four letters =
    once_there 4 rest (if fits data_letters (take 4 rest) then data_part Form at rest else (if fits format_letters (take 4 rest) then format_part Form at rest else once 8 rest (Passed Form (chunk_length rest)))) four
    ∙ (rw letters refl)

pub format_read : (rest : List ℕ) (at : ℕ) → AreSmall rest → 4 ≤ length rest → take 4 rest ≡ format_letters → FormatRead rest at
format_read rest at small four letters = by_eight (cases_lt (length rest) 8) where
  said : part_at Form at rest ≡ once 8 rest (if nat_lt (size_of rest) 16 then bad_riff (at + 4) else once 10 rest (coded at rest))
  said = format_said rest at four letters

  some : 0 < length rest
  some = omega arith

  by_ten : 16 ≤ size_of rest → part_at Form at rest ≡ once 10 rest (coded at rest) → (length rest < 10) ⊎ (10 ≤ length rest) → FormatRead rest at
  by_ten large e (inl short) = CutFormat (read_more rest Form at some (e ∙ once_short 10 rest (coded at rest) short))
  by_ten large e (inr there) = coded_read rest at small letters there large (e ∙ once_there 10 rest (coded at rest) there)

  by_large : 8 ≤ length rest → (nat_lt (size_of rest) 16 ≡ true) ⊎ (nat_lt (size_of rest) 16 ≡ false) → FormatRead rest at
  by_large there (inl less) =
      BrokenFormat (at + 4) (read_bad rest Form at (record { name = BadRiff; at = at + 4 }) some
      (said ∙ once_there 8 rest (if nat_lt (size_of rest) 16 then bad_riff (at + 4) else once 10 rest (coded at rest)) there ∙ ap (λ b. if b then bad_riff (at + 4) else once 10 rest (coded at rest)) less))
  by_large there (inr enough) =
      by_ten (ltb-false (size_of rest) 16 enough)
      (said ∙ once_there 8 rest (if nat_lt (size_of rest) 16 then bad_riff (at + 4) else once 10 rest (coded at rest)) there ∙ ap (λ b. if b then bad_riff (at + 4) else once 10 rest (coded at rest)) enough)
      (cases_lt (length rest) 10)

  by_eight : (length rest < 8) ⊎ (8 ≤ length rest) → FormatRead rest at
  by_eight (inl short) = CutFormat (read_more rest Form at some (said ∙ once_short 8 rest (if nat_lt (size_of rest) 16 then bad_riff (at + 4) else once 10 rest (coded at rest)) short))
  by_eight (inr there) = by_large there (cases_Bool (nat_lt (size_of rest) 16))

-- the fields up to the bits stand in the chunk
format_fields : (rest : List ℕ) → AreSmall rest → 24 ≤ length rest → take 4 rest ≡ format_letters
    → rest ≡ format_letters ++ (little_bytes 4 (size_of rest) ++ (little_bytes 2 (codec_of rest) ++ (little_bytes 2 (channels_of rest) ++ (little_bytes 4 (rate_of rest)
    ++ (little_bytes 4 (number_at 4 16 rest) ++ (little_bytes 2 (number_at 2 20 rest) ++ (little_bytes 2 (bits_of rest) ++ drop 24 rest)))))))
format_fields rest small h letters =
    let z = field_4 4 rest small (omega arith) in
    let a = field_2 8 rest small (omega arith) in
    let b = field_2 10 rest small (omega arith) in
    let d = field_4 12 rest small (omega arith) in
    let e = field_4 16 rest small (omega arith) in
    let f = field_2 20 rest small (omega arith) in
    let g = field_2 22 rest small (omega arith) in
    sym (take-append-drop 4 rest) ∙ ap (λ l. l ++ drop 4 rest) letters
    ∙ ap (λ l. format_letters ++ l) (z ∙ ap (λ l. little_bytes 4 (size_of rest) ++ l) (a ∙ ap (λ l. little_bytes 2 (codec_of rest) ++ l) (b ∙ ap (λ l. little_bytes 2 (channels_of rest) ++ l)
    (d ∙ ap (λ l. little_bytes 4 (rate_of rest) ++ l) (e ∙ ap (λ l. little_bytes 4 (number_at 4 16 rest) ++ l) (f ∙ ap (λ l. little_bytes 2 (number_at 2 20 rest) ++ l) g))))))

-- ---- `data`

pub data DataRead (rest : List ℕ) (channels at : ℕ) : Type 0 where
  CutData : read rest 0 (Format channels 48000) at ≡ Unfinished false → DataRead rest channels at
  BrokenData : (place : ℕ) → read rest 0 (Format channels 48000) at ≡ broken_at place → DataRead rest channels at
  Found : (number : ℕ) (more : List ℕ) → number < 2 ^ 32 → IsDataSize channels number → rest ≡ data_letters ++ (little_bytes 4 number ++ more) → DataRead rest channels at

data_said : (rest : List ℕ) (seen : Seen) (at : ℕ) → is_between 0 seen ≡ true → 4 ≤ length rest → take 4 rest ≡ data_letters → part_at seen at rest ≡ data_part seen at rest
unfolding chunk_part fits
data_said rest seen at between four letters =
    part_of_chunk seen at rest between
    ∙ once_there 4 rest (if fits data_letters (take 4 rest) then data_part seen at rest else (if fits format_letters (take 4 rest) then format_part seen at rest else once 8 rest (Passed seen (chunk_length rest)))) four
    ∙ (rw letters refl)

data_is : (channels at : ℕ) (rest : List ℕ) → data_part (Format channels 48000) at rest ≡ once 8 rest (sized channels 48000 at (size_of rest))
unfolding data_part
data_is channels at rest = refl

data_early : (at : ℕ) (rest : List ℕ) → data_part Form at rest ≡ bad_riff at
unfolding data_part
data_early at rest = refl

sized_half : (channels at size : ℕ) → (size == 0xFFFFFFFF) ≡ false → (size % (2 * channels) == 0) ≡ false → sized channels 48000 at size ≡ bad_riff (at + 4)
unfolding sized
sized_half channels at size a b = rw (a, b) refl

data_read : (rest : List ℕ) (channels at : ℕ) → AreSmall rest → 4 ≤ length rest → take 4 rest ≡ data_letters → DataRead rest channels at
data_read rest channels at small four letters = by_eight (cases_lt (length rest) 8) where
  size : ℕ
  size = size_of rest

  said : part_at (Format channels 48000) at rest ≡ once 8 rest (sized channels 48000 at size)
  said = data_said rest (Format channels 48000) at refl four letters ∙ data_is channels at rest

  some : 0 < length rest
  some = omega arith

  found : 8 ≤ length rest → IsDataSize channels size → DataRead rest channels at
  found there whole =
      let fits_size = number_fits 4 4 rest small in
      Found size (drop 8 rest) (omega arith) whole
      (sym (take-append-drop 4 rest) ∙ ap (λ l. l ++ drop 4 rest) letters ∙ ap (λ l. data_letters ++ l) (field_4 4 rest small (omega arith)))

  by_size : 8 ≤ length rest → (size == 0xFFFFFFFF ≡ true) ⊎ (size == 0xFFFFFFFF ≡ false) → (size % (2 * channels) == 0 ≡ true) ⊎ (size % (2 * channels) == 0 ≡ false) → DataRead rest channels at
  by_size there (inl a) b = found there (inl (eqb-true size 0xFFFFFFFF a))
  by_size there (inr a) (inl b) = found there (inr (eqb-true (size % (2 * channels)) 0 b))
  by_size there (inr a) (inr b) =
      BrokenData (at + 4) (read_bad rest (Format channels 48000) at (record { name = BadRiff; at = at + 4 }) some (said ∙ once_there 8 rest (sized channels 48000 at size) there ∙ sized_half channels at size a b))

  by_eight : (length rest < 8) ⊎ (8 ≤ length rest) → DataRead rest channels at
  by_eight (inl short) = CutData (read_more rest (Format channels 48000) at some (said ∙ once_short 8 rest (sized channels 48000 at size) short))
  by_eight (inr there) = by_size there (cases_Bool (size == 0xFFFFFFFF)) (cases_Bool (size % (2 * channels) == 0))

-- ---- the head of the form

pub data FormRead (bytes : List ℕ) : Type 0 where
  CutForm : outcome bytes ≡ Unfinished false → FormRead bytes
  BrokenForm : (place : ℕ) → outcome bytes ≡ broken_at place → FormRead bytes
  Formed : (file_size : ℕ) (rest : List ℕ) → AreSmall rest → bytes ≡ form_bytes file_size ++ rest → FormRead bytes

form_said : (bytes : List ℕ) → part_at Nothing 0 bytes ≡ (if fits riff (take 4 bytes) then (if fits wave (take 4 (drop 8 bytes)) then once 12 bytes (Passed Form 12) else bad_riff 8) else bad_riff 0)
unfolding part_at form_part
form_said bytes = refl

none_read : outcome [] ≡ Unfinished false
unfolding outcome read
none_read = refl

form_read : (bytes : List ℕ) → AreSmall bytes → FormRead bytes
unfolding outcome
form_read [] small = CutForm none_read
form_read (byte ∷ tail) small = by_riff (cases_Bool (fits riff (take 4 bytes))) (cases_Bool (fits wave (take 4 (drop 8 bytes)))) where
  bytes : List ℕ
  bytes = byte ∷ tail

  some : 0 < length bytes
  some = omega arith

  inner : Part
  inner = if fits wave (take 4 (drop 8 bytes)) then once 12 bytes (Passed Form 12) else bad_riff 8

  by_twelve : fits riff (take 4 bytes) ≡ true → fits wave (take 4 (drop 8 bytes)) ≡ true → part_at Nothing 0 bytes ≡ once 12 bytes (Passed Form 12) → (length bytes < 12) ⊎ (12 ≤ length bytes) → FormRead bytes
  by_twelve r w e (inl short) = CutForm (read_more bytes Nothing 0 some (e ∙ once_short 12 bytes (Passed Form 12) short))
  by_twelve r w e (inr there) =
      let behind : length (drop 8 bytes) ≡ length bytes - 8 = length-drop 8 bytes in
      let middle = field_4 4 bytes small (omega arith) in
      let last : drop 8 bytes ≡ wave ++ drop 12 bytes = drop_parts 8 4 bytes ∙ ap (λ l. l ++ drop 12 bytes) (wave_front (drop 8 bytes) (omega arith) w) in
      Formed (number_at 4 4 bytes) (drop 12 bytes) (small_drop 12 bytes small)
      (sym (take-append-drop 4 bytes) ∙ ap (λ l. l ++ drop 4 bytes) (riff_front bytes (omega arith) r)
      ∙ ap (λ l. riff ++ l) (middle ∙ ap (λ l. little_bytes 4 (number_at 4 4 bytes) ++ l) last ∙ sym (append_assoc (little_bytes 4 (number_at 4 4 bytes)) wave (drop 12 bytes)))
      ∙ sym (append_assoc riff (little_bytes 4 (number_at 4 4 bytes) ++ wave) (drop 12 bytes)))

  by_riff : (fits riff (take 4 bytes) ≡ true) ⊎ (fits riff (take 4 bytes) ≡ false) → (fits wave (take 4 (drop 8 bytes)) ≡ true) ⊎ (fits wave (take 4 (drop 8 bytes)) ≡ false) → FormRead bytes
  by_riff (inr r) w = BrokenForm 0 (read_bad bytes Nothing 0 (record { name = BadRiff; at = 0 }) some (form_said bytes ∙ ap (λ b. if b then inner else bad_riff 0) r))
  by_riff (inl r) (inr w) =
      BrokenForm 8 (read_bad bytes Nothing 0 (record { name = BadRiff; at = 8 }) some
      (form_said bytes ∙ ap (λ b. if b then inner else bad_riff 0) r ∙ ap (λ b. if b then once 12 bytes (Passed Form 12) else bad_riff 8) w))
  by_riff (inl r) (inl w) =
      by_twelve r w (form_said bytes ∙ ap (λ b. if b then inner else bad_riff 0) r ∙ ap (λ b. if b then once 12 bytes (Passed Form 12) else bad_riff 8) w) (cases_lt (length bytes) 12)

-- ---- a whole file

pub data FileRead (bytes : List ℕ) : Type 0 where
  Cut : outcome bytes ≡ Unfinished false → FileRead bytes
  Malformed : (place : ℕ) → outcome bytes ≡ broken_at place → FileRead bytes
  Bare : outcome bytes ≡ Unfinished true → IsBare bytes → FileRead bytes
  Opened : outcome bytes ≡ Unfinished true → IsOpened bytes → FileRead bytes
  Unreadable : (codec bits channels rate place : ℕ) → outcome bytes ≡ Faulty (record { name = UnsupportedFormat codec bits channels rate; at = place }) → HasFormat bytes codec bits channels rate place → FileRead bytes
  Playable : (channels : ℕ) (size : Option ℕ) (place : ℕ) → outcome bytes ≡ Started channels 48000 size place → HasHeader bytes channels size place → FileRead bytes

-- behind the format
record Behind (bytes : List ℕ) (o : Opening) (place : ℕ) (rest : List ℕ) : Type 0 where
  pub is_opening : IsOpening o
  pub bytes_are : bytes ≡ opening_bytes o ++ rest
  pub place_is : place ≡ length (opening_bytes o)
  pub same : outcome bytes ≡ read rest 0 (Format o.channels 48000) place

second_said : (channels at : ℕ) (rest : List ℕ) → 4 ≤ length rest → take 4 rest ≡ format_letters → part_at (Format channels 48000) at rest ≡ bad_riff at
unfolding part_at chunk_part format_part fits
second_said channels at rest four letters =
    once_there 4 rest (if fits data_letters (take 4 rest) then data_part (Format channels 48000) at rest else (if fits format_letters (take 4 rest) then format_part (Format channels 48000) at rest else once 8 rest (Passed (Format channels 48000) (chunk_length rest)))) four
    ∙ (rw letters refl)

pub none_left : (seen : Seen) (at : ℕ) → is_between 0 seen ≡ true → read [] 0 seen at ≡ Unfinished true
unfolding read
none_left Nothing at h = let f : ⊥ = cc in absurd f
none_left Form at h = refl
none_left (Format channels rate) at h = refl

behind_read : (bytes : List ℕ) (o : Opening) (place : ℕ) (rest : List ℕ) → Behind bytes o place rest → AreSmall rest → Stops rest (Format o.channels 48000) place → FileRead bytes
behind_read bytes o place rest b small (AtEnd none) =
    Opened (b.same ∙ ap (λ l. read l 0 (Format o.channels 48000) place) none ∙ none_left (Format o.channels 48000) place refl)
    (record { opening = o; is_opening = b.is_opening; bytes_are = b.bytes_are ∙ ap (λ l. opening_bytes o ++ l) none ∙ append-nil (opening_bytes o) })
behind_read bytes o place rest b small (AtCut cut) = Cut (b.same ∙ cut)
behind_read bytes o place rest b small (AtFormat four letters) =
    Malformed place (b.same ∙ read_bad rest (Format o.channels 48000) place (record { name = BadRiff; at = place }) (omega arith) (second_said o.channels place rest four letters))
behind_read bytes o place rest b small (AtData four letters) = by_data (data_read rest o.channels place small four letters) where
  by_data : DataRead rest o.channels place → FileRead bytes
  by_data (CutData e) = Cut (b.same ∙ e)
  by_data (BrokenData at e) = Malformed at (b.same ∙ e)
  by_data (Found number more fits_number whole is) =
      let header : bytes ≡ opening_bytes o ++ (data_letters ++ (little_bytes 4 number ++ more)) = b.bytes_are ∙ ap (λ l. opening_bytes o ++ l) is in
      Playable o.channels (declared number) (length (opening_bytes o) + 8)
      (ap outcome header ∙ Rattle.wav_edge.proofs.SpellingLemmas.spelling_read o number more b.is_opening fits_number whole)
      (record { opening = o; is_opening = b.is_opening; channels_are = refl; number = number; number_fits = fits_number; number_whole = whole; size_is = refl; more = more; bytes_are = header; place_is = refl })

-- behind the form's head
record Formed12 (bytes : List ℕ) (file_size : ℕ) (before : List Chunk) (place : ℕ) (rest : List ℕ) : Type 0 where
  pub passed : All (λ chunk. IsChunk chunk) before
  pub bytes_are : bytes ≡ form_bytes file_size ++ (flat_map spelled before ++ rest)
  pub place_is : place ≡ 12 + length (flat_map spelled before)
  pub same : outcome bytes ≡ read rest 0 Form place

opened_bytes : (file_size : ℕ) (before after : List Chunk) (channels : ℕ) (d : Description) (padding : ℕ) (rest : List ℕ)
    → form_bytes file_size ++ (flat_map spelled before ++ (chunk_bytes format_letters (format_contents channels d) padding ++ (flat_map spelled after ++ rest)))
    ≡ opening_bytes (record { file_size = file_size; before = before; channels = channels; description = d; padding = padding; after = after }) ++ rest
unfolding opening_bytes
opened_bytes file_size before after channels d padding rest =
    let b = flat_map spelled before in
    let f = chunk_bytes format_letters (format_contents channels d) padding in
    let a = flat_map spelled after in
    ap (λ l. form_bytes file_size ++ (b ++ l)) (sym (append_assoc f a rest)) ∙ ap (λ l. form_bytes file_size ++ l) (sym (append_assoc b (f ++ a) rest)) ∙ sym (append_assoc (form_bytes file_size) (b ++ (f ++ a)) rest)

-- more chunks behind the format
opening_longer : (file_size : ℕ) (before after : List Chunk) (channels : ℕ) (d : Description) (padding : ℕ)
    → length (opening_bytes (record { file_size = file_size; before = before; channels = channels; description = d; padding = padding; after = [] })) + length (flat_map spelled after)
    ≡ length (opening_bytes (record { file_size = file_size; before = before; channels = channels; description = d; padding = padding; after = after }))
unfolding opening_bytes
opening_longer file_size before after channels d padding =
    let b = flat_map spelled before in
    let f = chunk_bytes format_letters (format_contents channels d) padding in
    let a = flat_map spelled after in
    omega (arith, length-append (form_bytes file_size) (b ++ (f ++ [])), length-append b (f ++ []), length-append f [], length-append (form_bytes file_size) (b ++ (f ++ a)), length-append b (f ++ a), length-append f a)

form_read_on : (bytes : List ℕ) (file_size : ℕ) (before : List Chunk) (place : ℕ) (rest : List ℕ) → Formed12 bytes file_size before place rest → AreSmall rest → Stops rest Form place → FileRead bytes
form_read_on bytes file_size before place rest f small (AtEnd none) =
    Bare (f.same ∙ ap (λ l. read l 0 Form place) none ∙ none_left Form place refl)
    (record { file_size = file_size; chunks = before; passed = f.passed; bytes_are = f.bytes_are ∙ ap (λ l. form_bytes file_size ++ (flat_map spelled before ++ l)) none ∙ ap (λ l. form_bytes file_size ++ l) (append-nil (flat_map spelled before)) })
form_read_on bytes file_size before place rest f small (AtCut cut) = Cut (f.same ∙ cut)
form_read_on bytes file_size before place rest f small (AtData four letters) =
    Malformed place (f.same ∙ read_bad rest Form place (record { name = BadRiff; at = place }) (omega arith) (data_said rest Form place refl four letters ∙ data_early place rest))
form_read_on bytes file_size before place rest f small (AtFormat four letters) = by_format (format_read rest place small four letters) where
  by_format : FormatRead rest place → FileRead bytes
  by_format (CutFormat e) = Cut (f.same ∙ e)
  by_format (BrokenFormat at e) = Malformed at (f.same ∙ e)
  by_format (Refused there e) =
      let c = number_fits 2 8 rest small in
      let n = number_fits 2 10 rest small in
      let r = number_fits 4 12 rest small in
      let b = number_fits 2 22 rest small in
      Unreadable (codec_of rest) (bits_of rest) (channels_of rest) (rate_of rest) place (f.same ∙ e)
      (record {
        file_size = file_size;
        before = before;
        passed = f.passed;
        size = size_of rest;
        speed = number_at 4 16 rest;
        group = number_at 2 20 rest;
        rest = drop 24 rest;
        bytes_are = f.bytes_are ∙ ap (λ l. form_bytes file_size ++ (flat_map spelled before ++ l)) (format_fields rest small there letters);
        place_is = f.place_is;
        codec_fits = omega arith;
        channels_fit = omega arith;
        rate_fits = omega arith;
        bits_fit = omega arith;
      })
  by_format (Described channels d padding more few long short more_small is) = by_walk (walk more (Format channels 48000) (length (opening_bytes (opening []))) refl more_small)
    where
      opening : List Chunk → Opening
      opening after = record { file_size = file_size; before = before; channels = channels; description = d; padding = padding; after = after }

      opens : (after : List Chunk) → All (λ chunk. IsChunk chunk) after → IsOpening (opening after)
      opens after passed = record { before_passed = f.passed; one_or_two = few; long = long; short = short; after_passed = passed }

      by_walk : Walk more (Format channels 48000) (length (opening_bytes (opening []))) → FileRead bytes
      by_walk w =
          let bytes_are : bytes ≡ opening_bytes (opening w.before) ++ w.rest =
          f.bytes_are ∙ ap (λ l. form_bytes file_size ++ (flat_map spelled before ++ l)) (is ∙ ap (λ l. chunk_bytes format_letters (format_contents channels d) padding ++ l) w.bytes_are)
          ∙ opened_bytes file_size before w.before channels d padding w.rest in
          let place_now : w.place ≡ length (opening_bytes (opening w.before)) = w.place_is ∙ opening_longer file_size before w.before channels d padding in
          behind_read bytes (opening w.before) w.place w.rest
          (record {
            is_opening = opens w.before w.passed;
            bytes_are = bytes_are;
            place_is = place_now;
            same = ap outcome bytes_are ∙ opening_read (opening w.before) (opens w.before w.passed) w.rest ∙ ap (read w.rest 0 (Format channels 48000)) (sym place_now);
          }) w.small w.stops

pub file_read : (bytes : List ℕ) → AreSmall bytes → FileRead bytes
unfolding outcome
file_read bytes small = by_form (form_read bytes small) where
  by_form : FormRead bytes → FileRead bytes
  by_form (CutForm e) = Cut e
  by_form (BrokenForm place e) = Malformed place e
  by_form (Formed file_size rest rest_small is) =
      let w = walk rest Form 12 refl rest_small in
      form_read_on bytes file_size w.before w.place w.rest
      (record {
        passed = w.passed;
        bytes_are = is ∙ ap (λ l. form_bytes file_size ++ l) w.bytes_are;
        place_is = w.place_is;
        same = ap outcome is ∙ passed_whole (form_bytes file_size) rest Nothing Form 0 (form_told file_size) (omega arith) ∙ w.same;
      }) w.small w.stops
