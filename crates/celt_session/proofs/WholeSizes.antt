-- The declared size of the samples of a file is that of whole groups.
use Rattle.std.proofs.Common.{◌≡◌, ℕ, zero, suc, ◌+◌, ◌-◌, ◌*◌, ◌%◌, Bool, true, false, nat_le, nat_lt, List, [], ◌∷◌, length, take, drop, Some, None, refl, subst}
use Rattle.std.specs.Prelude.{if◌then◌else◌, ◌==◌}
use Rattle.std.proofs.lemmas.Bool.{eqb-true}
use Rattle.wav_edge.specs.declared.parts.Seen.{Seen}
use Rattle.wav_edge.specs.declared.parts.Seen.TheVariants.{Nothing, Form, Format}
use Rattle.wav_edge.specs.declared.parts.Part.{Part}
use Rattle.wav_edge.specs.declared.parts.Part.TheVariants.{More, Passed, Samples, Broken}
use Rattle.wav_edge.specs.Fields.{fits, riff, wave, format_letters, data_letters}
use Rattle.wav_edge.specs.Parts.{once, bad_riff, unsupported, form_part, size_of, chunk_length, sized, data_part, is_supported, described, coded, format_part, chunk_part, part_at, channels_of, rate_of, codec_of, sub_format_of}
use Rattle.wav_edge.specs.Reading.{Outcome, followed, read, outcome}
use Rattle.wav_edge.specs.Reading.Outcome.{Unfinished, Faulty, Started}

abbrev WholePart : Part → Type 0
WholePart More = Unit {0}
WholePart (Passed seen len) = Unit {0}
WholePart (Samples channels rate None) = Unit {0}
WholePart (Samples channels rate (Some size)) = size % (2 * channels) ≡ 0
WholePart (Broken fault) = Unit {0}

either : (t : Bool) (p q : Part) → (t ≡ true → WholePart p) → (t ≡ false → WholePart q) → WholePart (if t then p else q)
either true p q a b = a refl
either false p q a b = b refl

whole_once : (n : ℕ) (bytes : List ℕ) (p : Part) → WholePart p → WholePart (once n bytes p)
whole_once n bytes p h = either (nat_le n (length bytes)) p More (λ e. h) (λ e. tt)

whole_sized : (channels rate at size : ℕ) → WholePart (sized channels rate at size)
unfolding sized
whole_sized channels rate at size =
    either (size == 0xFFFFFFFF) (Samples channels rate None) (if size % (2 * channels) == 0 then Samples channels rate (Some size) else bad_riff (at + 4)) (λ e. tt)
    (λ e. either (size % (2 * channels) == 0) (Samples channels rate (Some size)) (bad_riff (at + 4)) (λ f. eqb-true (size % (2 * channels)) 0 f) (λ f. tt))

whole_data : (seen : Seen) (at : ℕ) (bytes : List ℕ) → WholePart (data_part seen at bytes)
unfolding data_part
whole_data Nothing at bytes = tt
whole_data Form at bytes = tt
whole_data (Format channels rate) at bytes = whole_once 8 bytes (sized channels rate at (size_of bytes)) (whole_sized channels rate at (size_of bytes))

whole_described : (codec at : ℕ) (bytes : List ℕ) → WholePart (described codec at bytes)
unfolding described
whole_described codec at bytes = either (is_supported codec bytes) (Passed (Format (channels_of bytes) (rate_of bytes)) (chunk_length bytes)) (unsupported at bytes) (λ e. tt) (λ e. tt)

whole_coded : (at : ℕ) (bytes : List ℕ) → WholePart (coded at bytes)
unfolding coded
whole_coded at bytes =
    let extensible = described (sub_format_of bytes) at bytes in
    let plain = described (codec_of bytes) at bytes in
    either (codec_of bytes == 0xFFFE) (if nat_lt (size_of bytes) 40 then bad_riff (at + 4) else once 34 bytes extensible) (once 24 bytes plain)
    (λ e. either (nat_lt (size_of bytes) 40) (bad_riff (at + 4)) (once 34 bytes extensible) (λ f. tt) (λ f. whole_once 34 bytes extensible (whole_described (sub_format_of bytes) at bytes)))
    (λ e. whole_once 24 bytes plain (whole_described (codec_of bytes) at bytes))

whole_format : (seen : Seen) (at : ℕ) (bytes : List ℕ) → WholePart (format_part seen at bytes)
unfolding format_part
whole_format Nothing at bytes = tt
whole_format Form at bytes =
    whole_once 8 bytes (if nat_lt (size_of bytes) 16 then bad_riff (at + 4) else once 10 bytes (coded at bytes))
    (either (nat_lt (size_of bytes) 16) (bad_riff (at + 4)) (once 10 bytes (coded at bytes)) (λ e. tt) (λ e. whole_once 10 bytes (coded at bytes) (whole_coded at bytes)))
whole_format (Format channels rate) at bytes = tt

whole_chunk : (seen : Seen) (at : ℕ) (bytes : List ℕ) → WholePart (chunk_part seen at bytes)
unfolding chunk_part
whole_chunk seen at bytes =
    let passed = once 8 bytes (Passed seen (chunk_length bytes)) in
    let other = if fits format_letters (take 4 bytes) then format_part seen at bytes else passed in
    whole_once 4 bytes (if fits data_letters (take 4 bytes) then data_part seen at bytes else other)
    (either (fits data_letters (take 4 bytes)) (data_part seen at bytes) other (λ e. whole_data seen at bytes)
    (λ e. either (fits format_letters (take 4 bytes)) (format_part seen at bytes) passed (λ f. whole_format seen at bytes) (λ f. whole_once 8 bytes (Passed seen (chunk_length bytes)) tt)))

whole_form : (bytes : List ℕ) → WholePart (form_part bytes)
unfolding form_part
whole_form bytes =
    let inner = if fits wave (take 4 (drop 8 bytes)) then once 12 bytes (Passed Form 12) else bad_riff 8 in
    either (fits riff (take 4 bytes)) inner (bad_riff 0)
    (λ e. either (fits wave (take 4 (drop 8 bytes))) (once 12 bytes (Passed Form 12)) (bad_riff 8) (λ f. whole_once 12 bytes (Passed Form 12) tt) (λ f. tt)) (λ e. tt)

whole_part : (seen : Seen) (at : ℕ) (bytes : List ℕ) → WholePart (part_at seen at bytes)
unfolding part_at
whole_part Nothing at bytes = whole_form bytes
whole_part Form at bytes = whole_chunk Form at bytes
whole_part (Format channels rate) at bytes = whole_chunk (Format channels rate) at bytes

-- ---- of a file

abbrev IsWholeSize : Outcome → Type 0
IsWholeSize (Unfinished between) = Unit {0}
IsWholeSize (Faulty fault) = Unit {0}
IsWholeSize (Started channels rate None place) = Unit {0}
IsWholeSize (Started channels rate (Some size) place) = size % (2 * channels) ≡ 0

whole_followed : (at : ℕ) (p : Part) (next : ℕ → Seen → Outcome) → WholePart p → ((left : ℕ) (seen : Seen) → IsWholeSize (next left seen)) → IsWholeSize (followed at p next)
whole_followed at More next h more = tt
whole_followed at (Passed seen len) next h more = more (len - 1) seen
whole_followed at (Samples channels rate None) next h more = tt
whole_followed at (Samples channels rate (Some size)) next h more = h
whole_followed at (Broken fault) next h more = tt

whole_read : (bytes : List ℕ) (left : ℕ) (seen : Seen) (at : ℕ) → IsWholeSize (read bytes left seen at)
unfolding read
whole_read [] left seen at = tt
whole_read (byte ∷ bytes) (suc left) seen at = whole_read bytes left seen (at + 1)
whole_read (byte ∷ bytes) zero seen at =
    whole_followed at (part_at seen at (byte ∷ bytes)) (λ left' seen'. read bytes left' seen' (at + 1)) (whole_part seen at (byte ∷ bytes)) (λ left' seen'. whole_read bytes left' seen' (at + 1))

whole_outcome : (bytes : List ℕ) → IsWholeSize (outcome bytes)
unfolding outcome
whole_outcome bytes = whole_read bytes 0 Nothing 0

pub whole_size : (bytes : List ℕ) (channels rate size place : ℕ) → outcome bytes ≡ Started channels rate (Some size) place → size % (2 * channels) ≡ 0
whole_size bytes channels rate size place e = subst IsWholeSize e (whole_outcome bytes)
