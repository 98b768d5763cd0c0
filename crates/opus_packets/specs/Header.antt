-- The two header packets of an Ogg Opus stream (RFC 7845, section 5).
use Rattle.std.specs.Prelude.{◌≡◌, ℕ, ℤ, ◌+◌, ◌*◌, ◌^◌, ◌<◌, ◌⊎◌, FitsSigned, Bool, not, ◌||◌, ◌&&◌, ◌==◌, nat_eq, nat_lt, nat_le, if◌then◌else◌, List, [], ◌∷◌, ◌++◌, length, slice_index, pos, Result, Ok, Err, codes}
use Rattle.std.specs.List.{starts_with}
use Rattle.std.specs.Int.{w16, cast_signed, cast_unsigned, bytes_low_first}
use Rattle.opus_packets.specs.declared.header.Head.{Head}
use Rattle.opus_packets.specs.declared.header.HeadFault.{HeadFault}
use Rattle.opus_packets.specs.declared.header.HeadFault.TheVariants.{Bad, Family}

-- the number of two octets from place i on, the lowest first
abbrev pub number_at : List ℕ → ℕ → ℕ
number_at bytes i = slice_index bytes i + 256 * slice_index bytes (i + 1)

-- whether the bytes are those of an identification header by length, letters and version: the upper
-- half of the version octet is 0 in every version that reads as this one (RFC 7845, section 5.1)
abbrev pub begins_head : List ℕ → Bool
begins_head bytes =
    nat_le 19 (length bytes) && starts_with nat_eq bytes (codes "OpusHead") && nat_lt (slice_index bytes 8) 16

-- what an identification header says: channels, pre-skip in samples at 48 kHz, output gain in 1/256 dB
abbrev pub fields_of : List ℕ → Head
fields_of bytes = record {
  channels = slice_index bytes 9;
  preskip = number_at bytes 10;
  gain = cast_signed w16 (number_at bytes 16);
}

-- the fields of an identification header, or the first thing that is wrong with it
unfoldable pub head_of : List ℕ → Result Head HeadFault
head_of bytes =
    if not (begins_head bytes) then Err Bad else
    if not (slice_index bytes 18 == 0) then Err Family else
    if slice_index bytes 9 == 1 || slice_index bytes 9 == 2 then Ok (fields_of bytes) else
    Err Bad

-- the fields of an identification header of mapping family 0, in their order (section 5.1), and what
-- stands behind them
pub record Fields : Type 0 where
  pub version : ℕ
  pub channels : ℕ
  pub preskip : ℕ
  pub rate : ℕ
  pub gain : ℤ
  pub rest : List ℕ

abbrev pub spelled_head : Fields → List ℕ
spelled_head f =
    codes "OpusHead"
    ++ (f.version ∷ f.channels ∷ (bytes_low_first 0 2 f.preskip ++ (bytes_low_first 0 4 f.rate
    ++ (bytes_low_first 0 2 (cast_unsigned w16 f.gain) ++ (0 ∷ f.rest)))))

-- fields that a header may have
pub record AreFields (f : Fields) : Type 0 where
  pub version : f.version < 16
  pub channels : (f.channels ≡ 1) ⊎ (f.channels ≡ 2)
  pub preskip : f.preskip < 2 ^ 16
  pub rate : f.rate < 2 ^ 32
  pub gain : FitsSigned w16 f.gain

abbrev pub head_in : Fields → Head
head_in f = record { channels = f.channels; preskip = f.preskip; gain = f.gain }

-- the bytes are those of a header that says this
pub record IsSpelledHead (bytes : List ℕ) (head : Head) : Type 0 where
  pub fields : Fields
  pub sound : AreFields fields
  pub spells : spelled_head fields ≡ bytes
  pub head_is : head_in fields ≡ head

-- the identification header that is written: version 1, a pre-skip of 120 samples and gain 0
abbrev pub written_head : ℕ → ℕ → List ℕ
written_head channels rate =
    spelled_head (record { version = 1; channels = channels; preskip = 120; rate = rate; gain = pos 0; rest = [] })

-- the comment header that is written: the vendor `celt` and no comments (RFC 7845, section 5.2)
abbrev pub written_tags : List ℕ
written_tags = codes "OpusTags" ++ bytes_low_first 0 4 4 ++ codes "celt" ++ bytes_low_first 0 4 0
