-- The words that are accepted, and what they ask for.
use Rattle.std.specs.Prelude.{◌≡◌, ◌⊎◌, ℕ, ⊤, ◌≤◌, ◌+◌, ◌-◌, ◌*◌, ◌==◌, Bool, true, false, not, ◌&&◌, ◌||◌, List, [], ◌∷◌, length, map, Option, None, Some, String, string_bytes, codes, nat_le, if◌then◌else◌}
use Rattle.std.specs.Str.{bytes_eq}
use Rattle.std.specs.declared.alloc.Global.{Global}
use Rattle.celt_session.specs.declared.settings.Form.TheVariants.{Wav, Plain, Ranges}
use Rattle.celt_session.specs.declared.settings.DecodeSettings.{DecodeSettings}
use Rattle.celt_session.specs.declared.settings.Settings.{Settings}
use Rattle.celt_cli.specs.declared.words.Command.{Command}
use Rattle.celt_cli.specs.declared.words.Command.TheVariants.{Decode, Encode, Gen}
use Rattle.celt_cli.specs.Options.{Text, Known, Given, has_option, options_in, value_of}

-- ---- NUMBERS

-- a decimal digit
abbrev pub is_digit : ℕ → Bool
is_digit code = nat_le 48 code && nat_le code 57

-- the number that goes on with these digits; with anything else it is none
unfoldable pub number_from : ℕ → Text → Option ℕ
number_from number [] = Some number
number_from number (code ∷ text) = if is_digit code then number_from (10 * number + (code - 48)) text else None

-- one to ten digits
unfoldable pub number_in : Text → Option ℕ
number_in text = if nat_le 1 (length text) && nat_le (length text) 10 then number_from 0 text else None

-- ---- DECODE AND RANGES

abbrev pub flag : Text → Known
flag name = record { name = name; takes_value = false; is_required = false }

abbrev pub decode_options : List Known
decode_options = flag (codes "raw") ∷ flag (codes "no-inversion") ∷ []

abbrev pub decode_settings : List Given → DecodeSettings
decode_settings givens = record {
  form = if has_option (codes "raw") givens then Plain else Wav;
  invert = not (has_option (codes "no-inversion") givens);
}

abbrev pub decode_by : Option (List Given) → Option Command
decode_by None = None
decode_by (Some givens) = Some (Decode (decode_settings givens))

abbrev pub ranges_by : Option (List Given) → Option Command
ranges_by None = None
ranges_by (Some givens) = Some (Decode (record { form = Ranges; invert = true }))

-- ---- ENCODE

abbrev pub option_with_value : Text → Bool → Known
option_with_value name required = record { name = name; takes_value = true; is_required = required }

abbrev pub encode_options : List Known
encode_options =
    option_with_value (codes "bytes") true ∷ option_with_value (codes "frame") false ∷ option_with_value (codes "band") false
    ∷ option_with_value (codes "group") false ∷ []

-- a number from the least to the most
abbrev pub within : ℕ → ℕ → Option ℕ → Option ℕ
within least most None = None
within least most (Some number) = if nat_le least number && nat_le number most then Some number else None

abbrev pub bytes_in : Option Text → Option ℕ
bytes_in None = None
bytes_in (Some text) = within 2 1275 (number_in text)

-- one of the four sizes, the longest where none is asked for
abbrev pub one_of_sizes : Option ℕ → Option ℕ
one_of_sizes None = None
one_of_sizes (Some frame) = if frame == 120 || frame == 240 || frame == 480 || frame == 960 then Some frame else None

abbrev pub frame_in : Option Text → Option ℕ
frame_in None = Some 960
frame_in (Some text) = one_of_sizes (number_in text)

-- one of the four bandwidths by its name, the full one where none is asked for
abbrev pub band_in : Option Text → Option ℕ
band_in None = Some 3
band_in (Some text) =
    if bytes_eq text (codes "nb") then Some 0 else (if bytes_eq text (codes "wb") then Some 1 else
    (if bytes_eq text (codes "swb") then Some 2 else (if bytes_eq text (codes "fb") then Some 3 else None)))

-- the frames of a packet, 1 to 48; one where nothing is said
abbrev pub group_in : Option Text → Option ℕ
group_in None = Some 1
group_in (Some text) = within 1 48 (number_in text)

-- a packet has at most 5760 samples (RFC 6716, section 3.2.5)
abbrev pub with_group : Settings → Option Command
with_group settings = if nat_le (settings.group * settings.frame) 5760 then Some (Encode settings) else None

abbrev pub encode_with : Option ℕ → Option ℕ → Option ℕ → Option ℕ → Option Command
encode_with None frame band group = None
encode_with (Some bytes) None band group = None
encode_with (Some bytes) (Some frame) None group = None
encode_with (Some bytes) (Some frame) (Some band) None = None
encode_with (Some bytes) (Some frame) (Some band) (Some group) = with_group (record { bytes = bytes; frame = frame; band = band; group = group })

abbrev pub encode_by : Option (List Given) → Option Command
encode_by None = None
encode_by (Some givens) =
    encode_with (bytes_in (value_of (codes "bytes") givens)) (frame_in (value_of (codes "frame") givens))
    (band_in (value_of (codes "band") givens)) (group_in (value_of (codes "group") givens))

-- ---- GEN

abbrev pub gen_options : List Known
gen_options = option_with_value (codes "seed") true ∷ option_with_value (codes "frames") true ∷ []

abbrev pub seed_in : Option Text → Option ℕ
seed_in None = None
seed_in (Some text) = within 0 4294967295 (number_in text)

abbrev pub frames_in : Option Text → Option ℕ
frames_in None = None
frames_in (Some text) = within 1 10000 (number_in text)

abbrev pub gen_with : Option ℕ → Option ℕ → Option Command
gen_with None frames = None
gen_with (Some seed) None = None
gen_with (Some seed) (Some frames) = Some (Gen (record { seed = seed; frames = frames }))

abbrev pub gen_by : Option (List Given) → Option Command
gen_by None = None
gen_by (Some givens) = gen_with (seed_in (value_of (codes "seed") givens)) (frames_in (value_of (codes "frames") givens))

-- ---- ALL WORDS: the command's name, and its options

unfoldable pub command_in : List Text → Option Command
command_in [] = None
command_in (name ∷ words) =
    if bytes_eq name (codes "decode") then decode_by (options_in decode_options words) else
    (if bytes_eq name (codes "encode") then encode_by (options_in encode_options words) else
    (if bytes_eq name (codes "ranges") then ranges_by (options_in [] words) else
    (if bytes_eq name (codes "gen") then gen_by (options_in gen_options words) else None)))

abbrev pub command_of : List (String Global) → Option Command
command_of words = command_in (map string_bytes words)

-- ---- WHAT A COMMAND HOLDS

-- each number of what a stream is encoded with, by itself
pub record AreWithin (settings : Settings) : Type 0 where
  pub least : 2 ≤ settings.bytes
  pub most : settings.bytes ≤ 1275
  pub frame : (settings.frame ≡ 120) ⊎ (settings.frame ≡ 240) ⊎ (settings.frame ≡ 480) ⊎ (settings.frame ≡ 960)
  pub band : settings.band ≤ 3
  pub some : 1 ≤ settings.group
  pub few : settings.group ≤ 48

-- what a stream is encoded with (RFC 6716, sections 3.1 and 3.2)
pub record IsAllowed (settings : Settings) : Type 0 where
  pub within : AreWithin settings
  pub samples : settings.group * settings.frame ≤ 5760

abbrev pub IsCommand : Command → Type 0
IsCommand (Decode settings) = ⊤
IsCommand (Encode settings) = IsAllowed settings
IsCommand (Gen settings) = (1 ≤ settings.frames) × (settings.frames ≤ 10000)
