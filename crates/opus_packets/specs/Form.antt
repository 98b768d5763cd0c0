-- How an Opus packet is spelled: its first octet, its form and its frames (RFC 6716, section 3).
use Rattle.std.specs.Prelude.{◌≡◌, ℕ, ◌+◌, ◌-◌, ◌*◌, ◌/◌, ◌%◌, ◌<◌, ◌≤◌, Bool, true, false, nat_lt, if◌then◌else◌, List, [], ◌∷◌, ◌++◌, All, map, flat_map, length, take, replicate, slice_index, Option, Some, None, is_some, ⊤}
use Rattle.std.specs.List.{concat}
use Rattle.opus_packets.specs.Packet.{config_of, duration_of}

-- padding (section 3.2.5): `more` length octets of 255, a last one below 255, and the padding itself
pub record Padding : Type 0 where
  pub more : ℕ
  pub last : ℕ
  pub bytes : List ℕ

-- the four codes (section 3.2), with their frames
pub data Form : Type 0 where
  One : List ℕ → Form
  TwoEqual : List ℕ → List ℕ → Form
  Two : List ℕ → List ℕ → Form
  -- whether the lengths are given, and the padding where there is one
  Many : Bool → Option Padding → List (List ℕ) → Form

abbrev pub frames_in : Form → List (List ℕ)
frames_in (One f) = f ∷ []
frames_in (TwoEqual f g) = f ∷ g ∷ []
frames_in (Two f g) = f ∷ g ∷ []
frames_in (Many given padding fs) = fs

-- a length in octets (section 3.2.1)
abbrev pub length_octets : ℕ → List ℕ
length_octets n = if nat_lt n 252 then n ∷ [] else (252 + n % 4) ∷ ((n - 252) / 4) ∷ []

-- the lengths of all frames but the last
abbrev pub lengths_octets : List (List ℕ) → List ℕ
lengths_octets fs = flat_map (λ f. length_octets (length f)) (take (length fs - 1) fs)

abbrev pub padding_octets : Option Padding → List ℕ
padding_octets None = []
padding_octets (Some p) = replicate p.more 255 ++ p.last ∷ []

abbrev pub padding_bytes : Option Padding → List ℕ
padding_bytes None = []
padding_bytes (Some p) = p.bytes

-- the second octet of code 3: count, flag of padding, flag of given lengths
abbrev pub count_octet : Bool → Option Padding → ℕ → ℕ
count_octet given padding count =
    count + 64 * (if is_some padding then 1 else 0) + 128 * (if given then 1 else 0)

-- the packet of a form, under a first octet whose code, its two low bits, is 0
abbrev pub spelled : ℕ → Form → List ℕ
spelled toc (One f) = toc ∷ f
spelled toc (TwoEqual f g) = (toc + 1) ∷ (f ++ g)
spelled toc (Two f g) = (toc + 2) ∷ (length_octets (length f) ++ f ++ g)
spelled toc (Many given padding fs) =
    (toc + 3) ∷ count_octet given padding (length fs)
    ∷ (padding_octets padding ++ (if given then lengths_octets fs else []) ++ concat fs ++ padding_bytes padding)

-- as much padding as its length octets say
abbrev pub IsPadding : Option Padding → Type 0
IsPadding None = ⊤
IsPadding (Some p) = (p.last < 255) × (length p.bytes ≡ 254 * p.more + p.last)

-- where the lengths are not given, they are all the same
abbrev pub AreEqualUnless : Bool → List (List ℕ) → Type 0
AreEqualUnless true fs = ⊤
AreEqualUnless false fs = (n : ℕ) × (map length fs ≡ replicate (length fs) n)

-- one frame or more, which last at most 120 ms in all
pub record IsMany (toc : ℕ) (given : Bool) (padding : Option Padding) (fs : List (List ℕ)) : Type 0 where
  pub some : 1 ≤ length fs
  pub short : length fs * duration_of (config_of toc) ≤ 5760
  pub equal : AreEqualUnless given fs
  pub padded : IsPadding padding

abbrev pub IsOfCode : ℕ → Form → Type 0
IsOfCode toc (One f) = ⊤
IsOfCode toc (TwoEqual f g) = length f ≡ length g
IsOfCode toc (Two f g) = ⊤
IsOfCode toc (Many given padding fs) = IsMany toc given padding fs

-- a form that a packet may have: each frame has at most 1275 bytes (section 3.4)
pub record IsSound (toc : ℕ) (form : Form) : Type 0 where
  pub code : toc % 4 ≡ 0
  pub limited : All (λ f. length f ≤ 1275) (frames_in form)
  pub of_code : IsOfCode toc form

-- each item is a byte
abbrev pub AreBytes : List ℕ → Type 0
AreBytes bytes = (i : ℕ) → slice_index bytes i < 256

-- the packet is that of a sound form with these frames
pub record IsSpelled (packet : List ℕ) (frames : List (List ℕ)) : Type 0 where
  pub toc : ℕ
  pub form : Form
  pub sound : IsSound toc form
  pub spells : spelled toc form ≡ packet
  pub frames_are : frames_in form ≡ frames
