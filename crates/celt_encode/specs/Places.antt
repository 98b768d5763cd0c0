-- That what is wanted is said of each question of a frame: it is about a band and a channel that the frame has, and what was entered
-- has the part that it is about. No guard of what is wanted is met there.
use Rattle.std.specs.Prelude.{ℕ, suc, ◌+◌, ◌*◌, ◌/◌, ◌%◌, ◌^◌, ◌<◌, ◌≤◌, ◌≡◌, ⊤, Bool, false, true, not, ◌&&◌, ◌||◌, nat_eq, nat_le, nat_lt, ℤ, pos, negsuc, unsigned_abs, List, [], ◌∷◌, length, slice_index_or, get_or}
use Rattle.celt_base.specs.declared.coder.Enter.{Enter}
use Rattle.celt_base.specs.declared.coder.Place.{Place}
use Rattle.celt_base.specs.declared.coder.Place.TheVariants.{Octave, Period, Gain, Coarse, Tf, Spread, Boost, Skip, Intensity, Fine, Theta, Inversion, SideSign, Pulses, Sign, Last}
use Rattle.celt_base.specs.declared.kind.Kind.{Kind}
use Rattle.celt_base.specs.declared.state.Setting.{Setting}
use Rattle.celt_base.specs.Paces.{Pace}
use Rattle.celt_base.specs.WalkCalls.{heard, meant}
use Rattle.celt_base.specs.WalkScripts.{Script, Done, Look, Ask, Begin}
use Rattle.celt_base.specs.Walks.{Event, Asked, Entered}
use Rattle.celt_tables.specs.Tables.{size_of}
use Rattle.range_coder.specs.Nearest.{IsNearest}
use Rattle.celt_encode.specs.declared.answers.Answers.{Answers}
use Rattle.celt_encode.specs.Changes.{joined, has_row}
use Rattle.celt_encode.specs.Known.{limited}
use Rattle.celt_encode.specs.Leaves.{may_have, are_blocks}
use Rattle.celt_encode.specs.Outsets.{Outset}
use Rattle.celt_encode.specs.Standing.{Standing, vector_in, entered_in, noted}
use Rattle.celt_encode.specs.Vectors.{entered_vector}
use Rattle.celt_encode.specs.Wanted.{wanted}

-- a row of 21 bands for each of two channels
pub record AreRows {A : Type 0} (rows : List (List A)) : Type 0 where
  pub channels : length rows ≡ 2
  pub bands : (channel : ℕ) → channel < 2 → length (get_or rows channel []) ≡ 21

-- What an outset has for each band, and 800 items of each channel, or more.
pub record HasRows (f : Outset) : Type 0 where
  pub boosts : length f.boosts ≡ 21
  pub energies : AreRows f.energies
  pub targets : AreRows f.targets
  pub units : (channel : ℕ) → channel < 2 → 800 ≤ length (slice_index_or f.units channel [])

-- What is known of the answers has an entry for each channel and band; a fine energy has at most 8 bits.
pub record IsKnown (a : Answers) : Type 0 where
  pub coarse : AreRows a.coarse
  pub fine : AreRows a.fine
  pub bits : AreRows a.bits
  pub few_bits : (channel band : ℕ) → get_or (get_or a.bits channel []) band 0 ≤ 8
  pub leans : length a.leans ≡ 21
  pub inverted : length a.inverted ≡ 21

-- A frame of this kind has the channel and the band.
pub record HasBand (kind : Kind) (channel band : ℕ) : Type 0 where
  pub channel_is : channel < kind.channels
  pub band_is : band < kind.end

-- The vector has these n items, from `offset` on.
pub record HasPart (xs : List ℤ) (offset n : ℕ) : Type 0 where
  pub some : 1 ≤ n
  pub inside : offset + n ≤ length xs

-- The vector that was entered last in the channel is the band's, by what was answered then.
pub record IsOpen (s : Standing) (channel band : ℕ) : Type 0 where
  pub answers : Answers
  pub at : Enter
  pub channel_is : at.channel ≡ channel
  pub band_is : at.band ≡ band
  pub vector_is : vector_in s channel ≡ entered_vector s.frame answers at

-- The period is in one of six octaves.
pub record HasOctave (setting : Setting) : Type 0 where
  pub least : 16 ≤ setting.period + 1
  pub most : setting.period + 1 < 1024

-- The place is one that a frame of this kind has, by the vectors that were entered last. Where both channels are meant the second
-- is named.
unfoldable pub IsPlace : Kind → Standing → Place → Type 0
IsPlace kind s Octave = HasOctave s.frame.setting
IsPlace kind s (Period octave) = HasOctave s.frame.setting
IsPlace kind s Gain = 3072 ≤ s.frame.setting.gain
IsPlace kind s (Coarse band channel) = HasBand kind channel band
IsPlace kind s (Tf band current) = band < kind.end
IsPlace kind s (Boost band turn) = band < kind.end
IsPlace kind s (Skip band bits) = band < kind.end
IsPlace kind s (Fine band channel bits) = HasBand kind channel band × (bits ≤ 8)
IsPlace kind s (Theta band channel offset n qn false) =
    HasBand kind channel band × IsOpen s channel band × HasPart (vector_in s channel) offset (n + n) × (1 < qn)
IsPlace kind s (Theta band channel offset n qn true) = HasBand kind 1 band × (n ≡ size_of kind band) × (1 < qn)
IsPlace kind s (Inversion band) = HasBand kind 1 band
IsPlace kind s (SideSign band theta) = HasBand kind 1 band × (size_of kind band ≡ 2)
IsPlace kind s (Pulses band channel offset n k blocks) =
    HasBand kind channel band × IsOpen s channel band × HasPart (vector_in s channel) offset n × (may_have n k ≡ true) × (are_blocks n blocks ≡ true)
IsPlace kind s (Sign band channel) = HasBand kind channel band × (size_of kind band ≡ 1)
IsPlace kind s (Last band channel) = HasBand kind channel band
IsPlace kind s at = ⊤

-- What is told is kept as it is.
unfoldable pub IsTold : Place → ℤ → Type 0
IsTold (Coarse band channel) value = limited value ≡ value
IsTold Spread answer = unsigned_abs answer ≤ 3
IsTold (Intensity coded) answer = unsigned_abs answer ≤ 21
IsTold (Fine band channel bits) answer = unsigned_abs answer ≤ 255
IsTold (Theta band channel offset n qn true) answer = unsigned_abs answer ≤ 256
IsTold at answer = ⊤

-- ---- the vectors that are entered

-- So many runs of so many items are the whole vector, and there is an order for them.
abbrev pub fit_blocks : ℕ → ℕ → Bool → ℕ → Bool
fit_blocks n s hadamard size = nat_eq (n * s) size && (nat_lt 0 s && (not hadamard || has_row s))

-- A vector of this size finds pairs for each join of a change for fewer blocks; and where its blocks are put one behind the other,
-- they fit.
unfoldable pub can_change : ℤ → ℕ → ℕ → Bool
can_change (pos times) blocks size =
    nat_eq (size % 2 ^ times) 0
    && (nat_le (blocks / 2 ^ times) 1 || fit_blocks (size / blocks) (blocks / 2 ^ times * 2 ^ times) (nat_eq blocks 1) size)
can_change (negsuc times) blocks size =
    let r = joined (suc times) (record { items = []; count = size / blocks; stride = blocks }) in
    nat_le r.stride 1 || fit_blocks r.count r.stride (nat_eq blocks 1) size

pub record CanChange (tf : ℤ) (blocks size : ℕ) : Type 0 where
  pub some : 1 ≤ size
  pub some_blocks : 1 ≤ blocks
  pub divides : size % blocks ≡ 0
  pub few : unsigned_abs tf ≤ 3
  pub fits : can_change tf blocks size ≡ true

unfoldable pub IsEntered : Kind → Standing → Enter → Type 0
IsEntered kind s at = HasBand kind at.channel at.band × CanChange at.tf at.blocks (size_of kind at.band)

-- At whatever pace, each place of the script is one that the frame has, where each question before has an answer that is nearest
-- to what is wanted there.
abbrev pub AllPlaces : {A : Type 0} → Kind → Standing → Script A → Type 0
AllPlaces kind s (Done value) = ⊤
AllPlaces kind s (Look look) = (pace : Pace) → AllPlaces kind s (look pace)
AllPlaces kind s (Begin at script) = IsKnown s.answers × IsEntered kind s at × AllPlaces kind (entered_in s at) script
AllPlaces kind s (Ask at question follow) =
    IsKnown s.answers
    × IsPlace kind s at
    × ((answer : ℤ) → IsNearest question (meant at question (wanted s at)) answer
    → IsTold at (heard at question answer) × AllPlaces kind (noted s (Asked at question answer)) (follow answer))

-- The same of the events of a list.
abbrev pub AreMet : Kind → Standing → List Event → Type 0
AreMet kind s [] = ⊤
AreMet kind s (Asked at question answer ∷ events) =
    IsKnown s.answers × IsPlace kind s at × IsTold at (heard at question answer) × AreMet kind (noted s (Asked at question answer)) events
AreMet kind s (Entered at ∷ events) = IsKnown s.answers × IsEntered kind s at × AreMet kind (entered_in s at) events
