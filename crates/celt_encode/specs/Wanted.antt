-- What is wanted at each place, by what stands there.
use Rattle.std.specs.Prelude.{ℕ, ◌+◌, ◌-◌, ◌*◌, ◌/◌, ◌^◌, min, Bool, true, false, not, ◌&&◌, if◌then◌else◌, nat_eq, nat_le, nat_lt, int_lt, ℤ, pos, slice_index_or}
use Rattle.celt_base.specs.declared.coder.Place.{Place}
use Rattle.celt_base.specs.declared.coder.Place.TheVariants.{Silence, Filter, Octave, Period, Gain, Tapset, Transient, Intra, Coarse, Tf, TfSelect, Spread, Boost, Trim, Skip, Intensity, Dual, Fine, Theta, Inversion, SideSign, Pulses, Sign, Collapse, Last}
use Rattle.celt_base.specs.declared.state.Setting.{Setting}
use Rattle.celt_tables.specs.Tables.{width_of}
use Rattle.fixed_math.specs.Search.{greatest}
use Rattle.celt_encode.specs.EnergiesWanted.{coarse_wanted, fine_wanted, last_wanted}
use Rattle.celt_encode.specs.Leaves.{pulses_wanted}
use Rattle.celt_encode.specs.Outsets.{Outset}
use Rattle.celt_encode.specs.Standing.{Standing, vector_in}
use Rattle.celt_encode.specs.Vectors.{part_of, split_wanted, stereo_wanted, is_opposed, is_back, is_below}

unfoldable pub flag_of : Bool → ℤ
flag_of flag = if flag then pos 1 else pos 0

unfoldable pub differ : Bool → Bool → Bool
differ true b = not b
differ false b = b

-- A post-filter of this gain is on.
abbrev pub is_on : Setting → Bool
is_on setting = nat_le 3072 setting.gain

-- The octave of a setting's period, and the period's place in it.
unfoldable pub octave_of : Setting → ℕ
octave_of setting = greatest (λ octave. nat_le (16 * 2 ^ octave) (setting.period + 1)) 6

unfoldable pub within_octave : Setting → ℕ
within_octave setting = setting.period + 1 - 16 * 2 ^ octave_of setting

-- The index of a setting's gain, which is a multiple of 3072.
unfoldable pub gain_index : Setting → ℕ
gain_index setting = setting.gain / 3072 - 1

-- A band keeps so many eighths of a bit where they are more than 7 / 16 of a bit for each coefficient.
unfoldable pub is_rich : Outset → ℕ → ℤ → Bool
is_rich f band bits = nat_lt band 21 && int_lt (pos (7 * width_of band * 2 ^ f.kind.lm * 8 / 16)) bits

-- Intensity stereo begins the later the more bytes there are for each 2.5 ms.
unfoldable pub intensity_for : Outset → ℕ → ℕ
intensity_for f coded = min coded (8 + f.len / 2 ^ f.kind.lm / 2)

-- The first turn of a band that is to be boosted.
unfoldable pub is_boosted : Outset → ℕ → ℕ → Bool
is_boosted f band turn = nat_eq turn 0 && slice_index_or f.boosts band false

unfoldable pub wanted : Standing → Place → ℤ
wanted s Silence = flag_of s.frame.silent
wanted s Filter = flag_of (is_on s.frame.setting)
wanted s Octave = pos (octave_of s.frame.setting)
wanted s (Period octave) = pos (within_octave s.frame.setting)
wanted s Gain = pos (gain_index s.frame.setting)
wanted s Tapset = pos 0
wanted s Transient = flag_of s.frame.transient
wanted s Intra = flag_of s.frame.first
wanted s (Coarse band channel) = coarse_wanted s.frame s.answers channel band
wanted s (Tf band current) = flag_of (differ current s.answers.transient)
wanted s TfSelect = pos 0
wanted s Spread = pos s.frame.spread
wanted s (Boost band turn) = flag_of (is_boosted s.frame band turn)
wanted s Trim = s.frame.trim
wanted s (Skip band bits) = flag_of (is_rich s.frame band bits)
wanted s (Intensity coded) = pos (intensity_for s.frame coded)
wanted s Dual = flag_of s.frame.dual
wanted s (Fine band channel bits) = fine_wanted s.frame s.answers channel band bits
wanted s (Theta band channel offset n qn false) = split_wanted (vector_in s channel) offset n qn
wanted s (Theta band channel offset n qn true) = stereo_wanted s.frame band qn
wanted s (Inversion band) = flag_of (is_opposed s.frame band)
wanted s (SideSign band theta) = flag_of (is_back s.frame s.answers band theta)
wanted s (Pulses band channel offset n k blocks) = pulses_wanted blocks k s.answers.spread (part_of (vector_in s channel) offset n)
wanted s (Sign band channel) = flag_of (is_below s.frame band channel)
wanted s Collapse = pos 1
wanted s (Last band channel) = last_wanted s.frame s.answers channel band
