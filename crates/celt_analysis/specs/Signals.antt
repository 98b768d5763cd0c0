-- The signal that an encoder transforms: pre-emphasis and the pre-filter, the inverses of the decoder's last steps (RFC
-- 6716, 4.3.7.1 and 4.3.7.2). One channel's samples are a function of their place. Values are in units of 2^-12 of a sample.
use Rattle.std.specs.Prelude.{ℕ, zero, suc, ◌+◌, ◌-◌, ◌*◌, ◌^◌, nat_eq, nat_lt, Bool, if◌then◌else◌, ℤ, pos, ◌-ℤ◌, ◌*ℤ◌, List, slice_index_or}
use Rattle.std.proofs.Common.{arith}
use Rattle.celt_base.specs.declared.kind.Kind.{Kind}
use Rattle.celt_base.specs.declared.state.Setting.{Setting}
use Rattle.fixed_math.specs.Items.{item, listed}
use Rattle.fixed_math.specs.Rounding.{rounded}
use Rattle.post_filter.specs.Comb.{term}

-- pre-emphasis: a sample without 0.85 of the one before it
unfoldable pub emphasized : (ℕ → ℤ) → ℕ → ℤ
emphasized x zero = pos 4096 *ℤ x 0
emphasized x (suc n) = pos 4096 *ℤ x (suc n) -ℤ rounded (pos 27853 *ℤ x n) 3

-- pre-filter: what the comb filter adds at place n, place i of the fade from one setting to the other, is taken away
unfoldable pub filtered : Setting → Setting → ℕ → (ℕ → ℤ) → ℕ → ℤ
filtered from to i p n = p n -ℤ term from to i (listed n p) n

-- ---- the window of a frame: 1145 samples of each channel and those of the frame, channels interleaved

-- how many blocks of 120 samples a frame has, and how many samples
abbrev pub blocks_of : Kind → ℕ
blocks_of kind = 2 ^ kind.lm

abbrev pub frame_size : Kind → ℕ
frame_size kind = 120 * blocks_of kind

abbrev pub window_size : Kind → ℕ
window_size kind = kind.channels * (1145 + frame_size kind)

-- a frame has two channels
abbrev pub is_stereo : Kind → Bool
is_stereo kind = nat_eq kind.channels 2

-- the samples of channel c
abbrev pub channel_in : ℕ → List ℤ → ℕ → ℕ → ℤ
channel_in channels window c n = item window (channels * n + c)

-- the setting that is off
abbrev pub off : Setting
off = record { period = 15; gain = 0; tapset = 0; least_period = omega arith; most_period = omega arith; most_gain = omega arith; most_tapset = omega arith }

-- the settings of the two frames before and of the frame
abbrev pub setting_of : List Setting → ℕ → Setting
setting_of settings k = slice_index_or settings k off

-- value t from place at on, which is place i + t of the fade
abbrev pub filtered_from : Setting → Setting → ℕ → (ℕ → ℤ) → ℕ → ℕ → ℤ
filtered_from from to i p at t = filtered from to (i + t) p (at + t)

-- the values that are transformed: 120 of the frame before, and those of the frame of n samples, from p, its window with
-- pre-emphasis
unfoldable pub value_at : ℕ → List Setting → (ℕ → ℤ) → ℕ → ℤ
value_at n settings p t =
    if nat_lt t 120
    then filtered_from (setting_of settings 0) (setting_of settings 1) (n - 120) p 1025 t
    else filtered_from (setting_of settings 1) (setting_of settings 2) 0 p 1145 (t - 120)

-- from the samples x of the window
abbrev pub values_in : ℕ → List Setting → (ℕ → ℤ) → List ℤ
values_in n settings x = listed (n + 120) (value_at n settings (emphasized x))

-- of channel c of a window
abbrev pub channel_values : Kind → List Setting → List ℤ → ℕ → List ℤ
channel_values kind settings window c = values_in (frame_size kind) settings (channel_in kind.channels window c)
