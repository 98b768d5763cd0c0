-- The noise of bands without pulses (RFC 6716, 4.3.4.4 and 4.3.5).
use Rattle.std.specs.Prelude.{ℕ, zero, suc, ◌/◌, ◌%◌, nat_eq, if◌then◌else◌, ℤ, pos, ◌+ℤ◌, ◌-ℤ◌, List, length}
use Rattle.std.specs.Int.{w32, cast_signed, int_shr}
use Rattle.fixed_math.specs.Rounding.{noise_after}
use Rattle.fixed_math.specs.Items.{item, listed}

-- the noise's state n steps after a seed
unfoldable pub seed_after : ℕ → ℕ → ℕ
seed_after zero seed = seed
seed_after (suc n) seed = noise_after (seed_after n seed)

-- the highest 12 bits of a state, as a signed number
abbrev pub noise_item : ℕ → ℤ
noise_item seed = int_shr (cast_signed w32 seed) 20

-- n items of noise: each takes a step first
unfoldable pub noise_items : ℕ → ℕ → List ℤ
noise_items n seed = listed n (λ i. noise_item (seed_after (suc i) seed))

-- an item of a source with 4 added or taken off, as bit 15 of the state says
abbrev pub folded_item : ℕ → ℤ → ℤ
folded_item seed v = if nat_eq (seed / 32768 % 2) 1 then v +ℤ pos 4 else v -ℤ pos 4

unfoldable pub folded : ℕ → List ℤ → List ℤ
folded seed xs = listed (length xs) (λ i. folded_item (seed_after (suc i) seed) (item xs i))
