-- The comb filter on the pitch (RFC 6716, 4.3.7.1): each output adds what was put out one pitch period before.
-- Gains, taps and weights are in units of 2^-15.
use Rattle.std.specs.Prelude.{◌≡◌, ◌⊎◌, ℕ, zero, suc, ◌+◌, ◌-◌, ◌*◌, ◌/◌, ◌^◌, ◌<◌, ◌≤◌, nat_lt, if◌then◌else◌, ℤ, pos, neg_ℤ, ◌+ℤ◌, ◌*ℤ◌, List, length, slice_set}
use Rattle.std.specs.Int.{int_max, int_min}
use Rattle.celt_base.specs.declared.state.Setting.{Setting}
use Rattle.celt_tables.specs.Tables.{window_entry}
use Rattle.fixed_math.specs.Rounding.{rounded}
use Rattle.fixed_math.specs.Items.{item}

-- the product of two such numbers, rounded
unfoldable pub scaled : ℕ → ℕ → ℕ
scaled a b = (a * b + 2 ^ 14) / 2 ^ 15

-- the three tapsets: the tap at the distance of the period, those one place beside it, and those two places beside it
unfoldable pub centre_tap : ℕ → ℕ
centre_tap zero = 10048
centre_tap (suc zero) = 15200
centre_tap (suc (suc tapset)) = 26208

unfoldable pub near_tap : ℕ → ℕ
near_tap zero = 7112
near_tap (suc zero) = 8784
near_tap (suc (suc tapset)) = 3280

unfoldable pub far_tap : ℕ → ℕ
far_tap zero = 4248
far_tap (suc tapset) = 0

-- the taps of a setting, with its gain
abbrev pub centre : Setting → ℕ
centre setting = scaled setting.gain (centre_tap setting.tapset)

abbrev pub near : Setting → ℕ
near setting = scaled setting.gain (near_tap setting.tapset)

abbrev pub far : Setting → ℕ
far setting = scaled setting.gain (far_tap setting.tapset)

-- the values around the place one period before p, by their weights
unfoldable pub echo : ℕ → ℕ → ℕ → ℕ → List ℤ → ℕ → ℤ
echo c n f period vs p =
    pos c *ℤ item vs (p - period)
    +ℤ pos n *ℤ (item vs (p - period + 1) +ℤ item vs (p - period - 1))
    +ℤ pos f *ℤ (item vs (p - period + 2) +ℤ item vs (p - period - 2))

-- the share of the new setting at place i of a fade: the square of the window, and all of it from place 120 on
unfoldable pub fade : ℕ → ℕ
fade i = if nat_lt i 120 then scaled (window_entry i) (window_entry i) else 2 ^ 15

-- the part of a setting in an output at place p, where it has a share
abbrev pub part : ℕ → Setting → List ℤ → ℕ → ℤ
part share setting vs p = echo (scaled share (centre setting)) (scaled share (near setting)) (scaled share (far setting)) setting.period vs p

-- what is added at place p, which is place i of the fade
unfoldable pub term : Setting → Setting → ℕ → List ℤ → ℕ → ℤ
term from to i vs p = rounded (part (2 ^ 15 - fade i) from vs p +ℤ part (fade i) to vs p) 15

-- what one setting adds alone
unfoldable pub alone : Setting → List ℤ → ℕ → ℤ
alone setting vs p = rounded (echo (centre setting) (near setting) (far setting) setting.period vs p) 15

-- at most 2^30 in size
unfoldable pub limited : ℤ → ℤ
limited z = int_max (neg_ℤ (pos (2 ^ 30))) (int_min z (pos (2 ^ 30)))

-- the n values from place at on are outputs: each is the value that stood there and what is added, which depends on the
-- list of outputs. All others are as before.
pub record AreOutputs (added : ℕ → List ℤ → ℤ) (at n : ℕ) (old new : List ℤ) : Type 0 where
  pub count : length new ≡ length old
  pub each : (i : ℕ) → i < n → item new (at + i) ≡ limited (item old (at + i) +ℤ added i new)
  pub others : (p : ℕ) → (p < at) ⊎ (at + n ≤ p) → item new p ≡ item old p

-- the outputs of the comb filter
abbrev pub AreCombed : Setting → Setting → ℕ → ℕ → List ℤ → List ℤ → Type 0
AreCombed from to at n old new = AreOutputs (λ i vs. term from to i vs (at + i)) at n old new

-- a list with n outputs from place at on, put one after the other
unfoldable pub outputs : (ℕ → List ℤ → ℤ) → ℕ → ℕ → List ℤ → List ℤ
outputs added at zero xs = xs
outputs added at (suc n) xs =
    slice_set (outputs added at n xs) (at + n) (limited (item (outputs added at n xs) (at + n) +ℤ added n (outputs added at n xs)))

-- the list with the outputs of the comb filter
abbrev pub combed : Setting → Setting → ℕ → ℕ → List ℤ → List ℤ
combed from to at n xs = outputs (λ i vs. term from to i vs (at + i)) at n xs

-- A frame: behind 1024 outputs of the frames before, the first 120 of its n values fade from the setting "before" to
-- "now", and the others from "now" to the frame's. A frame of 120 has no others.
unfoldable pub filtered : Setting → Setting → Setting → ℕ → List ℤ → List ℤ
filtered before now frame n xs = combed now frame 1144 (n - 120) (combed before now 1024 120 xs)
