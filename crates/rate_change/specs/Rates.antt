-- Rates of input, what 48000 Hz is to each of them, and how many samples come of how many.
use Rattle.std.specs.Prelude.{◌≡◌, ◌≢◌, ℕ, ◌+◌, ◌-◌, ◌*◌, ◌/◌, ◌<◌, Bool, ◌||◌, ◌&&◌, ◌==◌}

-- in Hz
abbrev pub is_rate : ℕ → Bool
is_rate rate = rate == 8000 || rate == 12000 || rate == 16000 || rate == 24000 || rate == 44100 || rate == 48000

-- up / down is 48000 / rate in lowest terms: no number but 1 divides both
pub record IsLowest (rate up down : ℕ) : Type 0 where
  pub same : up * rate ≡ 48000 * down
  pub lowest : (n k l : ℕ) → up ≡ k * n → down ≡ l * n → n ≡ 1

-- the ratios of the six rates
abbrev pub is_ratio : ℕ → ℕ → Bool
is_ratio up down = (up == 160 && down == 147) || ((up == 6 || up == 4 || up == 3 || up == 2 || up == 1) && down == 1)

-- how many samples at 48000 Hz stand for m samples of input: m * up / down, rounded up
abbrev pub outputs_of : ℕ → ℕ → ℕ → ℕ
outputs_of up down m = (m * up + (down - 1)) / down

-- So many samples of the output does no later input change, where m samples came. At 48000 Hz they are all. Else they are
-- the samples k whose window, which ends 16 places behind place k * down / up, lies before place m.
pub record AreReady (up down m q : ℕ) : Type 0 where
  pub whole : up ≡ 1 → q ≡ outputs_of up down m
  pub first : up ≢ 1 → (k : ℕ) → k < q → k * down / up + 16 < m
  pub no_other : up ≢ 1 → (k : ℕ) → k * down / up + 16 < m → k < q
