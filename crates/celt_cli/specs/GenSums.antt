-- What `gen` counts of the samples that come out: how many there are, and a sum over them.
use Rattle.std.specs.Prelude.{◌≡◌, ℕ, ℤ, ◌+◌, ◌-◌, ◌*◌, ◌%◌, ◌^◌, List, length, drop}
use Rattle.std.specs.List.{fold}
use Rattle.std.specs.Int.{w16, cast_unsigned}
use Rattle.celt_cli.specs.declared.tally.Tally.{Tally}

-- a sum with one more sample, modulo 2^32
abbrev pub summed : ℕ → ℤ → ℕ
summed sum sample = (31 * sum + cast_unsigned w16 sample) % 2 ^ 32

unfoldable pub sum_of : List ℤ → ℕ
sum_of samples = fold summed 0 samples

-- of decoded samples, channels interleaved, those that come out: the first 120 pairs are dropped
abbrev pub coming_out : List ℤ → List ℤ
coming_out samples = drop 240 samples

-- these samples were decoded
pub record HasTallied (samples : List ℤ) (tally : Tally) : Type 0 where
  pub dropping : tally.dropping ≡ 240 - length samples
  pub count : tally.count ≡ length (coming_out samples)
  pub sum : tally.sum ≡ sum_of (coming_out samples)
