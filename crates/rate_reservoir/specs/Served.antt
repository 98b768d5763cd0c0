-- What a reservoir stands for: the wishes that it answered.
use Rattle.std.specs.Prelude.{◌≡◌, ℕ, List}
use Rattle.rate_reservoir.specs.declared.reservoir.Reservoir.{Reservoir}
use Rattle.rate_reservoir.specs.Lengths.{credit_of}

pub record HasServed (reservoir : Reservoir) (bytes most : ℕ) (wishes : List ℕ) : Type 0 where
  pub bytes_is : reservoir.bytes ≡ bytes
  pub most_is : reservoir.most ≡ most
  pub credit_is : reservoir.credit ≡ credit_of bytes most wishes
