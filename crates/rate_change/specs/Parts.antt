-- The parts of a sample that weights are for.
use Rattle.std.specs.Prelude.{ℕ}
use Rattle.rate_change.specs.declared.table.Weights.{Weights}

abbrev pub parts_of : Weights → ℕ
parts_of weights = weights.up
