use Rattle.std.proofs.Common.{◌≡◌, ◌-◌, ◌/◌, ◌^◌, ◌<◌}
use Rattle.fixed_math.specs.Powers.{part, power_by}
use Rattle.fixed_math.proofs.powers.power_of.Given as goal

-- the product of the parts of the first k bits
abbrev pub invariant-loop-k : goal.invariant-loop-k
invariant-loop-k l = record {
  here : l.q ≡ power_by part l.k (l.f / 2 ^ (10 - l.k));
  small : l.q < 2 ^ 61;
}
