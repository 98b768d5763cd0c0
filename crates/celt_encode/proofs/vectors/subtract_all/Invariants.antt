use Rattle.celt_encode.proofs.MixSteps.{Mixing}
use Rattle.std.specs.Prelude.{◌-ℤ◌}
use Rattle.celt_encode.proofs.vectors.subtract_all.Given as goal

abbrev pub invariant-loop-i : goal.invariant-loop-i
invariant-loop-i s = Mixing (λ a b. a -ℤ b) s.l s.r s.out s.i
