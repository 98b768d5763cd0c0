use Rattle.std.proofs.Common.{◌≡◌, ℕ, ◌<◌, get_or}
use Rattle.std.specs.Prelude.{length}
use Rattle.fixed_math.specs.Powers.{fraction}
use Rattle.fixed_math.proofs.powers.Exp.new.Given as goal

abbrev pub invariant-loop-f : goal.invariant-loop-f
invariant-loop-f l = record {
  room : length l.powers ≡ 1024;
  done : (k : ℕ) → k < l.f → get_or l.powers k 0 ≡ fraction k;
}
