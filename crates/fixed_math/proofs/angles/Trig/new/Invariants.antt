use Rattle.std.proofs.Common.{◌≡◌, ℕ, ◌<◌, get_or}
use Rattle.std.specs.Prelude.{pos, length}
use Rattle.fixed_math.specs.Circle.{point, quarter_cosine}
use Rattle.fixed_math.proofs.angles.Trig.new.Given as goal

abbrev pub invariant-loop-a : goal.invariant-loop-a
invariant-loop-a l = record {
  room : length l.cosines ≡ 3841;
  here : l.p ≡ point l.a;
  done : (k : ℕ) → k < l.a → pos (get_or l.cosines k 0) ≡ quarter_cosine k;
}
