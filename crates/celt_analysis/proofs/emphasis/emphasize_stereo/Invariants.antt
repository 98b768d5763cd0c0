use Rattle.std.specs.Prelude.{◌≤◌, ◌^◌}
use Rattle.celt_analysis.specs.Signals.{emphasized, channel_in}
use Rattle.celt_analysis.proofs.FillLemmas.{Filled}
use Rattle.celt_analysis.proofs.emphasis.emphasize_stereo.Given as goal

abbrev pub invariant-loop-n : goal.invariant-loop-n
invariant-loop-n l = record {
  some : 1 ≤ l.n;
  filled : Filled (emphasized (channel_in 2 l.window l.channel)) (2 ^ 28) l.n l.out;
}
