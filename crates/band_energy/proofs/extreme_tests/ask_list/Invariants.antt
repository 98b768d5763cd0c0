use Rattle.std.proofs.Common.{◌+◌, ◌≤◌}
use Rattle.band_energy.proofs.extreme_tests.ask_list.Given as goal

abbrev pub invariant-loop-k : goal.invariant-loop-k
invariant-loop-k g l = g.C.Coder.calls.count l.coder ≤ g.C.Coder.calls.count l.fn.coder + l._k
