use Rattle.std.proofs.Common.{ℕ, ◌<◌, ◌≤◌}
use Rattle.std.specs.Prelude.{slice_index}
use Rattle.band_energy.proofs.tests.allocation_of.Given as goal

abbrev pub invariant-loop-band : goal.invariant-loop-band
invariant-loop-band l = (band : ℕ) → band < 21 → slice_index l.fine band ≤ 8
