use Rattle.std.proofs.Common.{◌≡◌, ◌*◌, ◌++◌, take, drop}
use Rattle.wav_edge.specs.Samples.{bytes_of}
use Rattle.wav_edge.proofs.samples.from_samples.Given as goal

-- the bytes so far and those of the samples that are left are all bytes
abbrev pub invariant-loop-i : goal.invariant-loop-i
invariant-loop-i l = take (2 * l.i) l.out ++ bytes_of (drop l.i l.samples) ≡ bytes_of l.samples
