use Rattle.std.proofs.Common.{◌≡◌, ◌*◌, ◌++◌, take, drop}
use Rattle.wav_edge.specs.Samples.{samples_of}
use Rattle.wav_edge.proofs.samples.to_samples.Given as goal

-- the samples so far and those of the bytes that are left are all samples
abbrev pub invariant-loop-i : goal.invariant-loop-i
invariant-loop-i l = take l.i l.out ++ samples_of (drop (2 * l.i) l.bytes) ≡ samples_of l.bytes
