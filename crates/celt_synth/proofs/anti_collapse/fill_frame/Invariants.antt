use Rattle.celt_synth.specs.Shapes.{shapes_of}
use Rattle.celt_synth.proofs.AntiCollapseLemmas.{Uncollapsing}
use Rattle.celt_synth.proofs.anti_collapse.fill_frame.Given as goal

abbrev pub invariant-loop-band : goal.invariant-loop-band
invariant-loop-band l = Uncollapsing l.grounds (shapes_of l.fn.left l.fn.right l.fn.seed) l.band l.left l.right l.seed
