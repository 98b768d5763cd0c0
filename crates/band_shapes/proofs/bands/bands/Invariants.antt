use Rattle.std.proofs.Common.{◌≡◌}
use Rattle.band_shapes.specs.Frames.{symbols_of, sofar_of, bands_of, IsSound}
use Rattle.band_shapes.proofs.bands.bands.Given as goal

abbrev pub invariant-loop-i : goal.invariant-loop-i
invariant-loop-i l = (sofar_of l.frame.kind (symbols_of l.frame.symbols.now) l.i l.lines l.walked ≡ bands_of l.frame.kind (symbols_of l.frame.symbols.now) l.frame.invert l.seed l.i) × IsSound l.frame.kind (symbols_of l.frame.symbols.now) l.i l.lines l.walked
