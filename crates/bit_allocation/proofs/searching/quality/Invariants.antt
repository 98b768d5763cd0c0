use Rattle.std.proofs.Common.{◌-◌, ◌<◌, ◌≤◌}
use Rattle.bit_allocation.specs.Counts.{quality_of}
use Rattle.bit_allocation.proofs.searching.quality.Given as goal

-- the greatest quality that fits is from fits up to below over
abbrev pub invariant-loop-fits : goal.invariant-loop-fits
invariant-loop-fits l = record {
  low : l.fits ≤ quality_of l.bands.request l.rest;
  high : quality_of l.bands.request l.rest < l.over;
  most : l.over ≤ 11;
}

abbrev pub decreases-loop-fits : goal.decreases-loop-fits
decreases-loop-fits l = l.over - l.fits
