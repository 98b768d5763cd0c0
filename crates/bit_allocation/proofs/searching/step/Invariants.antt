use Rattle.std.proofs.Common.{◌-◌, ◌<◌, ◌≤◌}
use Rattle.bit_allocation.specs.Counts.{step_of}
use Rattle.bit_allocation.proofs.searching.step.Given as goal

-- the greatest step that fits is from fits up to below over
abbrev pub invariant-loop-fits : goal.invariant-loop-fits
invariant-loop-fits l = record {
  low : l.fits ≤ step_of l.bands.request l.quality l.rest;
  high : step_of l.bands.request l.quality l.rest < l.over;
  most : l.over ≤ 64;
}

abbrev pub decreases-loop-fits : goal.decreases-loop-fits
decreases-loop-fits l = l.over - l.fits
