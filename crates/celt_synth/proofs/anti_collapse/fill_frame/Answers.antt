use Rattle.std.proofs.Common.{arith, subst, ◌≡◌}
use Rattle.celt_synth.proofs.AntiCollapseLemmas.{all_none, all_more}
use Rattle.celt_synth.proofs.anti_collapse.fill_frame.Goals as goal

pub loop-band-init : goal.loop-band-init
loop-band-init c = record { value = all_none c.args.grounds.now _; left_items = c.requires.left_items; right_items = c.requires.right_items }

pub loop-band-preserved : goal.loop-band-preserved
loop-band-preserved c = record {
  value = all_more c.args.grounds.now c.loop-band.band _ _ _ c.loop-band.invariant.value c.fill_both.ensures.value;
  left_items = c.fill_both.ensures.left_items;
  right_items = c.fill_both.ensures.right_items;
}
