use Rattle.std.proofs.Common.{refl}
use Rattle.rate_change.proofs.RateLemmas.{ratio_is, whole_lowest, part_lowest}
use Rattle.rate_change.proofs.ratio.Ratio.of.Goals.{in-8000, in-12000, in-16000, in-24000, in-44100, in-48000}
use Rattle.rate_change.proofs.ratio.Ratio.of.Goals as goal

pub returns : goal.returns
returns c = elim c.match-rate.branch [
  | in-8000 w ↦ ratio_is c.args.rate 8000 c.match-rate.up (6, 1) w.in-8000.is w.up-is (refl, whole_lowest 8000 6 refl)
  | in-12000 w ↦ ratio_is c.args.rate 12000 c.match-rate.up (4, 1) w.in-12000.is w.up-is (refl, whole_lowest 12000 4 refl)
  | in-16000 w ↦ ratio_is c.args.rate 16000 c.match-rate.up (3, 1) w.in-16000.is w.up-is (refl, whole_lowest 16000 3 refl)
  | in-24000 w ↦ ratio_is c.args.rate 24000 c.match-rate.up (2, 1) w.in-24000.is w.up-is (refl, whole_lowest 24000 2 refl)
  | in-44100 w ↦ ratio_is c.args.rate 44100 c.match-rate.up (160, 147) w.in-44100.is w.up-is (refl, part_lowest)
  | in-48000 w ↦ ratio_is c.args.rate 48000 c.match-rate.up (1, 1) w.in-48000.is w.up-is (refl, whole_lowest 48000 1 refl)
]
