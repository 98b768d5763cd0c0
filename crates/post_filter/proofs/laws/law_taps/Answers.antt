use Rattle.post_filter.proofs.TapLemmas.{taps_whole, taps_sum, scaled_rounded}
use Rattle.post_filter.proofs.laws.law_taps.Goals as goal

pub returns-clause-whole : goal.returns-clause-whole
returns-clause-whole c = taps_whole

pub returns-clause-most : goal.returns-clause-most
returns-clause-most c = λ setting. taps_sum setting.gain setting.tapset setting.most_gain

pub returns-clause-product : goal.returns-clause-product
returns-clause-product c = scaled_rounded
