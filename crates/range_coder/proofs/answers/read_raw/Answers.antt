use Rattle.range_coder.proofs.Taking.{takes_raw}
use Rattle.range_coder.proofs.answers.read_raw.Goals as goal

pub returns-clause-takes : goal.returns-clause-takes
returns-clause-takes c =
    takes_raw c.args.frame.now c.args.window c.pass_bits.result c.args.count c.raw_bits.result c.raw_bits.ensures.below c.raw_bits.ensures.value
    (λ i n. c.pass_bits.ensures.shows c.args.frame.now i n) c.pass_bits.ensures.pace
