use Rattle.std.proofs.Common.{arith}
use Rattle.band_plan.proofs.ChannelSteps.{channel_sign, channel_parts, share_small, most_most}
use Rattle.band_plan.proofs.PartBounds.{reach_most}
use Rattle.band_plan.proofs.channels.channel.Goals as goal

pub returns-then-band-eq1-clause-coded : goal.returns-then-band-eq1-clause-coded
returns-then-band-eq1-clause-coded g c = channel_sign c.args.band c.args.channel c.args.share c.if-band-eq1.true c.sign.ensures.coded

pub returns-clause-coded : goal.returns-clause-coded
returns-clause-coded g c =
    channel_parts c.args.band c.args.channel c.args.share c.entered.result c.whole.result c.if-band-eq1.false c.entered.ensures c.whole.ensures.value c.enter.ensures c.part.ensures.coded

pub part-requires-clause-share : goal.part-requires-clause-share
part-requires-clause-share g c = share_small c.args.band.level c.args.share c.requires.band.level.1 c.requires.bits c.requires.left

pub part-requires-clause-few : goal.part-requires-clause-few
part-requires-clause-few g c = let m = most_most c.args.band.level c.requires.band.level.1 in let f = c.requires.few in omega (arith, m, f)

pub part-requires-clause-room : goal.part-requires-clause-room
part-requires-clause-room g c = let m = most_most c.args.band.level c.requires.band.level.1 in let f = c.requires.room in omega (arith, m, f)

pub returns-clause-used : goal.returns-clause-used
returns-clause-used g c = let m = reach_most c.args.band.level c.requires.band.level.1 in let u = c.part.ensures.used in omega (arith, m, u)

pub returns-clause-count : goal.returns-clause-count
returns-clause-count g c = let m = most_most c.args.band.level c.requires.band.level.1 in let u = c.part.ensures.count in omega (arith, m, u)

pub returns-clause-room : goal.returns-clause-room
returns-clause-room g c = let m = most_most c.args.band.level c.requires.band.level.1 in let u = c.part.ensures.room in omega (arith, m, u)
