use Rattle.band_plan.proofs.StereoSteps.{pair_coded, pair_small, pair_used, cost_small}
use Rattle.band_plan.proofs.stereo.pair.Goals as goal

pub channel-requires-clause-bits : goal.channel-requires-clause-bits
channel-requires-clause-bits g c = (pair_small c.args.share c.pair_share-one.result c.args.theta c.requires.bits c.requires.left c.requires.angle (cost_small c.args.theta) c.pair_share-one.ensures).bits

pub channel-requires-clause-left : goal.channel-requires-clause-left
channel-requires-clause-left g c = (pair_small c.args.share c.pair_share-one.result c.args.theta c.requires.bits c.requires.left c.requires.angle (cost_small c.args.theta) c.pair_share-one.ensures).left

pub returns-clause-coded : goal.returns-clause-coded
returns-clause-coded g c =
    pair_coded c.args.band c.args.share c.pair_share-one.result c.args.theta c.ask_side-negative.result c.angle_node.result c.channel.result.left _ _ _ _
    c.pair_share-one.ensures c.angle_node.ensures c.push.ensures.items c.push-2.ensures.items c.ask_side-negative.ensures.walked c.channel.ensures.coded

pub returns-clause-used : goal.returns-clause-used
returns-clause-used g c = pair_used c.args.share c.pair_share-one.result c.args.theta c.channel.result.left c.requires.angle (cost_small c.args.theta) c.pair_share-one.ensures c.channel.ensures.used
