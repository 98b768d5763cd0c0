use Rattle.std.proofs.Common.{arith, ap}
use Rattle.std.proofs.lemmas.Int.{ints}
use Rattle.band_plan.specs.declared.orders.Share.{Share}
use Rattle.band_plan.proofs.StereoSteps.{mid_side_coded, first_small, later_small, sides_used}
use Rattle.band_plan.proofs.stereo.mid_side.Goals as goal

pub channel-middle-requires-clause-bits : goal.channel-middle-requires-clause-bits
channel-middle-requires-clause-bits g c =
    (first_small c.stereo_order-order.result c.args.share c.first_share-first.result c.args.theta c.requires.bits c.requires.left c.requires.angle c.stereo_order-order.ensures.is c.first_share-first.ensures).bits

pub channel-middle-requires-clause-left : goal.channel-middle-requires-clause-left
channel-middle-requires-clause-left g c =
    (first_small c.stereo_order-order.result c.args.share c.first_share-first.result c.args.theta c.requires.bits c.requires.left c.requires.angle c.stereo_order-order.ensures.is c.first_share-first.ensures).left

pub later_share-later-requires-clause-first : goal.later_share-later-requires-clause-first
later_share-later-requires-clause-first g c =
    let b = c.requires.bits in
    let s = c.requires.angle.spent in
    let o = c.stereo_order-order.ensures.is.first in
    omega (arith, ints, b, s, o)

pub later_share-later-requires-clause-other : goal.later_share-later-requires-clause-other
later_share-later-requires-clause-other g c =
    let b = c.requires.bits in
    let s = c.requires.angle.spent in
    let o = c.stereo_order-order.ensures.is.other in
    omega (arith, ints, b, s, o)

pub later_share-later-requires-clause-together : goal.later_share-later-requires-clause-together
later_share-later-requires-clause-together g c =
    let b = c.requires.bits in
    let s = c.requires.angle.spent in
    let o = c.stereo_order-order.ensures.is.together in
    omega (arith, ints, b, s, o)

pub channel-requires-clause-bits : goal.channel-requires-clause-bits
channel-requires-clause-bits g c =
    (later_small c.stereo_order-order.result c.args.share c.first_share-first.result c.later_share-later.result c.args.theta c.channel-middle.result.left c.requires.bits c.requires.left c.requires.angle c.stereo_order-order.ensures.is c.first_share-first.ensures
    c.channel-middle.ensures.used c.later_share-later.ensures).bits

pub channel-requires-clause-left : goal.channel-requires-clause-left
channel-requires-clause-left g c =
    (later_small c.stereo_order-order.result c.args.share c.first_share-first.result c.later_share-later.result c.args.theta c.channel-middle.result.left c.requires.bits c.requires.left c.requires.angle c.stereo_order-order.ensures.is c.first_share-first.ensures
    c.channel-middle.ensures.used c.later_share-later.ensures).left

pub returns-clause-coded : goal.returns-clause-coded
returns-clause-coded g c =
    mid_side_coded c.args.band c.args.share c.first_share-first.result c.later_share-later.result c.args.theta c.stereo_order-order.result c.side_of.result c.side_of-2.result c.angle_node.result c.channel-middle.result.left c.channel.result.left _ _ _ _
    c.stereo_order-order.ensures.value c.first_share-first.ensures c.later_share-later.ensures c.side_of.ensures c.side_of-2.ensures c.angle_node.ensures c.push.ensures.items c.channel-middle.ensures.coded c.channel.ensures.coded

pub returns-clause-used : goal.returns-clause-used
returns-clause-used g c =
    sides_used c.args.share.left c.args.theta.spent c.first_share-first.result.left c.channel-middle.result.left c.later_share-later.result.left c.channel.result.left c.requires.angle.spent
    (ap (λ (s : Share). s.left) c.first_share-first.ensures) c.channel-middle.ensures.used (ap (λ (s : Share). s.left) c.later_share-later.ensures) c.channel.ensures.used
