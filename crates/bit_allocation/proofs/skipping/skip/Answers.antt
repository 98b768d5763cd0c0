use Rattle.std.proofs.Common.{◌-◌, sym, arith}
use Rattle.celt_base.proofs.BandEnds.{end_most}
use Rattle.bit_allocation.proofs.SkipSteps.{skip_start, skip_stays, skip_goes, skip_ends, bit_used}
use Rattle.bit_allocation.proofs.skipping.skip.Goals as goal

pub loop-coded-init : goal.loop-coded-init
loop-coded-init g c = skip_start c.args.planned.now.plan c.from-coded.result c.args.planned.now.sum c.requires.plan c.from-coded.ensures c.requires.sum

pub offer-offer-requires-clause-most : goal.offer-offer-requires-clause-most
offer-offer-requires-clause-most g c =
    let p = c.args.planned.now.plan in
    let i = c.loop-coded.invariant.is in
    let most = i.most in
    let t = c.loop-coded-test.true in
    let bit = bit_used p c.loop-coded.coded c.loop-coded.invariant.asked c.loop-coded.used c.loop-coded.bits (c.loop-coded.coded - 1) i (omega (arith, most, t)) in
    let left = c.left-left.ensures in
    let fits = i.fits in
    let whole = c.requires.plan.whole in
    omega (arith, bit, left, fits, whole)

pub turn-requires-clause-offer : goal.turn-requires-clause-offer
turn-requires-clause-offer g c =
    let p = c.args.planned.now.plan in
    let i = c.loop-coded.invariant.is in
    let most = i.most in
    let t = c.loop-coded-test.true in
    let bit = bit_used p c.loop-coded.coded c.loop-coded.invariant.asked c.loop-coded.used c.loop-coded.bits (c.loop-coded.coded - 1) i (omega (arith, most, t)) in
    let left = c.left-left.ensures in
    let fits = i.fits in
    let whole = c.requires.plan.whole in
    let within = c.offer-offer.ensures.within in
    omega (arith, bit, left, fits, whole, within)

pub turn-requires-clause-few : goal.turn-requires-clause-few
turn-requires-clause-few g c =
    let n = c.loop-coded.invariant.count in
    let few = c.requires.few in
    let t = c.loop-coded-test.true in
    let end = end_most c.args.planned.now.plan.kind in
    omega (arith, n, few, t, end)

pub returns-in-Stays-clause-walked : goal.returns-in-Stays-clause-walked
returns-in-Stays-clause-walked g c =
    let p = c.args.planned.now.plan in
    let t = c.loop-coded-test.true in
    skip_stays p c.loop-coded.coded (c.loop-coded.coded - 1) c.loop-coded.used c.left-left.result c.offer-offer.result c.loop-coded.bits c.args.bands.now.request.kind
    (omega (arith, t)) (omega (arith, t)) (sym c.requires.same) c.loop-coded.invariant c.left-left.ensures c.offer-offer.ensures.value c.in-Stays.ensures.walked

pub returns-in-Stays-clause-count : goal.returns-in-Stays-clause-count
returns-in-Stays-clause-count g c =
    let n = c.loop-coded.invariant.count in
    let m = c.turn.ensures.count in
    let t = c.loop-coded-test.true in
    let end = end_most c.args.planned.now.plan.kind in
    omega (arith, n, m, t, end)

pub overflow_sub-used : goal.overflow_sub-used
overflow_sub-used g c =
    let p = c.args.planned.now.plan in
    let i = c.loop-coded.invariant.is in
    let most = i.most in
    let t = c.loop-coded-test.true in
    let bit = bit_used p c.loop-coded.coded c.loop-coded.invariant.asked c.loop-coded.used c.loop-coded.bits (c.loop-coded.coded - 1) i (omega (arith, most, t)) in
    omega (arith, bit)

pub loop-coded-preserved : goal.loop-coded-preserved
loop-coded-preserved g c =
    let p = c.args.planned.now.plan in
    let t = c.loop-coded-test.true in
    skip_goes p c.loop-coded.coded (c.loop-coded.coded - 1) c.loop-coded.used c.left-left.result c.offer-offer.result c.in-Goes.asked c.in-Goes.share c.loop-coded.bits c.args.bands.now.request.kind
    (omega (arith, t)) (omega (arith, t)) (sym c.requires.same) c.loop-coded.invariant c.left-left.ensures c.offer-offer.ensures.value c.offer-offer.ensures.within
    c.in-Goes.ensures.is c.turn.ensures.count c.in-Goes.ensures.walked

pub returns-clause-walked : goal.returns-clause-walked
returns-clause-walked g c =
    let p = c.args.planned.now.plan in
    let t = c.loop-coded-test.false in
    let above = c.loop-coded.invariant.is.above in
    skip_ends p c.loop-coded.coded (c.loop-coded.coded - 1) c.loop-coded.used c.left.result c.loop-coded.bits
    (omega (arith, above)) (omega (arith, t)) c.loop-coded.invariant c.left.ensures
