use Rattle.band_plan.proofs.PlanSteps.{band_two, band_stereo, band_one, not_two}
use Rattle.band_plan.proofs.plans.code_band.Goals as goal

pub returns-then-is_two-clause-coded : goal.returns-then-is_two-clause-coded
returns-then-is_two-clause-coded g c =
    band_two c.args.band c.args.frame.allocation.now.dual c.args.frame.kind.channels c.args.share c.half_share.result c.is_two.result c.is_two.ensures c.if-is_two.true c.half_share.ensures.value c.two.ensures.coded

pub stereo-requires-clause-more : goal.stereo-requires-clause-more
stereo-requires-clause-more g c = not_two c.args.band c.args.frame.allocation.now.dual c.args.frame.kind.channels c.is_two.result c.is_two.ensures c.if-is_two.false c.if-frame-eq2.true

pub returns-then-frame-eq2-clause-coded : goal.returns-then-frame-eq2-clause-coded
returns-then-frame-eq2-clause-coded g c =
    band_stereo c.args.band c.args.frame.allocation.now.dual c.args.frame.kind.channels c.args.share c.is_two.result c.is_two.ensures c.if-is_two.false c.if-frame-eq2.true c.stereo.ensures.coded

pub returns-clause-coded : goal.returns-clause-coded
returns-clause-coded g c =
    band_one c.args.band c.args.frame.allocation.now.dual c.args.frame.kind.channels c.args.share c.is_two.result c.is_two.ensures c.if-is_two.false c.if-frame-eq2.false c.channel.ensures.coded
