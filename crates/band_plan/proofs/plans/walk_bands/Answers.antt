use Rattle.std.specs.Prelude.{FitsSigned}
use Rattle.std.specs.Int.{w32}
use Rattle.std.proofs.lemmas.Int.{to_z-of_z}
use Rattle.celt_base.proofs.WalkOrders.{may_give}
use Rattle.band_plan.proofs.BandLaws.{bands_may}
use Rattle.band_plan.proofs.FrameSteps.{frame_is}
use Rattle.band_plan.proofs.plans.walk_bands.Goals as goal

pub plan_bands-requires-clause-frame : goal.plan_bands-requires-clause-frame
plan_bands-requires-clause-frame g c =
    let f : FitsSigned w32 c.args.total = c.ranges.total in
    rw (to_z-of_z w32 c.args.total f) (frame_is c.args.kind c.args.bands.now c.args.a.now c.args.total c.requires.settings c.requires.allocation c.requires.total)

pub returns-clause-trees : goal.returns-clause-trees
returns-clause-trees g c =
    let w = c.plan_bands.ensures.walked in
    let t = bands_may c.args.kind c.args.bands.now c.args.a.now _ w.plans (may_give w.walked.adds) in
    record { plans = w.plans; bands = t.bands; nodes = w.nodes_are; trees = t.trees; settings = c.requires.settings; mono = c.requires.allocation.mono_dual }
