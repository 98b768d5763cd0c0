use Rattle.std.proofs.Common.{◌∙◌, ap, arith}
use Rattle.band_plan.proofs.PlanSteps.{end_most}
use Rattle.band_shapes.specs.Frames.{symbols_of, start_of}
use Rattle.band_shapes.proofs.RoomLemmas.{end_below, left_vector, right_vector, both_masks, last_seed, front_small, size_is}
use Rattle.band_shapes.proofs.frame.shapes.Goals as goal

pub start_of-end-requires : goal.start_of-end-requires
start_of-end-requires c = let few = end_most c.args.kind in let e = c.from.ensures in omega (arith, few, e)

pub keep-requires-clause-end : goal.keep-requires-clause-end
keep-requires-clause-end c =
    let few = end_most c.args.kind in
    let e = c.start_of-end.ensures.value ∙ ap (start_of c.args.kind) c.from.ensures in
    let b = end_below c.args.kind c.args.kind.end few in
    let d = c.start_of-size.ensures.value in
    omega (arith, e, b, d)

pub keep-requires-2-clause-end : goal.keep-requires-2-clause-end
keep-requires-2-clause-end c =
    let few = end_most c.args.kind in
    let e = c.start_of-end.ensures.value ∙ ap (start_of c.args.kind) c.from.ensures in
    let b = end_below c.args.kind c.args.kind.end few in
    let d = c.start_of-size.ensures.value in
    omega (arith, e, b, d)

pub returns-clause-left : goal.returns-clause-left
returns-clause-left c = c.keep.ensures.value ∙ left_vector c.args.kind (symbols_of c.args.s.now) c.args.invert c.args.seed.now _ _ _ _ c.bands-walked.ensures.made c.start_of-size.ensures.value (c.start_of-end.ensures.value ∙ ap (start_of c.args.kind) c.from.ensures)

pub returns-clause-right : goal.returns-clause-right
returns-clause-right c = c.keep-2.ensures.value ∙ right_vector c.args.kind (symbols_of c.args.s.now) c.args.invert c.args.seed.now c.bands-walked.new.lines _ _ _ c.bands-walked.ensures.made c.start_of-size.ensures.value (c.start_of-end.ensures.value ∙ ap (start_of c.args.kind) c.from.ensures)

pub returns-clause-masks : goal.returns-clause-masks
returns-clause-masks c = both_masks c.args.kind (symbols_of c.args.s.now) c.args.invert c.args.seed.now c.bands-walked.new.lines c.bands-walked.result _ c.bands-walked.ensures.made (omega arith)

pub returns-clause-seed : goal.returns-clause-seed
returns-clause-seed c = last_seed c.args.kind (symbols_of c.args.s.now) c.args.invert c.args.seed.now c.bands-walked.new.lines c.bands-walked.result c.bands-walked.ensures.made

pub returns-clause-left_size : goal.returns-clause-left_size
returns-clause-left_size c = front_small c.args.kind _ _ _ _ (c.start_of-end.ensures.value ∙ ap (start_of c.args.kind) c.from.ensures) c.keep.ensures.value c.bands-walked.ensures.sound.left

pub returns-clause-right_size : goal.returns-clause-right_size
returns-clause-right_size c = front_small c.args.kind _ _ _ _ (c.start_of-end.ensures.value ∙ ap (start_of c.args.kind) c.from.ensures) c.keep-2.ensures.value c.bands-walked.ensures.sound.right

pub returns-clause-left_count : goal.returns-clause-left_count
returns-clause-left_count c = c.keep.ensures.count ∙ c.start_of-size.ensures.value ∙ size_is c.args.kind

pub returns-clause-right_count : goal.returns-clause-right_count
returns-clause-right_count c = c.keep-2.ensures.count ∙ c.start_of-size.ensures.value ∙ size_is c.args.kind
