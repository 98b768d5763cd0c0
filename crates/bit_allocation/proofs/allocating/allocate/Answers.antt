use Rattle.std.proofs.Common.{◌≡◌, ◌∙◌, ap, sym, subst}
use Rattle.std.specs.Prelude.{pos}
use Rattle.std.specs.Int.{w32, cast_signed as to_z, cast_unsigned as of_z}
use Rattle.std.proofs.lemmas.Int.{to_z-of_z}
use Rattle.bit_allocation.specs.declared.request.Request.{Request}
use Rattle.bit_allocation.specs.Amounts.{most_of}
use Rattle.bit_allocation.specs.Plans.{plan_of}
use Rattle.bit_allocation.specs.Scripts.{plan_script}
use Rattle.bit_allocation.specs.Shares.{allocation_of}
use Rattle.bit_allocation.proofs.AllocationLemmas.{allocation_is, plan_walked, allocation_walked, request_with, valid_for}
use Rattle.celt_base.specs.States.{IsAllocation}
use Rattle.celt_base.specs.Walks.{Walked}
use Rattle.bit_allocation.proofs.allocating.allocate.Goals as goal

pub returns-clause-walked : goal.returns-clause-walked
returns-clause-walked g c =
    let p = c.plan_for-planned.result.plan in
    let request : c.bands_of-bands.result.request ≡ request_with c.args.kind c.args.total c.args.boosts.now c.args.trim =
    c.bands_of-bands.ensures
    ∙ ap (λ n. request_with c.args.kind n c.args.boosts.now (to_z w32 (of_z w32 c.args.trim))) (to_z-of_z w32 c.args.total c.ranges.total)
    ∙ ap (λ n. request_with c.args.kind c.args.total c.args.boosts.now n) (to_z-of_z w32 c.args.trim c.ranges.trim) in
    let value : c.spread.result ≡ allocation_of p c.skip-skipped.result c.ask_stereo-stereo.result = c.spread.ensures in
    allocation_walked c.args.kind c.args.total c.args.boosts.now c.args.trim p c.spread.result
    (c.plan_for-planned.ensures.value ∙ ap plan_of request)
    (subst (λ a. Walked g.C.Coder.calls g.H.Chooser.calls (plan_script p) a c.args.coder.now c.args.chooser.now c.ask_stereo-stereo.new.coder c.ask_stereo-stereo.new.chooser)
    (sym value)
    (plan_walked p c.skip-skipped.result c.ask_stereo-stereo.result c.skip-skipped.ensures.walked c.ask_stereo-stereo.ensures.walked))

pub returns-clause-valid : goal.returns-clause-valid
returns-clause-valid g c =
    let p = c.plan_for-planned.result.plan in
    let value : c.spread.result ≡ allocation_of p c.skip-skipped.result c.ask_stereo-stereo.result = c.spread.ensures in
    valid_for p c.args.kind c.spread.result (c.plan_for-planned.ensures.same ∙ ap (λ (r : Request). r.kind) c.bands_of-bands.ensures)
    (subst (IsAllocation (λ band. pos (most_of p.kind band)) p.kind) (sym value)
    (allocation_is p c.skip-skipped.result c.ask_stereo-stereo.result c.plan_for-planned.ensures.is c.skip-skipped.ensures.is c.ask_stereo-stereo.ensures.is))
