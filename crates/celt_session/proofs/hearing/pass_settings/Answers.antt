use Rattle.std.proofs.Common.{◌≡◌, length, arith, ◌∙◌, ap}
use Rattle.celt_session.specs.Hearings.{trail_by}
use Rattle.celt_session.proofs.HearingSteps.{passing_none, passing_more}
use Rattle.celt_session.proofs.hearing.pass_settings.Goals as goal

pub loop-k-init : goal.loop-k-init
loop-k-init c = λ own owns. passing_none own c.args.trail c.args.slots.now

pub loop-k-preserved : goal.loop-k-preserved
loop-k-preserved c = λ own owns.
    passing_more own c.args.trail c.args.slots.now c.loop-k.slots c.loop-k.now c.pass_slot-now.result c.loop-k.k _ c.pass_slot-now.new.slot owns (omega arith) (omega arith)
    (record { settings = c.pass_slot-now.ensures.settings; window = c.pass_slot-now.ensures.window; trail = c.pass_slot-now.ensures.trail }) (c.loop-k.invariant own owns)

pub returns-clause-passed : goal.returns-clause-passed
returns-clause-passed c = λ own owns k d less. (c.loop-k.invariant own owns).done k d (omega arith)

pub returns-clause-trail : goal.returns-clause-trail
returns-clause-trail c = λ own owns.
    let e : c.loop-k.k ≡ length c.args.slots.now = omega arith in
    (c.loop-k.invariant own owns).trail ∙ ap (trail_by own c.args.trail) e
