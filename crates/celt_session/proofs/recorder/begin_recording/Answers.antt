use Rattle.celt_session.specs.EncoderPairs.{pair_work}
use Rattle.celt_session.proofs.Beginning.{begins}
use Rattle.celt_session.proofs.recorder.begin_recording.Goals as goal

pub returns-in-Ok-clause-begun : goal.returns-in-Ok-clause-begun
returns-in-Ok-clause-begun g c =
    let p = c.plan_of-plan.ensures in
    begins pair_work c.args.settings c.args.channels c.args.size c.plan_of-plan.result c.args.maker.now c.fill_up.new.held c.held_len.result c.write_headers.new.room c.requires.channels c.requires.new c.requires.makes
    p.toc p.bytes p.group c.fill_up.ensures.held c.fill_up.ensures.capacity c.held_len.ensures.value c.in-Ok.ensures.room
