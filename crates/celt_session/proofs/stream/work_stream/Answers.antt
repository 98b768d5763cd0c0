use Rattle.celt_session.proofs.stream.work_stream.Goals as goal

pub returns-clause-status : goal.returns-clause-status
returns-clause-status g c = λ start shows. c.feed_all.ensures.status start (c.in-Ok-new.ensures.stands start shows)

pub returns-clause-output : goal.returns-clause-output
returns-clause-output g c = λ start shows. c.feed_all.ensures.output start (c.in-Ok-new.ensures.stands start shows)
