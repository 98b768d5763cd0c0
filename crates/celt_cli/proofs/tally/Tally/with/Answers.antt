use Rattle.celt_cli.proofs.Tallying.{more_tallied}
use Rattle.celt_cli.proofs.tally.Tally.with.Goals as goal

pub returns-clause-tallied : goal.returns-clause-tallied
returns-clause-tallied c = λ before t.
    more_tallied before c.args.samples.now c.split_at.result.1.now c.args.self c.min-dropped.result c.sum_over.result t c.min-dropped.ensures c.split_at.ensures.back c.sum_over.ensures
