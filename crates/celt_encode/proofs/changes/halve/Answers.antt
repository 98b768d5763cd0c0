use Rattle.std.proofs.Common.{arith, length, ap, ◌∙◌}
use Rattle.tf_change.proofs.HaarLemmas.{length-haar}
use Rattle.celt_encode.proofs.ChangeSteps.{stride_small, halves_runs}
use Rattle.celt_encode.proofs.changes.halve.Goals as goal

pub overflow_mul-result : goal.overflow_mul-result
overflow_mul-result c =
    let e = stride_small c.args.g.count c.args.g.stride (length c.args.x.now) c.requires.full c.requires.most c.requires.runs in omega (arith, e)

pub returns-clause-runs : goal.returns-clause-runs
returns-clause-runs c =
    halves_runs (length c.haar.new.x) c.args.g.count c.args.g.stride (omega arith) (ap length c.haar.ensures.value ∙ length-haar c.args.g.stride c.args.x.now ∙ c.requires.runs)
