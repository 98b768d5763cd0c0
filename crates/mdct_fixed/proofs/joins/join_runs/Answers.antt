use Rattle.mdct_fixed.specs.Numbers.{at}
use Rattle.mdct_fixed.proofs.PlanLemmas.{one_run, run_growth}
use Rattle.mdct_fixed.proofs.joins.join_runs.Goals as goal

pub returns-clause-joined : goal.returns-clause-joined
returns-clause-joined c = one_run c.args.from c.args.len (at c.args.re.now c.args.im.now) (at c.join_all.new.re c.join_all.new.im) c.requires.some c.requires.divides c.join_all.ensures

pub returns-clause-growth : goal.returns-clause-growth
returns-clause-growth c = run_growth c.args.from c.args.len (at c.args.re.now c.args.im.now) (at c.join_all.new.re c.join_all.new.im) c.requires.some c.requires.divides c.join_all.ensures
