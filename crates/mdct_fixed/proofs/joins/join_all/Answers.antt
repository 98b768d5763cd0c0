use Rattle.std.proofs.Common.{◌/◌, sym, subst, arith}
use Rattle.mdct_fixed.specs.Numbers.{at}
use Rattle.mdct_fixed.specs.Joins.{AreJoined}
use Rattle.mdct_fixed.proofs.PlanLemmas.{radix_4, radix_2, radix_3, radix_5, five_only}
use Rattle.mdct_fixed.proofs.joins.join_all.Goals as goal

pub columns_5-requires-clause-radix : goal.columns_5-requires-clause-radix
columns_5-requires-clause-radix c = five_only c.args.runs.len c.requires.some c.requires.divides (omega arith) (omega arith)

pub returns-then-runs-eq0 : goal.returns-then-runs-eq0
returns-then-runs-eq0 c =
    subst (λ r. AreJoined r (c.args.runs.len / r) c.args.runs.from c.args.runs.count (at c.args.re.now c.args.im.now) (at c.columns_4.new.re c.columns_4.new.im)) (sym (radix_4 c.args.runs.len (omega arith))) c.columns_4.ensures

pub returns-then-runs-eq0-2 : goal.returns-then-runs-eq0-2
returns-then-runs-eq0-2 c =
    subst (λ r. AreJoined r (c.args.runs.len / r) c.args.runs.from c.args.runs.count (at c.args.re.now c.args.im.now) (at c.columns_2.new.re c.columns_2.new.im)) (sym (radix_2 c.args.runs.len (omega arith) (omega arith))) c.columns_2.ensures

pub returns-then-runs-eq0-3 : goal.returns-then-runs-eq0-3
returns-then-runs-eq0-3 c =
    subst (λ r. AreJoined r (c.args.runs.len / r) c.args.runs.from c.args.runs.count (at c.args.re.now c.args.im.now) (at c.columns_3.new.re c.columns_3.new.im)) (sym (radix_3 c.args.runs.len (omega arith) (omega arith) (omega arith))) c.columns_3.ensures

pub returns-else-runs-eq0-3 : goal.returns-else-runs-eq0-3
returns-else-runs-eq0-3 c =
    subst (λ r. AreJoined r (c.args.runs.len / r) c.args.runs.from c.args.runs.count (at c.args.re.now c.args.im.now) (at c.columns_5.new.re c.columns_5.new.im)) (sym (radix_5 c.args.runs.len (omega arith) (omega arith) (omega arith))) c.columns_5.ensures
