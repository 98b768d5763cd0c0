use Rattle.std.proofs.Common.{◌^◌, ◌∙◌, ap, arith}
use Rattle.mdct_fixed.specs.Numbers.{at, plus}
use Rattle.mdct_fixed.proofs.RowLemmas.{two_joined, first_within}
use Rattle.mdct_fixed.proofs.rows.row_2.Goals as goal

pub add-requires-clause-a_size : goal.add-requires-clause-a_size
add-requires-clause-a_size c = first_within (at c.args.re.now c.args.im.now) c.args.p c.args.m 2 (2 ^ 46) (2 ^ 60) c.get-first.result c.requires.within (omega arith) c.get-first.ensures (omega arith)

pub add-requires-2-clause-a_size : goal.add-requires-2-clause-a_size
add-requires-2-clause-a_size c = first_within (at c.args.re.now c.args.im.now) c.args.p c.args.m 2 (2 ^ 46) (2 ^ 60) c.get-first.result c.requires.within (omega arith) c.get-first.ensures (omega arith)

pub returns : goal.returns
returns c = λ a w.
    two_joined c.args.m c.args.p a (at c.args.re.now c.args.im.now) (at c.put.new.re c.put.new.im) (at c.put-2.new.re c.put-2.new.im)
    c.get-first.result c.get.result c.add.result c.add-2.result c.args.w c.requires.apart w c.get-first.ensures c.get.ensures
    (c.add.ensures.value ∙ ap (λ v. plus c.get-first.result v) c.quarter_turns-second.ensures.none) (c.add-2.ensures.value ∙ ap (λ v. plus c.get-first.result v) c.quarter_turns-second.ensures.two) c.put.ensures c.put-2.ensures
