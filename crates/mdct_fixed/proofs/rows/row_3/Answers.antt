use Rattle.std.proofs.Common.{◌+◌, ◌*◌, ◌^◌, arith}
use Rattle.mdct_fixed.specs.Numbers.{at}
use Rattle.mdct_fixed.proofs.RowLemmas.{row_within}
use Rattle.mdct_fixed.proofs.FifthLemmas.{three_joined}
use Rattle.mdct_fixed.proofs.rows.row_3.Goals as goal

pub three_turned-second-requires-clause-x_within : goal.three_turned-second-requires-clause-x_within
three_turned-second-requires-clause-x_within c = row_within (at c.args.re.now c.args.im.now) c.args.p c.args.m 3 (2 ^ 46) 0 c.args.p c.get-x.result c.requires.within (omega arith) (omega arith) c.get-x.ensures

pub three_turned-second-requires-clause-y_within : goal.three_turned-second-requires-clause-y_within
three_turned-second-requires-clause-y_within c = row_within (at c.args.re.now c.args.im.now) c.args.p c.args.m 3 (2 ^ 46) 1 (c.args.p + c.args.m) c.get-y.result c.requires.within (omega arith) (omega arith) c.get-y.ensures

pub three_turned-second-requires-clause-z_within : goal.three_turned-second-requires-clause-z_within
three_turned-second-requires-clause-z_within c = row_within (at c.args.re.now c.args.im.now) c.args.p c.args.m 3 (2 ^ 46) 2 (c.args.p + 2 * c.args.m) c.get-z.result c.requires.within (omega arith) (omega arith) c.get-z.ensures

pub three_turned-third-requires-clause-x_within : goal.three_turned-third-requires-clause-x_within
three_turned-third-requires-clause-x_within c = row_within (at c.args.re.now c.args.im.now) c.args.p c.args.m 3 (2 ^ 46) 0 c.args.p c.get-x.result c.requires.within (omega arith) (omega arith) c.get-x.ensures

pub three_turned-third-requires-clause-y_within : goal.three_turned-third-requires-clause-y_within
three_turned-third-requires-clause-y_within c = row_within (at c.args.re.now c.args.im.now) c.args.p c.args.m 3 (2 ^ 46) 1 (c.args.p + c.args.m) c.get-y.result c.requires.within (omega arith) (omega arith) c.get-y.ensures

pub three_turned-third-requires-clause-z_within : goal.three_turned-third-requires-clause-z_within
three_turned-third-requires-clause-z_within c = row_within (at c.args.re.now c.args.im.now) c.args.p c.args.m 3 (2 ^ 46) 2 (c.args.p + 2 * c.args.m) c.get-z.result c.requires.within (omega arith) (omega arith) c.get-z.ensures

pub returns : goal.returns
returns c = λ a w.
    three_joined c.args.m c.args.p a (at c.args.re.now c.args.im.now) (at c.put.new.re c.put.new.im) (at c.put-2.new.re c.put-2.new.im) (at c.put-3.new.re c.put-3.new.im)
    c.get-x.result c.get-y.result c.get-z.result c.three_turned-first.result c.three_turned-second.result c.three_turned-third.result c.args.w.now c.requires.apart w
    c.get-x.ensures c.get-y.ensures c.get-z.ensures c.three_turned-first.ensures c.three_turned-second.ensures c.three_turned-third.ensures c.put.ensures c.put-2.ensures c.put-3.ensures
