use Rattle.std.proofs.Common.{◌≡◌, ◌+◌, ◌*◌, ◌^◌, ◌∙◌, ap, arith}
use Rattle.mdct_fixed.specs.Numbers.{at, plus, turned}
use Rattle.mdct_fixed.proofs.RowLemmas.{row_within, first_within}
use Rattle.mdct_fixed.proofs.FifthLemmas.{thirds_joined}
use Rattle.mdct_fixed.proofs.rows.row_thirds.Goals as goal

pub third_turns-second-requires : goal.third_turns-second-requires
third_turns-second-requires c = row_within (at c.args.re.now c.args.im.now) c.args.p c.args.m 3 (2 ^ 46) 1 (c.args.p + c.args.m) c.get-y.result c.requires.within (omega arith) (omega arith) c.get-y.ensures

pub third_turns-third-requires : goal.third_turns-third-requires
third_turns-third-requires c = row_within (at c.args.re.now c.args.im.now) c.args.p c.args.m 3 (2 ^ 46) 2 (c.args.p + 2 * c.args.m) c.get-z.result c.requires.within (omega arith) (omega arith) c.get-z.ensures

pub add_two-requires-clause-a_size : goal.add_two-requires-clause-a_size
add_two-requires-clause-a_size c = first_within (at c.args.re.now c.args.im.now) c.args.p c.args.m 3 (2 ^ 46) (2 ^ 61) c.get-x.result c.requires.within (omega arith) c.get-x.ensures (omega arith)

pub add_two-requires-2-clause-a_size : goal.add_two-requires-2-clause-a_size
add_two-requires-2-clause-a_size c = first_within (at c.args.re.now c.args.im.now) c.args.p c.args.m 3 (2 ^ 46) (2 ^ 61) c.get-x.result c.requires.within (omega arith) c.get-x.ensures (omega arith)

pub add_two-requires-3-clause-a_size : goal.add_two-requires-3-clause-a_size
add_two-requires-3-clause-a_size c = first_within (at c.args.re.now c.args.im.now) c.args.p c.args.m 3 (2 ^ 46) (2 ^ 61) c.get-x.result c.requires.within (omega arith) c.get-x.ensures (omega arith)

pub returns : goal.returns
returns c =
    thirds_joined c.args.m c.args.p (at c.args.re.now c.args.im.now) (at c.put.new.re c.put.new.im) (at c.put-2.new.re c.put-2.new.im) (at c.put-3.new.re c.put-3.new.im)
    c.get-x.result c.get-y.result c.get-z.result c.add_two.result c.add_two-2.result c.add_two-3.result c.requires.apart c.get-x.ensures c.get-y.ensures c.get-z.ensures
    c.add_two.ensures
    (c.add_two-2.ensures ∙ ap (λ v. plus (plus c.get-x.result v) c.third_turns-third.result.two) c.third_turns-second.ensures.one ∙ ap (λ v. plus (plus c.get-x.result (turned c.get-y.result 5120)) v) c.third_turns-third.ensures.two)
    (c.add_two-3.ensures ∙ ap (λ v. plus (plus c.get-x.result v) c.third_turns-third.result.one) c.third_turns-second.ensures.two ∙ ap (λ v. plus (plus c.get-x.result (turned c.get-y.result 10240)) v) c.third_turns-third.ensures.one)
    c.put.ensures c.put-2.ensures c.put-3.ensures
