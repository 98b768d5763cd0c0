use Rattle.mdct_fixed.specs.Numbers.{at}
use Rattle.mdct_fixed.proofs.RowLemmas.{four_joined}
use Rattle.mdct_fixed.proofs.rows.row_4.Goals as goal

pub returns : goal.returns
returns c = λ a w.
    four_joined c.args.m c.args.p a (at c.args.re.now c.args.im.now) (at c.put.new.re c.put.new.im) (at c.put-2.new.re c.put-2.new.im) (at c.put-3.new.re c.put-3.new.im) (at c.put-4.new.re c.put-4.new.im)
    _ c.four_sums-z.result c.args.w.now c.requires.apart w
    (record { first = c.get.ensures; second = c.get-2.ensures; third = c.get-3.ensures; fourth = c.get-4.ensures })
    c.four_sums-z.ensures c.put.ensures c.put-2.ensures c.put-3.ensures c.put-4.ensures
