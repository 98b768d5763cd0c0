use Rattle.mdct_fixed.specs.Numbers.{at}
use Rattle.mdct_fixed.proofs.FifthLemmas.{five_joined}
use Rattle.mdct_fixed.proofs.rows.row_5.Goals as goal

pub returns : goal.returns
returns c =
    five_joined c.args.m c.args.p (at c.args.re.now c.args.im.now) (at c.put.new.re c.put.new.im) (at c.put-2.new.re c.put-2.new.im) (at c.put-3.new.re c.put-3.new.im) (at c.put-4.new.re c.put-4.new.im) (at c.put-5.new.re c.put-5.new.im)
    _ c.five_sums-z.result c.requires.apart
    (record { first = c.get.ensures; second = c.get-2.ensures; third = c.get-3.ensures; fourth = c.get-4.ensures; fifth = c.get-5.ensures })
    c.five_sums-z.ensures c.put.ensures c.put-2.ensures c.put-3.ensures c.put-4.ensures c.put-5.ensures
