use Rattle.std.proofs.Common.{◌≡◌, ◌∙◌, ap, sym, arith}
use Rattle.std.specs.Prelude.{length}
use Rattle.mdct_fixed.specs.Numbers.{at}
use Rattle.mdct_fixed.specs.Transform.{radices, reversed}
use Rattle.mdct_fixed.proofs.DigitLemmas.{table_60, table_120, table_240, table_480}
use Rattle.mdct_fixed.proofs.digits.reverse_digits.Goals as goal

pub exchange_all-requires-clause-order : goal.exchange_all-requires-clause-order
exchange_all-requires-clause-order c = table_60.order

pub exchange_all-requires-clause-inside : goal.exchange_all-requires-clause-inside
exchange_all-requires-clause-inside c = table_60.inside

pub returns-then-n-eq60 : goal.returns-then-n-eq60
returns-then-n-eq60 c = λ k h.
    let e : length c.args.re.now ≡ 60 = omega arith in
    c.exchange_all.ensures k (omega arith) ∙ ap (at c.args.re.now c.args.im.now) (table_60.value k (omega arith) ∙ ap (λ v. reversed (radices v) k) (sym e))

pub exchange_all-requires-then-n-eq120-clause-order : goal.exchange_all-requires-then-n-eq120-clause-order
exchange_all-requires-then-n-eq120-clause-order c = table_120.order

pub exchange_all-requires-then-n-eq120-clause-inside : goal.exchange_all-requires-then-n-eq120-clause-inside
exchange_all-requires-then-n-eq120-clause-inside c = table_120.inside

pub returns-then-n-eq120 : goal.returns-then-n-eq120
returns-then-n-eq120 c = λ k h.
    let e : length c.args.re.now ≡ 120 = omega arith in
    c.exchange_all-then-n-eq120.ensures k (omega arith) ∙ ap (at c.args.re.now c.args.im.now) (table_120.value k (omega arith) ∙ ap (λ v. reversed (radices v) k) (sym e))

pub exchange_all-requires-then-n-eq240-clause-order : goal.exchange_all-requires-then-n-eq240-clause-order
exchange_all-requires-then-n-eq240-clause-order c = table_240.order

pub exchange_all-requires-then-n-eq240-clause-inside : goal.exchange_all-requires-then-n-eq240-clause-inside
exchange_all-requires-then-n-eq240-clause-inside c = table_240.inside

pub returns-then-n-eq240 : goal.returns-then-n-eq240
returns-then-n-eq240 c = λ k h.
    let e : length c.args.re.now ≡ 240 = omega arith in
    c.exchange_all-then-n-eq240.ensures k (omega arith) ∙ ap (at c.args.re.now c.args.im.now) (table_240.value k (omega arith) ∙ ap (λ v. reversed (radices v) k) (sym e))

pub exchange_all-requires-else-n-eq240-clause-order : goal.exchange_all-requires-else-n-eq240-clause-order
exchange_all-requires-else-n-eq240-clause-order c = table_480.order

pub exchange_all-requires-else-n-eq240-clause-inside : goal.exchange_all-requires-else-n-eq240-clause-inside
exchange_all-requires-else-n-eq240-clause-inside c = table_480.inside

pub returns-else-n-eq240 : goal.returns-else-n-eq240
returns-else-n-eq240 c = λ k h.
    let e : length c.args.re.now ≡ 480 = omega arith in
    c.exchange_all-else-n-eq240.ensures k (omega arith) ∙ ap (at c.args.re.now c.args.im.now) (table_480.value k (omega arith) ∙ ap (λ v. reversed (radices v) k) (sym e))
