use Rattle.std.proofs.Common.{◌≡◌, ℕ, ◌+◌, ◌*◌, arith, refl, subst, length}
use Rattle.mdct_fixed.specs.Numbers.{at}
use Rattle.mdct_fixed.proofs.DigitLemmas.{arranged_start, arranged_next, IsArranged}
use Rattle.mdct_fixed.proofs.digits.exchange_all.Goals as goal

pub loop-k-init : goal.loop-k-init
loop-k-init c = arranged_start c.args.partners.now (length c.args.partners.now) (at c.args.re.now c.args.im.now)

pub loop-k-preserved : goal.loop-k-preserved
loop-k-preserved c =
    let n : ℕ = length c.args.partners.now in
    let k : ℕ = c.loop-k.k in
    let old = at c.args.re.now c.args.im.now in
    let e : 2 * k + 1 + 1 ≡ 2 * (k + 1) = omega arith in
    let one = arranged_next c.args.partners.now n (2 * k) _ old (at c.loop-k.re c.loop-k.im) (at c.exchange.new.re c.exchange.new.im)
    refl (c.requires.order (2 * k) (omega arith)) (c.requires.inside (2 * k) (omega arith)) c.exchange.ensures c.loop-k.invariant in
    let two = arranged_next c.args.partners.now n (2 * k + 1) _ old (at c.exchange.new.re c.exchange.new.im) (at c.exchange-in-loop-k.new.re c.exchange-in-loop-k.new.im)
    refl (c.requires.order (2 * k + 1) (omega arith)) (c.requires.inside (2 * k + 1) (omega arith)) c.exchange-in-loop-k.ensures one in
    subst (λ m. IsArranged c.args.partners.now n m old (at c.exchange-in-loop-k.new.re c.exchange-in-loop-k.new.im)) e two

pub returns : goal.returns
returns c = λ k h. c.loop-k.invariant.done k (omega arith)
