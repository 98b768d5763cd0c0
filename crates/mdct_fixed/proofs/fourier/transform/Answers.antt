use Rattle.std.proofs.Common.{◌≡◌, ◌*◌, ◌∙◌, arith, subst, sym, length}
use Rattle.mdct_fixed.specs.Numbers.{at, IsWithin}
use Rattle.mdct_fixed.specs.Transform.{radices, growth}
use Rattle.mdct_fixed.proofs.PlanLemmas.{plan_of, joined_all_within}
use Rattle.mdct_fixed.proofs.FourierLemmas.{length_facts, transform_value, reversed_within, at_within}
use Rattle.mdct_fixed.proofs.fourier.transform.Goals as goal

pub returns-clause-value : goal.returns-clause-value
returns-clause-value c = λ s h k l.
    let f = length_facts (length c.args.re.now) c.requires.length in
    let g = f.low in
    let q : length c.reverse_digits.new.re ≡ length c.args.re.now = omega arith in
    transform_value (length c.args.re.now) (at c.args.re.now c.args.im.now) (at c.reverse_digits.new.re c.reverse_digits.new.im) (at c.join_up_to.new.re c.join_up_to.new.im) s
    (omega arith) f.divides c.reverse_digits.ensures (λ rs p e i j. c.join_up_to.ensures rs p (e ∙ sym q) i (omega arith)) h k l

pub returns-clause-size : goal.returns-clause-size
returns-clause-size c = λ n h k l.
    let f = length_facts (length c.args.re.now) c.requires.length in
    let g = f.low in
    let q : length c.reverse_digits.new.re ≡ length c.args.re.now = omega arith in
    let p = plan_of (length c.args.re.now) (omega arith) f.divides in
    let w = reversed_within (length c.args.re.now) n (at c.args.re.now c.args.im.now) (at c.reverse_digits.new.re c.reverse_digits.new.im) (omega arith) f.divides c.reverse_digits.ensures h in
    subst (IsWithin (growth (radices (length c.args.re.now)) * n)) (sym (c.join_up_to.ensures (radices (length c.args.re.now)) p.plan (p.size ∙ sym q) k (omega arith)))
    (joined_all_within (radices (length c.args.re.now)) (at c.reverse_digits.new.re c.reverse_digits.new.im) n
    (at_within c.reverse_digits.new.re c.reverse_digits.new.im n (length c.args.re.now) (omega arith) (omega arith) w) k)
