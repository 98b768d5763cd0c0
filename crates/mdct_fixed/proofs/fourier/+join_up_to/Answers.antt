use Rattle.std.proofs.Common.{◌≡◌, ◌/◌, ◌%◌, ◌^◌, ◌∙◌, ap, sym, arith, length}
use Rattle.mdct_fixed.specs.Numbers.{at}
use Rattle.mdct_fixed.specs.Transform.{radix, radices}
use Rattle.mdct_fixed.proofs.PlanLemmas.{radix_whole, joined_next, plan_of}
use Rattle.mdct_fixed.proofs.FourierLemmas.{inner_facts, one_item, inner_within, at_within, whole_number}
use Rattle.mdct_fixed.proofs.fourier.+join_up_to.Goals as goal

pub nonzero_div-inner : goal.nonzero_div-inner
nonzero_div-inner t c =
    let f = inner_facts c.args.len (length c.args.re.now) (omega arith) c.requires.divides c.requires.runs in
    let a = f.low in
    let e = c.radix_of.ensures in
    omega arith

pub join_up_to-requires : goal.join_up_to-requires
join_up_to-requires t c =
    let f = inner_facts c.args.len (length c.args.re.now) (omega arith) c.requires.divides c.requires.runs in
    let e : c.args.len / c.radix_of.result ≡ c.args.len / radix c.args.len = ap (λ r. c.args.len / r) c.radix_of.ensures in
    let d = c.decreases in
    let s = f.smaller in
    rw e (omega arith, (c.requires.one_length, (f.some, (f.divides, (f.runs, c.requires.within)))))

pub join_all-requires-clause-within : goal.join_all-requires-clause-within
join_all-requires-clause-within t c = λ i l h.
    let f = inner_facts c.args.len (length c.args.re.now) (omega arith) c.requires.divides c.requires.runs in
    let e : c.args.len / c.radix_of.result ≡ c.args.len / radix c.args.len = ap (λ r. c.args.len / r) c.radix_of.ensures in
    let p = plan_of (c.args.len / radix c.args.len) f.some f.divides in
    let w = whole_number (length c.args.re.now) c.args.len c.requires.runs in
    inner_within (c.args.len / radix c.args.len) (at c.args.re.now c.args.im.now) (at c.join_up_to.new.re c.join_up_to.new.im) i f.some f.divides
    (at_within c.args.re.now c.args.im.now (2 ^ 31) (length c.args.re.now) (omega arith) (omega arith) c.requires.within)
    (c.join_up_to.ensures (radices (c.args.len / radix c.args.len)) p.plan (p.size ∙ sym e) i (omega arith))

pub returns-then-len-gt1 : goal.returns-then-len-gt1
returns-then-len-gt1 t c = λ rs p s i h.
    let e : c.args.len / c.radix_of.result ≡ c.args.len / radix c.args.len = ap (λ r. c.args.len / r) c.radix_of.ensures in
    let q : length c.join_up_to.new.re ≡ length c.args.re.now = omega arith in
    let w = whole_number (length c.join_up_to.new.re) c.args.len (ap (λ n. n % c.args.len) q ∙ c.requires.runs) in
    joined_next rs c.args.len (length c.join_up_to.new.re / c.args.len) (length c.args.re.now) (at c.args.re.now c.args.im.now) (at c.join_up_to.new.re c.join_up_to.new.im) (at c.join_all.new.re c.join_all.new.im)
    p s (omega arith) (omega arith) (radix_whole c.args.len (omega arith) c.requires.divides)
    (λ ts q f j l. c.join_up_to.ensures ts q (f ∙ sym e) j l) c.join_all.ensures i h

pub returns-else-len-gt1 : goal.returns-else-len-gt1
returns-else-len-gt1 t c = λ rs p s i h. one_item rs c.args.len (at c.args.re.now c.args.im.now) i p s c.requires.some (omega arith)
