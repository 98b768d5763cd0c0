use Rattle.std.proofs.Common.{◌≡◌, suc, ◌-◌, ◌*◌, ◌<◌, ◌≤◌, sym, ap, subst, arith, ◌∙◌}
use Rattle.celt_analysis.specs.Pitch.{gain_steps}
use Rattle.celt_analysis.proofs.PitchLemmas.{gain_steps-more, gain_steps-found, gain_steps-none}
use Rattle.celt_analysis.proofs.search.gain_steps.Goals as goal

pub returns-then-k-e-clause-value : goal.returns-then-k-e-clause-value
returns-then-k-e-clause-value c =
    let e : suc (c.loop-k.k - 1) ≡ c.loop-k.k = omega arith in
    let i : gain_steps c.args.c c.args.e c.loop-k.k ≡ gain_steps c.args.c c.args.e 8 = c.loop-k.invariant.0 in
    let t : 3072 * c.loop-k.k * c.args.e ≤ 16384 * c.args.c = c.if-k-e.true in
    sym e ∙ sym (gain_steps-found c.args.c c.args.e (c.loop-k.k - 1) (subst (λ k. 3072 * k * c.args.e ≤ 16384 * c.args.c) (sym e) t)) ∙ ap (gain_steps c.args.c c.args.e) e ∙ i

pub loop-k-preserved : goal.loop-k-preserved
loop-k-preserved c =
    let e : suc (c.loop-k.k - 1) ≡ c.loop-k.k = omega arith in
    let i : gain_steps c.args.c c.args.e c.loop-k.k ≡ gain_steps c.args.c c.args.e 8 = c.loop-k.invariant.0 in
    let t : 16384 * c.args.c < 3072 * c.loop-k.k * c.args.e = omega (arith, c.if-k-e.false) in
    (sym (gain_steps-more c.args.c c.args.e (c.loop-k.k - 1) (subst (λ k. 16384 * c.args.c < 3072 * k * c.args.e) (sym e) t)) ∙ ap (gain_steps c.args.c c.args.e) e ∙ i, omega (arith, c.loop-k.invariant.1))

pub returns-clause-value : goal.returns-clause-value
returns-clause-value c =
    let e : c.loop-k.k ≡ 0 = omega arith in
    let i : gain_steps c.args.c c.args.e c.loop-k.k ≡ gain_steps c.args.c c.args.e 8 = c.loop-k.invariant.0 in
    sym (gain_steps-none c.args.c c.args.e) ∙ ap (gain_steps c.args.c c.args.e) (sym e) ∙ i
