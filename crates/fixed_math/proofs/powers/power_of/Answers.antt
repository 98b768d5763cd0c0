use Rattle.std.proofs.Common.{◌≡◌, ℕ, ◌+◌, ◌-◌, ◌/◌, ◌%◌, ◌^◌, ◌<◌, arith, ap, ◌∙◌, subst, sym}
use Rattle.fixed_math.specs.Powers.{part, power_by, multiplied}
use Rattle.fixed_math.proofs.PowerLemmas.{part_literal, part_entry, power_start, power_step, power_end, prefix_small}
use Rattle.fixed_math.proofs.powers.power_of.Goals as goal

pub loop-k-init : goal.loop-k-init
loop-k-init c = record { here = power_start (c.args.f / 2 ^ 10); small = omega arith }

pub loop-k-preserved : goal.loop-k-preserved
unfolding part_literal
loop-k-preserved c =
    let k : ℕ = c.loop-k.k in
    let q : ℕ = c.loop-k.q in
    let h : k < 10 = omega arith in
    let e : c.times-q.result ≡ power_by part (k + 1) (c.args.f / 2 ^ (10 - (k + 1))) = c.times-q.ensures ∙ ap (multiplied (c.args.f / 2 ^ (9 - k) % 2) q) (part_entry k h) ∙ power_step c.args.f k q h c.loop-k.invariant.here in
    record {
      here = e;
      small = subst (λ x. x < 2 ^ 61) (sym e) (prefix_small c.args.f (k + 1) c.requires (omega arith));
    }

pub returns : goal.returns
returns c =
    let e : c.loop-k.k ≡ 10 = omega arith in
    c.loop-k.invariant.here ∙ ap (λ k. power_by part k (c.args.f / 2 ^ (10 - k))) e ∙ power_end c.args.f
