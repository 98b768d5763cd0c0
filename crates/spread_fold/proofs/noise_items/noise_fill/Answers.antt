use Rattle.std.proofs.Common.{◌≡◌, ℕ, suc, ◌<◌, length, ap, ◌∙◌, arith, rules, to_z, of_z}
use Rattle.std.specs.Prelude.{ℤ, FitsSigned}
use Rattle.std.specs.Int.{w64}
use Rattle.std.proofs.lemmas.Int.{to_z-of_z}
use Rattle.spread_fold.specs.Noise.{seed_after, noise_item}
use Rattle.spread_fold.proofs.NoiseLemmas.{filled_start, filled_more, noise_end, noise_size}
use Rattle.spread_fold.proofs.noise_items.noise_fill.Goals as goal

pub loop-i-init : goal.loop-i-init
loop-i-init c = filled_start c.args.seed.now (λ j. noise_item (seed_after (suc j) c.args.seed.now)) c.args.out.now

pub loop-i-preserved : goal.loop-i-preserved
loop-i-preserved c =
    let s : ℕ = c.args.seed.now in
    let v : ℤ = c.high_bits.result in
    let fits : FitsSigned w64 v = search rules in
    let l : c.loop-i.i < length c.loop-i.out = omega arith in
    filled_more c.loop-i.i s c.loop-i.state c.noise-state.result (λ j. noise_item (seed_after (suc j) s)) c.loop-i.out (to_z w64 (of_z w64 v)) l c.noise-state.ensures c.loop-i.invariant
    (λ e. to_z-of_z w64 v fits ∙ c.high_bits.ensures.value ∙ ap (λ k. noise_item k) e)

pub returns-clause-value : goal.returns-clause-value
returns-clause-value c = noise_end (length c.args.out.now) c.loop-i.i c.args.seed.now c.loop-i.state c.loop-i.out (omega arith) (omega arith) c.loop-i.invariant

pub returns-clause-seed : goal.returns-clause-seed
returns-clause-seed c =
    let e : c.loop-i.i ≡ length c.args.out.now = omega arith in
    c.loop-i.invariant.stepped ∙ ap (λ n. seed_after n c.args.seed.now) e

pub returns-clause-size : goal.returns-clause-size
returns-clause-size c =
    noise_size (length c.args.out.now) c.args.seed.now c.loop-i.out (noise_end (length c.args.out.now) c.loop-i.i c.args.seed.now c.loop-i.state c.loop-i.out (omega arith) (omega arith) c.loop-i.invariant)
