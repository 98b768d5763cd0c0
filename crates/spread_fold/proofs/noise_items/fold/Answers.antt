use Rattle.std.proofs.Common.{◌≡◌, ℕ, suc, ◌<◌, length, ap, ◌∙◌, arith, rules, to_z, of_z}
use Rattle.std.specs.Prelude.{ℤ, FitsSigned}
use Rattle.std.specs.Int.{w64}
use Rattle.std.proofs.lemmas.Int.{to_z-of_z}
use Rattle.fixed_math.specs.Items.{item}
use Rattle.spread_fold.specs.Noise.{seed_after, folded_item}
use Rattle.spread_fold.proofs.NoiseLemmas.{filled_start, filled_more, fold_end, fold_size}
use Rattle.spread_fold.proofs.noise_items.fold.Goals as goal

pub loop-i-init : goal.loop-i-init
loop-i-init c = filled_start c.args.seed.now (λ j. folded_item (seed_after (suc j) c.args.seed.now) (item c.args.source.now j)) c.args.out.now

pub loop-i-preserved : goal.loop-i-preserved
loop-i-preserved c =
    let s : ℕ = c.args.seed.now in
    let v : ℤ = c.shifted.result in
    let x : ℤ = item c.args.source.now c.loop-i.i in
    let fits : FitsSigned w64 v = search rules in
    let fx : FitsSigned w64 x = search rules in
    let l : c.loop-i.i < length c.loop-i.out = omega arith in
    let g : v ≡ folded_item c.noise-state.result x = c.shifted.ensures.value ∙ ap (folded_item c.noise-state.result) (to_z-of_z w64 x fx) in
    filled_more c.loop-i.i s c.loop-i.state c.noise-state.result (λ j. folded_item (seed_after (suc j) s) (item c.args.source.now j)) c.loop-i.out (to_z w64 (of_z w64 v)) l c.noise-state.ensures c.loop-i.invariant
    (λ e. to_z-of_z w64 v fits ∙ g ∙ ap (λ k. folded_item k x) e)

pub returns-clause-value : goal.returns-clause-value
returns-clause-value c = fold_end (length c.args.source.now) c.loop-i.i c.args.seed.now c.loop-i.state c.args.source.now c.loop-i.out (omega arith) (omega arith) (omega arith) c.loop-i.invariant

pub returns-clause-seed : goal.returns-clause-seed
returns-clause-seed c =
    let e : c.loop-i.i ≡ length c.args.source.now = omega arith in
    c.loop-i.invariant.stepped ∙ ap (λ n. seed_after n c.args.seed.now) e

pub returns-clause-growth : goal.returns-clause-growth
returns-clause-growth c = λ m h.
    fold_size c.args.seed.now m c.args.source.now c.loop-i.out (fold_end (length c.args.source.now) c.loop-i.i c.args.seed.now c.loop-i.state c.args.source.now c.loop-i.out (omega arith) (omega arith) (omega arith) c.loop-i.invariant) h
