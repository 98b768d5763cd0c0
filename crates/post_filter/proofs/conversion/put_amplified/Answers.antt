use Rattle.std.proofs.Common.{◌≡◌, ℕ, ◌+◌, ◌*◌, ap, arith, rules, subst, sym, ◌∙◌, List, length, get_or}
use Rattle.std.specs.Prelude.{ℤ, pos, FitsSigned, slice_set}
use Rattle.std.specs.Int.{w16, w64}
use Rattle.std.proofs.lemmas.Int.{to_z-of_z}
use Rattle.post_filter.specs.Samples.{ArePut, sample_of}
use Rattle.post_filter.proofs.SampleLemmas.{put_start, put_more}
use Rattle.post_filter.proofs.conversion.put_amplified.Goals as goal

pub loop-i-init : goal.loop-i-init
loop-i-init c = λ gain p. put_start gain c.args.x.now c.args.start c.args.stride c.args.out.now

pub loop-i-preserved : goal.loop-i-preserved
loop-i-preserved c = λ gain p.
    let xs : List ℤ = c.args.x.now in
    let i : ℕ = c.loop-i.i in
    let x : ℤ = get_or xs i (pos 0) in
    let r : ℤ = c.amplified_sample.result in
    let fx : FitsSigned w64 x = search rules in
    let fr : FitsSigned w16 r = search rules in
    let e : r ≡ sample_of gain x = c.amplified_sample.ensures.sample gain p ∙ ap (sample_of gain) (to_z-of_z w64 x fx) in
    subst (λ v. ArePut gain xs c.args.start c.args.stride (i + 1) c.args.out.now (slice_set c.loop-i.out (c.args.start + c.args.stride * i) v)) (sym (to_z-of_z w16 r fr))
    (put_more gain xs c.args.start c.args.stride i c.args.out.now c.loop-i.out r c.requires.stride (omega (arith, c.requires.room i c.loop-i-test.true)) e (c.loop-i.invariant gain p))

pub returns : goal.returns
returns c = λ gain p.
    let e : c.loop-i.i ≡ length c.args.x.now = omega arith in
    subst (λ n. ArePut gain c.args.x.now c.args.start c.args.stride n c.args.out.now c.loop-i.out) e (c.loop-i.invariant gain p)
