use Rattle.std.proofs.Common.{◌≡◌, ℕ, ◌+◌, ◌*◌, ap, arith, rules, subst, sym, ◌∙◌, List, length, get_or}
use Rattle.std.specs.Prelude.{ℤ, pos, FitsSigned, slice_set}
use Rattle.std.specs.Int.{w16, w64}
use Rattle.std.proofs.lemmas.Int.{to_z-of_z}
use Rattle.post_filter.specs.Samples.{ArePut, sample_of}
use Rattle.post_filter.proofs.SampleLemmas.{put_start, put_more}
use Rattle.post_filter.proofs.conversion.put_alternate.Goals as goal

pub loop-i-init : goal.loop-i-init
loop-i-init c = put_start (pos 0) c.args.x.now c.args.start 2 c.args.out.now

pub loop-i-preserved : goal.loop-i-preserved
loop-i-preserved c =
    let xs : List ℤ = c.args.x.now in
    let i : ℕ = c.loop-i.i in
    let x : ℤ = get_or xs i (pos 0) in
    let r : ℤ = c.plain_sample.result in
    let fx : FitsSigned w64 x = search rules in
    let fr : FitsSigned w16 r = search rules in
    let e : r ≡ sample_of (pos 0) x = c.plain_sample.ensures ∙ ap (sample_of (pos 0)) (to_z-of_z w64 x fx) in
    subst (λ v. ArePut (pos 0) xs c.args.start 2 (i + 1) c.args.out.now (slice_set c.loop-i.out (c.args.start + 2 * i) v)) (sym (to_z-of_z w16 r fr))
    (put_more (pos 0) xs c.args.start 2 i c.args.out.now c.loop-i.out r (omega arith) (omega (arith, c.requires.room i c.loop-i-test.true)) e c.loop-i.invariant)

pub returns : goal.returns
returns c =
    let e : c.loop-i.i ≡ length c.args.x.now = omega arith in
    subst (λ n. ArePut (pos 0) c.args.x.now c.args.start 2 n c.args.out.now c.loop-i.out) e c.loop-i.invariant
