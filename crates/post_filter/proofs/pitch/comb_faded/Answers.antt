use Rattle.std.proofs.Common.{◌≡◌, ℕ, ◌+◌, ◌^◌, ◌<◌, ◌≤◌, ◌∙◌, sym, subst, arith, rules, length, List}
use Rattle.std.specs.Prelude.{ℤ, ◌+ℤ◌, unsigned_abs, slice_set, FitsSigned}
use Rattle.std.specs.Int.{w64}
use Rattle.std.proofs.lemmas.Int.{to_z-of_z, fits_signed_from_abs}
use Rattle.fixed_math.specs.Items.{item}
use Rattle.post_filter.specs.Comb.{term, limited, AreCombed}
use Rattle.post_filter.proofs.EchoLemmas.{TapsOf, taps_faded, term_same}
use Rattle.post_filter.proofs.OutputLemmas.{LooksBack, Going, going_start, going_more, going_ahead}
use Rattle.post_filter.proofs.pitch.comb_faded.Goals as goal

pub loop-i-init : goal.loop-i-init
loop-i-init c = going_start (λ j vs. term c.args.from c.args.to j vs (c.args.at + j)) c.args.at c.args.buf.now c.requires.earlier

pub faded_term-added-requires-clause-values : goal.faded_term-added-requires-clause-values
faded_term-added-requires-clause-values c = c.loop-i.invariant.sizes

pub output-requires-clause-value : goal.output-requires-clause-value
output-requires-clause-value c =
    let xs : List ℤ = c.args.buf.now in
    let ys : List ℤ = c.loop-i.buf in
    let at : ℕ = c.args.at in
    let i : ℕ = c.loop-i.i in
    let added : ℕ → List ℤ → ℤ = λ j vs. term c.args.from c.args.to j vs (at + j) in
    let x : ℤ = item ys (at + i) in
    let low : unsigned_abs x < 2 ^ 47 = going_ahead added at i c.args.n xs ys c.loop-i-test.true c.requires.values c.loop-i.invariant in
    let fx : FitsSigned w64 x = fits_signed_from_abs w64 x (omega arith) in
    simp to_z-of_z low

pub output-requires-clause-added : goal.output-requires-clause-added
output-requires-clause-added c =
    let fa : FitsSigned w64 c.faded_term-added.result = search rules in
    simp to_z-of_z (c.faded_term-added.ensures.size (2 ^ 30) c.loop-i.invariant.sizes)

pub loop-i-preserved : goal.loop-i-preserved
loop-i-preserved c =
    let xs : List ℤ = c.args.buf.now in
    let ys : List ℤ = c.loop-i.buf in
    let at : ℕ = c.args.at in
    let i : ℕ = c.loop-i.i in
    let from = c.args.from in
    let to = c.args.to in
    let added : ℕ → List ℤ → ℤ = λ j vs. term from to j vs (at + j) in
    let x : ℤ = item ys (at + i) in
    let low : unsigned_abs x < 2 ^ 47 = going_ahead added at i c.args.n xs ys c.loop-i-test.true c.requires.values c.loop-i.invariant in
    let fx : FitsSigned w64 x = fits_signed_from_abs w64 x (omega arith) in
    let a : ℤ = c.faded_term-added.result in
    let v : ℤ = c.output.result in
    let fa : FitsSigned w64 a = search rules in
    let fv : FitsSigned w64 v = search rules in
    let p = c.taps_of-old_taps in
    let q = c.taps_of-new_taps in
    let t : TapsOf from p.result = record { period = p.ensures.period; centre = p.ensures.centre; near = p.ensures.near; far = p.ensures.far } in
    let u : TapsOf to q.result = record { period = q.ensures.period; centre = q.ensures.centre; near = q.ensures.near; far = q.ensures.far } in
    let e : a ≡ added i ys = c.faded_term-added.ensures.value ∙ taps_faded from to p.result q.result c.fade_at.result i ys (at + i) c.fade_at.ensures.value t u in
    let f : v ≡ limited (x +ℤ a) = simp to_z-of_z at c.output.ensures.value in
    let start : 1024 ≤ at = c.requires.start in
    let back : LooksBack added at (i + 1) = λ k l us vs h. term_same from to k us vs (at + k) (omega arith) h in
    let inside : at + i < length ys = omega (arith, c.loop-i.auto.buf) in
    subst (λ z. Going added at (i + 1) xs (slice_set ys (at + i) z)) (sym (to_z-of_z w64 v fv)) (going_more added at i xs ys v a back inside e f c.loop-i.invariant)

pub returns-clause-value : goal.returns-clause-value
returns-clause-value c =
    let e : c.loop-i.i ≡ c.args.n = omega arith in
    subst (λ n. AreCombed c.args.from c.args.to c.args.at n c.args.buf.now c.loop-i.buf) e c.loop-i.invariant.outputs

pub returns-clause-sizes : goal.returns-clause-sizes
returns-clause-sizes c = λ p l. c.loop-i.invariant.sizes p (omega arith)
