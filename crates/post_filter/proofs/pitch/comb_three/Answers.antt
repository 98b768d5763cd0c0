use Rattle.std.proofs.Common.{◌≡◌, ℕ, ◌+◌, ◌*◌, ◌^◌, ◌<◌, ◌≤◌, ◌∙◌, ap, sym, subst, arith, rules, length, List}
use Rattle.std.specs.Prelude.{ℤ, ◌+ℤ◌, unsigned_abs, slice_set, FitsSigned}
use Rattle.std.specs.Int.{w64}
use Rattle.std.proofs.lemmas.Int.{to_z-of_z, fits_signed_from_abs}
use Rattle.fixed_math.specs.Items.{item}
use Rattle.fixed_math.specs.Rounding.{rounded}
use Rattle.post_filter.specs.Comb.{echo, limited, AreOutputs}
use Rattle.post_filter.proofs.EchoLemmas.{taps_within, taps_same}
use Rattle.post_filter.proofs.OutputLemmas.{LooksBack, Going, going_start, going_more, going_ahead}
use Rattle.post_filter.proofs.pitch.comb_three.Goals as goal

pub loop-i-init : goal.loop-i-init
loop-i-init c =
    let taps = c.args.taps in
    going_start (λ j vs. rounded (echo taps.centre taps.near taps.far taps.period vs (c.args.at + j)) 15) c.args.at c.args.buf.now c.requires.earlier

pub echo_three-requires-clause-values : goal.echo_three-requires-clause-values
echo_three-requires-clause-values c = c.loop-i.invariant.sizes

pub rounded_share-added-requires : goal.rounded_share-added-requires
rounded_share-added-requires c =
    let xs : List ℤ = c.args.buf.now in
    let ys : List ℤ = c.loop-i.buf in
    let at : ℕ = c.args.at in
    let i : ℕ = c.loop-i.i in
    let taps = c.args.taps in
    let added : ℕ → List ℤ → ℤ = λ j vs. rounded (echo taps.centre taps.near taps.far taps.period vs (at + j)) 15 in
    let x : ℤ = item ys (at + i) in
    let low : unsigned_abs x < 2 ^ 47 = going_ahead added at i c.args.n xs ys c.loop-i-test.true c.requires.values c.loop-i.invariant in
    let fx : FitsSigned w64 x = fits_signed_from_abs w64 x (omega arith) in
    let y : ℤ = c.echo_three.result in
    let fy : FitsSigned w64 y = search rules in
    let small : unsigned_abs y ≤ 2 ^ 30 * 2 ^ 15 = taps_within taps y (2 ^ 30) (c.echo_three.ensures.size (2 ^ 30) c.loop-i.invariant.sizes) in
    simp to_z-of_z (omega arith)

pub output-requires-clause-value : goal.output-requires-clause-value
output-requires-clause-value c =
    let xs : List ℤ = c.args.buf.now in
    let ys : List ℤ = c.loop-i.buf in
    let at : ℕ = c.args.at in
    let i : ℕ = c.loop-i.i in
    let taps = c.args.taps in
    let added : ℕ → List ℤ → ℤ = λ j vs. rounded (echo taps.centre taps.near taps.far taps.period vs (at + j)) 15 in
    let x : ℤ = item ys (at + i) in
    let low : unsigned_abs x < 2 ^ 47 = going_ahead added at i c.args.n xs ys c.loop-i-test.true c.requires.values c.loop-i.invariant in
    let fx : FitsSigned w64 x = fits_signed_from_abs w64 x (omega arith) in
    simp to_z-of_z low

pub output-requires-clause-added : goal.output-requires-clause-added
output-requires-clause-added c =
    let xs : List ℤ = c.args.buf.now in
    let ys : List ℤ = c.loop-i.buf in
    let at : ℕ = c.args.at in
    let i : ℕ = c.loop-i.i in
    let taps = c.args.taps in
    let added : ℕ → List ℤ → ℤ = λ j vs. rounded (echo taps.centre taps.near taps.far taps.period vs (at + j)) 15 in
    let x : ℤ = item ys (at + i) in
    let low : unsigned_abs x < 2 ^ 47 = going_ahead added at i c.args.n xs ys c.loop-i-test.true c.requires.values c.loop-i.invariant in
    let fx : FitsSigned w64 x = fits_signed_from_abs w64 x (omega arith) in
    let y : ℤ = c.echo_three.result in
    let fy : FitsSigned w64 y = search rules in
    let small : unsigned_abs y ≤ 2 ^ 30 * 2 ^ 15 = taps_within taps y (2 ^ 30) (c.echo_three.ensures.size (2 ^ 30) c.loop-i.invariant.sizes) in
    let fr : FitsSigned w64 c.rounded_share-added.result = search rules in
    let r = simp to_z-of_z at c.rounded_share-added.ensures.size in
    simp to_z-of_z (r (2 ^ 30) small)

pub loop-i-preserved : goal.loop-i-preserved
loop-i-preserved c =
    let xs : List ℤ = c.args.buf.now in
    let ys : List ℤ = c.loop-i.buf in
    let at : ℕ = c.args.at in
    let i : ℕ = c.loop-i.i in
    let taps = c.args.taps in
    let added : ℕ → List ℤ → ℤ = λ j vs. rounded (echo taps.centre taps.near taps.far taps.period vs (at + j)) 15 in
    let x : ℤ = item ys (at + i) in
    let low : unsigned_abs x < 2 ^ 47 = going_ahead added at i c.args.n xs ys c.loop-i-test.true c.requires.values c.loop-i.invariant in
    let fx : FitsSigned w64 x = fits_signed_from_abs w64 x (omega arith) in
    let y : ℤ = c.echo_three.result in
    let fy : FitsSigned w64 y = search rules in
    let small : unsigned_abs y ≤ 2 ^ 30 * 2 ^ 15 = taps_within taps y (2 ^ 30) (c.echo_three.ensures.size (2 ^ 30) c.loop-i.invariant.sizes) in
    let a : ℤ = c.rounded_share-added.result in
    let v : ℤ = c.output.result in
    let fa : FitsSigned w64 a = search rules in
    let fv : FitsSigned w64 v = search rules in
    let d : a ≡ rounded y 15 = simp to_z-of_z at c.rounded_share-added.ensures.value in
    let e : a ≡ added i ys = d ∙ ap (λ z. rounded z 15) c.echo_three.ensures.value in
    let f : v ≡ limited (x +ℤ a) = simp to_z-of_z at c.output.ensures.value in
    let start : 1024 ≤ at = c.requires.start in
    let back : LooksBack added at (i + 1) = λ k l us vs h. taps_same taps us vs (at + k) (omega arith) h in
    let inside : at + i < length ys = omega (arith, c.loop-i.auto.buf) in
    subst (λ z. Going added at (i + 1) xs (slice_set ys (at + i) z)) (sym (to_z-of_z w64 v fv)) (going_more added at i xs ys v a back inside e f c.loop-i.invariant)

pub returns-clause-value : goal.returns-clause-value
returns-clause-value c =
    let taps = c.args.taps in
    let e : c.loop-i.i ≡ c.args.n = omega arith in
    subst (λ n. AreOutputs (λ j vs. rounded (echo taps.centre taps.near taps.far taps.period vs (c.args.at + j)) 15) c.args.at n c.args.buf.now c.loop-i.buf) e c.loop-i.invariant.outputs

pub returns-clause-sizes : goal.returns-clause-sizes
returns-clause-sizes c = λ p l. c.loop-i.invariant.sizes p (omega arith)
