use Rattle.std.proofs.Common.{◌≡◌, ◌+◌, ◌<◌, ◌≤◌, ◌^◌, sym, arith, List}
use Rattle.std.specs.Prelude.{ℤ, FitsSigned, unsigned_abs}
use Rattle.std.specs.Int.{w64}
use Rattle.std.proofs.lemmas.Int.{to_z-of_z, fits_signed_from_abs}
use Rattle.fixed_math.specs.Items.{item}
use Rattle.celt_analysis.specs.Sums.{squared, energy}
use Rattle.celt_analysis.proofs.SumLemmas.{sum_from-more, sum_from-none, items_below, square_below, energy-fits}
use Rattle.celt_analysis.proofs.sums.energy_from.Goals as goal

pub loop-i-init : goal.loop-i-init
loop-i-init c = sym (sum_from-none (λ i. squared (item c.args.d.now i)) c.args.a)

pub overflow_add-sum : goal.overflow_add-sum
overflow_add-sum c =
    let d : List ℤ = c.args.d.now in
    let x : ℤ = item d (c.args.a + c.loop-i.i) in
    let b : unsigned_abs x < 2 ^ 16 = items_below d (2 ^ 16) (c.args.a + c.loop-i.i) (omega arith) c.requires.items in
    let fx : FitsSigned w64 x = fits_signed_from_abs w64 x (omega arith) in
    let e : c.square-sum.result ≡ squared x = simp to_z-of_z at c.square-sum.ensures in
    let s : squared x ≤ 2 ^ 32 = square_below d (c.args.a + c.loop-i.i) c.requires.items in
    let m : energy (item d) c.args.a c.loop-i.i ≤ 2 ^ 42 = energy-fits d c.args.a c.loop-i.i (omega (arith, c.requires.count)) c.requires.items in
    let i : c.loop-i.sum ≡ energy (item d) c.args.a c.loop-i.i = c.loop-i.invariant in
    omega arith

pub loop-i-preserved : goal.loop-i-preserved
loop-i-preserved c =
    let d : List ℤ = c.args.d.now in
    let x : ℤ = item d (c.args.a + c.loop-i.i) in
    let b : unsigned_abs x < 2 ^ 16 = items_below d (2 ^ 16) (c.args.a + c.loop-i.i) (omega arith) c.requires.items in
    let fx : FitsSigned w64 x = fits_signed_from_abs w64 x (omega arith) in
    let e : c.square-sum.result ≡ squared x = simp to_z-of_z at c.square-sum.ensures in
    let i : c.loop-i.sum ≡ energy (item d) c.args.a c.loop-i.i = c.loop-i.invariant in
    omega (arith, sum_from-more (λ k. squared (item d k)) c.args.a c.loop-i.i)
