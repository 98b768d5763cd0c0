use Rattle.std.proofs.Common.{◌≡◌, ℕ, ◌+◌, ◌-◌, ◌<◌, ◌≤◌, ◌^◌, arith, List}
use Rattle.std.specs.Prelude.{ℤ, FitsSigned, unsigned_abs}
use Rattle.std.specs.Int.{w64}
use Rattle.std.proofs.lemmas.Int.{to_z-of_z, fits_signed_from_abs}
use Rattle.fixed_math.specs.Items.{item}
use Rattle.celt_analysis.specs.Sums.{squared, energy}
use Rattle.celt_analysis.proofs.SumLemmas.{items_below, square_below, energy-fits, slid}
use Rattle.celt_analysis.proofs.slide.Slide.back.Goals as goal

pub overflow_add-self : goal.overflow_add-self
overflow_add-self c =
    let d : List ℤ = c.args.d.now in
    let at : ℕ = c.args.self.now.at in
    let n : ℕ = c.args.self.now.count in
    let x : ℤ = item d (at - 1) in
    let b : unsigned_abs x < 2 ^ 16 = items_below d (2 ^ 16) (at - 1) (omega arith) c.requires.items in
    let fx : FitsSigned w64 x = fits_signed_from_abs w64 x (omega arith) in
    let e : c.square.result ≡ squared x = simp to_z-of_z at c.square.ensures in
    let s : squared x ≤ 2 ^ 32 = square_below d (at - 1) c.requires.items in
    let m : energy (item d) at n ≤ 2 ^ 42 = energy-fits d at n c.requires.count c.requires.items in
    omega (arith, c.requires.sum)

pub overflow_sub-self : goal.overflow_sub-self
overflow_sub-self c =
    let d : List ℤ = c.args.d.now in
    let at : ℕ = c.args.self.now.at in
    let n : ℕ = c.args.self.now.count in
    let x : ℤ = item d (at - 1) in
    let b : unsigned_abs x < 2 ^ 16 = items_below d (2 ^ 16) (at - 1) (omega arith) c.requires.items in
    let fx : FitsSigned w64 x = fits_signed_from_abs w64 x (omega arith) in
    let e : c.square.result ≡ squared x = simp to_z-of_z at c.square.ensures in
    let y : ℤ = item d (at - 1 + n) in
    let b2 : unsigned_abs y < 2 ^ 16 = items_below d (2 ^ 16) (at - 1 + n) (omega arith) c.requires.items in
    let fy : FitsSigned w64 y = fits_signed_from_abs w64 y (omega arith) in
    let e2 : c.square-2.result ≡ squared y = simp to_z-of_z at c.square-2.ensures in
    omega (arith, c.requires.sum, slid (item d) at n c.requires.low)

pub returns-clause-sum : goal.returns-clause-sum
returns-clause-sum c =
    let d : List ℤ = c.args.d.now in
    let at : ℕ = c.args.self.now.at in
    let n : ℕ = c.args.self.now.count in
    let x : ℤ = item d (at - 1) in
    let b : unsigned_abs x < 2 ^ 16 = items_below d (2 ^ 16) (at - 1) (omega arith) c.requires.items in
    let fx : FitsSigned w64 x = fits_signed_from_abs w64 x (omega arith) in
    let e : c.square.result ≡ squared x = simp to_z-of_z at c.square.ensures in
    let y : ℤ = item d (at - 1 + n) in
    let b2 : unsigned_abs y < 2 ^ 16 = items_below d (2 ^ 16) (at - 1 + n) (omega arith) c.requires.items in
    let fy : FitsSigned w64 y = fits_signed_from_abs w64 y (omega arith) in
    let e2 : c.square-2.result ≡ squared y = simp to_z-of_z at c.square-2.ensures in
    omega (arith, c.requires.sum, slid (item d) at n c.requires.low)
