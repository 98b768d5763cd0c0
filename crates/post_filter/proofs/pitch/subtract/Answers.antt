use Rattle.std.proofs.Common.{ℕ, ◌-◌, ◌^◌, ◌<◌, ◌≤◌, ap, arith}
use Rattle.std.specs.Prelude.{ℤ, ◌-ℤ◌, unsigned_abs, FitsSigned}
use Rattle.std.specs.Int.{w64}
use Rattle.std.proofs.lemmas.Int.{ints, to_z-of_z, fits_signed_from_abs}
use Rattle.fixed_math.specs.Items.{item}
use Rattle.fixed_math.proofs.ItemLemmas.{item_below}
use Rattle.post_filter.proofs.pitch.subtract.Goals as goal

pub overflow_sub-result : goal.overflow_sub-result
overflow_sub-result c =
    let x : ℤ = item c.args.p.now c.args.at in
    let t : ℤ = c.term_of.result in
    let small : (q : ℕ) → q < c.args.at → unsigned_abs (item c.args.p.now q) ≤ 2 ^ 28 - 1 = λ q l. omega (arith, item_below c.args.p.now (2 ^ 28) q (omega arith) c.requires.values) in
    let a : unsigned_abs x < 2 ^ 28 = item_below c.args.p.now (2 ^ 28) c.args.at (omega arith) c.requires.values in
    let b : unsigned_abs t ≤ 2 ^ 28 - 1 = c.term_of.ensures.size (2 ^ 28 - 1) small in
    let d : unsigned_abs (x -ℤ t) < 2 ^ 29 = omega (arith, ints) in
    let fx : FitsSigned w64 x = fits_signed_from_abs w64 x (omega arith) in
    let ft : FitsSigned w64 t = fits_signed_from_abs w64 t (omega arith) in
    let fd : FitsSigned w64 (x -ℤ t) = fits_signed_from_abs w64 (x -ℤ t) (omega arith) in
    simp to_z-of_z fd

pub returns-clause-value : goal.returns-clause-value
returns-clause-value c =
    let x : ℤ = item c.args.p.now c.args.at in
    let t : ℤ = c.term_of.result in
    let small : (q : ℕ) → q < c.args.at → unsigned_abs (item c.args.p.now q) ≤ 2 ^ 28 - 1 = λ q l. omega (arith, item_below c.args.p.now (2 ^ 28) q (omega arith) c.requires.values) in
    let a : unsigned_abs x < 2 ^ 28 = item_below c.args.p.now (2 ^ 28) c.args.at (omega arith) c.requires.values in
    let b : unsigned_abs t ≤ 2 ^ 28 - 1 = c.term_of.ensures.size (2 ^ 28 - 1) small in
    let d : unsigned_abs (x -ℤ t) < 2 ^ 29 = omega (arith, ints) in
    let fx : FitsSigned w64 x = fits_signed_from_abs w64 x (omega arith) in
    let ft : FitsSigned w64 t = fits_signed_from_abs w64 t (omega arith) in
    let fd : FitsSigned w64 (x -ℤ t) = fits_signed_from_abs w64 (x -ℤ t) (omega arith) in
    simp to_z-of_z (ap (λ z. x -ℤ z) c.term_of.ensures.value)

pub returns-clause-size : goal.returns-clause-size
returns-clause-size c =
    let x : ℤ = item c.args.p.now c.args.at in
    let t : ℤ = c.term_of.result in
    let small : (q : ℕ) → q < c.args.at → unsigned_abs (item c.args.p.now q) ≤ 2 ^ 28 - 1 = λ q l. omega (arith, item_below c.args.p.now (2 ^ 28) q (omega arith) c.requires.values) in
    let a : unsigned_abs x < 2 ^ 28 = item_below c.args.p.now (2 ^ 28) c.args.at (omega arith) c.requires.values in
    let b : unsigned_abs t ≤ 2 ^ 28 - 1 = c.term_of.ensures.size (2 ^ 28 - 1) small in
    let d : unsigned_abs (x -ℤ t) < 2 ^ 29 = omega (arith, ints) in
    let fx : FitsSigned w64 x = fits_signed_from_abs w64 x (omega arith) in
    let ft : FitsSigned w64 t = fits_signed_from_abs w64 t (omega arith) in
    let fd : FitsSigned w64 (x -ℤ t) = fits_signed_from_abs w64 (x -ℤ t) (omega arith) in
    simp to_z-of_z d
