use Rattle.std.proofs.Common.{◌≡◌, ℕ, ◌+◌, ◌*◌, ◌<◌, ◌≤◌, suc, arith, rules, refl, List, length}
use Rattle.std.specs.Prelude.{ℤ, FitsSigned}
use Rattle.std.specs.Int.{w64}
use Rattle.std.proofs.lemmas.Int.{to_z-of_z}
use Rattle.std.proofs.lemmas.Nat.{mul-le}
use Rattle.fixed_math.specs.Items.{item}
use Rattle.celt_analysis.proofs.SpectrumLemmas.{spread_next}
use Rattle.celt_analysis.proofs.transforms.spread.Goals as goal

pub loop-j-preserved : goal.loop-j-preserved
loop-j-preserved c =
    let xs : List ℤ = c.args.items.now in
    let m : ℕ = c.args.blocks in
    let b : ℕ = c.args.b in
    let j : ℕ = c.loop-j.j in
    let x : ℤ = item xs j in
    let fx : FitsSigned w64 x = search rules in
    let p : suc j * m ≤ 120 * m = mul-le (suc j) m 120 m (omega (arith, c.loop-j-test.true)) (omega arith) in
    let s : suc j * m ≡ j * m + m = omega arith in
    let room : j * m + b < length c.loop-j.out = omega (arith, p, s, c.requires.some, c.requires.out, c.loop-j.auto.out) in
    simp to_z-of_z (spread_next xs m b j c.args.out.now c.loop-j.out x c.requires.some room refl c.loop-j.invariant)
