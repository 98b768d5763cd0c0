use Rattle.std.proofs.Common.{◌≡◌, ◌+◌, ◌^◌, ◌≤◌, List, sym, arith, rules}
use Rattle.std.specs.Prelude.{ℤ, pos, unsigned_abs, FitsSigned}
use Rattle.std.specs.Int.{w16}
use Rattle.std.proofs.lemmas.Int.{to_z-of_z}
use Rattle.fixed_math.specs.Items.{item}
use Rattle.celt_analysis.proofs.SumLemmas.{sum_from-none, sum_from-more}
use Rattle.celt_analysis.proofs.estimate.magnitude_from.Goals as goal

pub loop-i-init : goal.loop-i-init
loop-i-init c = (sym (sum_from-none (λ i. unsigned_abs (item c.args.d.now i)) c.args.a), omega arith)

pub loop-i-preserved : goal.loop-i-preserved
loop-i-preserved c =
    let d : List ℤ = c.args.d.now in
    let x : ℤ = item d (c.args.a + c.loop-i.i) in
    let b : unsigned_abs x ≤ 2 ^ 15 = c.requires.items (c.args.a + c.loop-i.i) (pos 0) (omega arith) in
    let fx : FitsSigned w16 x = search rules in
    let e : c.unsigned_abs.result ≡ unsigned_abs x = simp to_z-of_z at c.unsigned_abs.ensures.value in
    let i = c.loop-i.invariant in
    (omega (arith, sum_from-more (λ k. unsigned_abs (item d k)) c.args.a c.loop-i.i), omega arith)
