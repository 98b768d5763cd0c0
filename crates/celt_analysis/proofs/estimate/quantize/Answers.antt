use Rattle.std.proofs.Common.{◌≡◌, ℕ, ◌+◌, arith, rules}
use Rattle.std.specs.Prelude.{ℤ, FitsSigned}
use Rattle.std.specs.Int.{w16}
use Rattle.std.proofs.lemmas.Int.{to_z-of_z}
use Rattle.fixed_math.specs.Items.{item}
use Rattle.celt_analysis.proofs.EstimateLemmas.{cut_of}
use Rattle.celt_analysis.proofs.PlaceLemmas.{put-start, put-more, written-within}
use Rattle.celt_analysis.proofs.estimate.quantize.Goals as goal

pub loop-i-init : goal.loop-i-init
loop-i-init c = record {
  put = put-start (λ k. cut_of c.args.q.shift (item c.args.d.now (c.args.a + k))) c.args.s.now c.args.to;
  sizes = c.requires.old_sizes;
}

pub loop-i-preserved : goal.loop-i-preserved
loop-i-preserved c =
    let f : ℕ → ℤ = λ k. cut_of c.args.q.shift (item c.args.d.now (c.args.a + k)) in
    let x : ℤ = item c.args.d.now (c.args.a + c.loop-i.i) in
    let fx : FitsSigned w16 x = search rules in
    let r : ℤ = c.quantized.result in
    let fr : FitsSigned w16 r = search rules in
    let e : r ≡ f c.loop-i.i = simp to_z-of_z at c.quantized.ensures.value in
    let i = c.loop-i.invariant in
    simp to_z-of_z (record {
      put = put-more f c.args.s.now c.loop-i.s c.args.to c.loop-i.i r (omega (arith, c.requires.room)) e i.put;
      sizes = written-within c.loop-i.s (c.args.to + c.loop-i.i) r 1448 i.sizes c.quantized.ensures.size;
    })
