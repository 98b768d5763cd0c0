use Rattle.std.proofs.Common.{◌≡◌, ℕ, ◌+◌, ◌-◌, ◌<◌, ◌≤◌, ◌^◌, sym, ap, arith, ◌∙◌, length}
use Rattle.std.specs.Prelude.{ℤ}
use Rattle.std.proofs.lemmas.List.{length-set}
use Rattle.fixed_math.specs.Items.{item}
use Rattle.celt_analysis.specs.Pitch.{energies}
use Rattle.celt_analysis.specs.Sums.{energy}
use Rattle.celt_analysis.proofs.PitchLemmas.{energy-small}
use Rattle.celt_analysis.proofs.PlaceLemmas.{one-more}
use Rattle.celt_analysis.proofs.pitches.energies_of.Goals as goal

pub loop-i-init : goal.loop-i-init
loop-i-init c =
    let s : ℕ → ℤ = item c.args.d.now in
    let n : ℕ = c.args.n in
    let p : c.sum.result ≡ energies s 1022 n 0 = c.sum.ensures ∙ c.new-slide.ensures.sum in
    let b : energies s 1022 n 0 ≤ 2 ^ 40 = energy-small c.args.d.now 1007 n c.requires.count c.requires.items in
    record {
      at = omega (arith, c.new-slide.ensures.at);
      count = c.new-slide.ensures.count;
      sum = c.new-slide.ensures.sum ∙ ap (λ a. energy s a n) (sym c.new-slide.ensures.at) ∙ ap (λ m. energy s c.new-slide.result.at m) (sym c.new-slide.ensures.count);
      length = length-set c.args.out.now 0 c.sum.result ∙ c.requires.room;
      items = one-more (λ j z. z ≡ energies s 1022 n j) c.args.out.now 0 c.sum.result (omega (arith, c.requires.room)) p (λ k q. absurd (omega arith));
      sizes = one-more (λ j z. z ≤ 2 ^ 40) c.args.out.now 0 c.sum.result (omega (arith, c.requires.room)) (omega arith) (λ k q. absurd (omega arith));
    }

pub loop-i-preserved : goal.loop-i-preserved
loop-i-preserved c =
    let s : ℕ → ℤ = item c.args.d.now in
    let n : ℕ = c.args.n in
    let i : ℕ = c.loop-i.i in
    let v = c.loop-i.invariant in
    let a : c.back.new.self.at ≡ 1022 - (15 + i) = omega (arith, c.back.ensures.at, v.at) in
    let m : c.back.new.self.count ≡ n = c.back.ensures.count ∙ v.count in
    let p : c.sum-in-loop-i.result ≡ energies s 1022 n i = c.sum-in-loop-i.ensures ∙ c.back.ensures.sum ∙ ap (λ b. energy s b c.back.new.self.count) a ∙ ap (λ k. energy s (1022 - (15 + i)) k) m in
    let b : energies s 1022 n i ≤ 2 ^ 40 = energy-small c.args.d.now (1022 - (15 + i)) n c.requires.count c.requires.items in
    let l : i < length c.loop-i.out = omega (arith, v.length) in
    record {
      at = omega (arith, a);
      count = m;
      sum = c.back.ensures.sum;
      length = length-set c.loop-i.out i c.sum-in-loop-i.result ∙ v.length;
      items = one-more (λ j z. z ≡ energies s 1022 n j) c.loop-i.out i c.sum-in-loop-i.result l p v.items;
      sizes = one-more (λ j z. z ≤ 2 ^ 40) c.loop-i.out i c.sum-in-loop-i.result l (omega arith) v.sizes;
    }
