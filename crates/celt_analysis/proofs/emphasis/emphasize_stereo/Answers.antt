use Rattle.std.proofs.Common.{◌≡◌, ◌∙◌, ℕ, ◌+◌, ◌-◌, ◌*◌, ◌^◌, ◌≤◌, ap, arith, refl, rules, List, length}
use Rattle.std.specs.Prelude.{ℤ, pos, ◌-ℤ◌, ◌*ℤ◌, FitsSigned}
use Rattle.std.specs.Int.{w16, w64}
use Rattle.std.proofs.lemmas.Int.{to_z-of_z}
use Rattle.std.proofs.lemmas.List.{length-set}
use Rattle.fixed_math.specs.Items.{item}
use Rattle.fixed_math.specs.Rounding.{rounded}
use Rattle.celt_analysis.specs.Signals.{emphasized, channel_in}
use Rattle.celt_analysis.proofs.FillLemmas.{filled_first, filled_next, filled_list, filled_sizes}
use Rattle.celt_analysis.proofs.SignalLemmas.{emphasized_first, emphasized_next}
use Rattle.celt_analysis.proofs.emphasis.emphasize_stereo.Goals as goal

pub loop-n-init : goal.loop-n-init
loop-n-init c =
    let x : ℕ → ℤ = channel_in 2 c.args.window.now c.args.channel in
    let ch : ℕ = c.args.channel in
    let a : ℤ = item c.args.window.now ch in
    let fa : FitsSigned w16 a = search rules in
    let r : ℤ = c.emphasize_sample.result in
    let fr : FitsSigned w64 r = record { sfits = c.emphasize_sample.type_inv } in
    let e : r ≡ pos 4096 *ℤ a -ℤ rounded (pos 27853 *ℤ pos 0) 3 = simp to_z-of_z at c.emphasize_sample.ensures.value in
    let here : ch ≡ 2 * 0 + ch = omega arith in
    let same : pos 4096 *ℤ a -ℤ rounded (pos 27853 *ℤ pos 0) 3 ≡ pos 4096 *ℤ x 0 -ℤ rounded (pos 27853 *ℤ pos 0) 3 = ap (λ k. pos 4096 *ℤ item c.args.window.now k -ℤ rounded (pos 27853 *ℤ pos 0) 3) here in
    record {
      some = omega arith;
      filled = simp to_z-of_z (filled_first (emphasized x) (2 ^ 28) c.args.out.now r c.requires.some (e ∙ same ∙ emphasized_first x) c.emphasize_sample.ensures.size);
    }

pub loop-n-preserved : goal.loop-n-preserved
loop-n-preserved c =
    let w : List ℤ = c.args.window.now in
    let ch : ℕ = c.args.channel in
    let x : ℕ → ℤ = channel_in 2 w ch in
    let n : ℕ = c.loop-n.n in
    let some : 1 ≤ n = c.loop-n.invariant.some in
    let a : ℤ = item w (2 * n + ch) in
    let b : ℤ = item w (2 * n + ch - 2) in
    let fa : FitsSigned w16 a = search rules in
    let fb : FitsSigned w16 b = search rules in
    let r : ℤ = c.emphasize_sample-in-loop-n.result in
    let fr : FitsSigned w64 r = record { sfits = c.emphasize_sample-in-loop-n.type_inv } in
    let e : r ≡ pos 4096 *ℤ a -ℤ rounded (pos 27853 *ℤ b) 3 = simp to_z-of_z at c.emphasize_sample-in-loop-n.ensures.value in
    let back : 2 * n + ch - 2 ≡ 2 * (n - 1) + ch = omega arith in
    let same : pos 4096 *ℤ a -ℤ rounded (pos 27853 *ℤ b) 3 ≡ pos 4096 *ℤ x n -ℤ rounded (pos 27853 *ℤ x (n - 1)) 3 = rw back refl in
    record {
      some = omega arith;
      filled = simp to_z-of_z (filled_next (emphasized x) (2 ^ 28) n c.loop-n.out r (omega (arith, c.loop-n-test.true, c.loop-n.auto.out, c.loop-n.auto.n-end)) (e ∙ same ∙ emphasized_next x n some) c.emphasize_sample-in-loop-n.ensures.size c.loop-n.invariant.filled);
    }

pub returns-clause-value : goal.returns-clause-value
returns-clause-value c =
    let whole : length c.loop-n.out ≡ length c.args.out.now = c.loop-n.auto.out ∙ length-set c.args.out.now 0 _ in
    filled_list (emphasized (channel_in 2 c.args.window.now c.args.channel)) (2 ^ 28) c.loop-n.n (length c.args.out.now) c.loop-n.out (whole) (omega (arith, c.loop-n-test.false, whole, c.loop-n.auto.n-end)) c.loop-n.invariant.filled

pub returns-clause-sizes : goal.returns-clause-sizes
returns-clause-sizes c =
    let whole : length c.loop-n.out ≡ length c.args.out.now = c.loop-n.auto.out ∙ length-set c.args.out.now 0 _ in
    filled_sizes (emphasized (channel_in 2 c.args.window.now c.args.channel)) (2 ^ 28) c.loop-n.n c.loop-n.out (omega (arith, c.loop-n-test.false, whole, c.loop-n.auto.n-end)) c.loop-n.invariant.filled
