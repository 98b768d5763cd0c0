use Rattle.std.proofs.Common.{◌≡◌, arith, rules, ◌∙◌, ap, ◌^◌, ◌≤◌}
use Rattle.std.specs.Prelude.{ℤ, pos, ◌*ℤ◌, unsigned_abs, FitsSigned}
use Rattle.std.specs.Int.{w64}
use Rattle.std.proofs.lemmas.Int.{to_z-of_z}
use Rattle.fixed_math.specs.Rounding.{rounded}
use Rattle.rate_change.specs.Resampling.{window_cosine, height}
use Rattle.rate_change.proofs.WeightLemmas.{height_steps}
use Rattle.rate_change.proofs.weights.height_at.Goals as goal

pub overflow_mul-result : goal.overflow_mul-result
overflow_mul-result c =
    let fw : FitsSigned w64 c.window_at-window.result = search rules in
    let fm : FitsSigned w64 c.mulr.result = search rules in
    let fs : FitsSigned w64 c.wave_at.result = search rules in
    let w = c.window_at-window.ensures.size in
    let s = simp to_z-of_z at c.mulr.ensures.size (2 ^ 15) (2 ^ 15) (2 ^ 15) in
    let m : unsigned_abs c.mulr.result ≤ 2 ^ 15 = s w w (omega arith) in
    let t = height_steps c.mulr.result c.wave_at.result m c.wave_at.ensures.size in
    simp to_z-of_z t.product

pub overflow_mul-result-2 : goal.overflow_mul-result-2
overflow_mul-result-2 c =
    let fw : FitsSigned w64 c.window_at-window.result = search rules in
    let fm : FitsSigned w64 c.mulr.result = search rules in
    let fs : FitsSigned w64 c.wave_at.result = search rules in
    let w = c.window_at-window.ensures.size in
    let s = simp to_z-of_z at c.mulr.ensures.size (2 ^ 15) (2 ^ 15) (2 ^ 15) in
    let m : unsigned_abs c.mulr.result ≤ 2 ^ 15 = s w w (omega arith) in
    let t = height_steps c.mulr.result c.wave_at.result m c.wave_at.ensures.size in
    let p = t.product in
    simp to_z-of_z t.height

pub returns-clause-value : goal.returns-clause-value
unfolding height
returns-clause-value c =
    let fw : FitsSigned w64 c.window_at-window.result = search rules in
    let fm : FitsSigned w64 c.mulr.result = search rules in
    let fs : FitsSigned w64 c.wave_at.result = search rules in
    let w = c.window_at-window.ensures.size in
    let s = simp to_z-of_z at c.mulr.ensures.size (2 ^ 15) (2 ^ 15) (2 ^ 15) in
    let m : unsigned_abs c.mulr.result ≤ 2 ^ 15 = s w w (omega arith) in
    let t = height_steps c.mulr.result c.wave_at.result m c.wave_at.ensures.size in
    let p = t.product in
    let h = t.height in
    let e : c.mulr.result ≡ rounded (c.window_at-window.result *ℤ c.window_at-window.result) 15 = simp to_z-of_z at c.mulr.ensures.value in
    let x : ℤ = window_cosine c.args.d.up c.args.d.parts in
    simp to_z-of_z (ap (λ z. z *ℤ c.wave_at.result *ℤ pos 16) e ∙ ap (λ z. rounded (z *ℤ z) 15 *ℤ c.wave_at.result *ℤ pos 16) c.window_at-window.ensures.value ∙ ap (λ z. rounded (x *ℤ x) 15 *ℤ z *ℤ pos 16) c.wave_at.ensures.value)

pub returns-clause-size : goal.returns-clause-size
returns-clause-size c =
    let fw : FitsSigned w64 c.window_at-window.result = search rules in
    let fm : FitsSigned w64 c.mulr.result = search rules in
    let fs : FitsSigned w64 c.wave_at.result = search rules in
    let w = c.window_at-window.ensures.size in
    let s = simp to_z-of_z at c.mulr.ensures.size (2 ^ 15) (2 ^ 15) (2 ^ 15) in
    let m : unsigned_abs c.mulr.result ≤ 2 ^ 15 = s w w (omega arith) in
    let t = height_steps c.mulr.result c.wave_at.result m c.wave_at.ensures.size in
    let p = t.product in
    let h = t.height in
    simp to_z-of_z t.size
