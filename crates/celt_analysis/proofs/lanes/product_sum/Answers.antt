use Rattle.std.proofs.Common.{◌≡◌, ℕ, ◌+◌, ◌*◌, ◌/◌, ◌%◌, sym, ap, arith, rules, ◌∙◌}
use Rattle.std.specs.Prelude.{ℤ, ◌+ℤ◌, FitsSigned}
use Rattle.std.specs.Int.{w32, int_wrap}
use Rattle.std.proofs.lemmas.Int.{wrapping_add_is, int_wrap-add_left, int_wrap-add_right}
use Rattle.fixed_math.specs.Items.{item}
use Rattle.celt_analysis.specs.Sums.{correlation}
use Rattle.celt_analysis.proofs.SumLemmas.{correlation-join}
use Rattle.celt_analysis.proofs.lanes.product_sum.Goals as goal

pub returns : goal.returns
returns c =
    let s : ℕ → ℤ = item c.args.s.now in
    let i : ℕ = c.args.i in
    let j : ℕ = c.args.j in
    let done : ℕ = 64 * (c.args.n / 64) in
    let rest : ℕ = 8 * (c.args.n % 64 / 8) in
    let m : ℤ = correlation s s i j done in
    let e : ℤ = correlation s s (i + done) (j + done) rest in
    let fm : FitsSigned w32 c.sixty_fours-most.result = search rules in
    let fe : FitsSigned w32 c.eights.result = search rules in
    let all : done + rest ≡ c.args.n = omega (arith, c.requires.whole) in
    wrapping_add_is w32 c.sixty_fours-most.result c.eights.result fm fe ∙ ap (λ z. int_wrap w32 (z +ℤ c.eights.result)) c.sixty_fours-most.ensures ∙ ap (λ z. int_wrap w32 (int_wrap w32 m +ℤ z)) c.eights.ensures ∙ int_wrap-add_left w32 m (int_wrap w32 e) ∙ int_wrap-add_right w32 m e
    ∙ ap (int_wrap w32) (sym (correlation-join s s i j done rest) ∙ ap (correlation s s i j) all)
