use Rattle.std.proofs.Common.{◌≡◌, ℕ, ◌+◌, ◌-◌, ◌≤◌, sym, subst, ◌∙◌, false}
use Rattle.std.specs.Prelude.{ℤ, ◌+ℤ◌, ◌*ℤ◌, FitsSigned}
use Rattle.std.specs.Int.{w32}
use Rattle.std.proofs.lemmas.Int.{to_z-of_z}
use Rattle.fixed_math.specs.Items.{item}
use Rattle.celt_analysis.specs.Pitch.{positive_part, correlations, energies}
use Rattle.celt_analysis.specs.Search.{reaches}
use Rattle.celt_analysis.specs.Sums.{correlation}
use Rattle.celt_analysis.proofs.EstimateLemmas.{bound-over}
use Rattle.celt_analysis.proofs.SearchLemmas.{missed-below}
use Rattle.celt_analysis.proofs.search.reaches_ratio.Goals as goal

pub returns-then-not-is_reached : goal.returns-then-not-is_reached
returns-then-not-is_reached c =
    let s : ℕ → ℤ = item c.args.d.now in
    let e = c.args.e in
    let fx : FitsSigned w32 c.args.sum = c.ranges.sum in
    let v : c.bound_of.result ≡ positive_part (c.args.sum *ℤ e.scale +ℤ e.error) = simp to_z-of_z at c.bound_of.ensures.value in
    let b : correlations s 1022 e.n c.args.i ≤ c.bound_of.result = subst (λ z. correlations s 1022 e.n c.args.i ≤ z) (sym v) (bound-over (correlation s s 1022 (1022 - (15 + c.args.i)) e.n) (c.args.sum *ℤ e.scale) e.error e.error_sign c.requires.near) in
    let m : reaches c.args.ratio.slack c.args.ratio.square c.args.ratio.energy c.bound_of.result (energies s 1022 e.n c.args.i) ≡ false = subst (λ z. reaches c.args.ratio.slack c.args.ratio.square c.args.ratio.energy c.bound_of.result z ≡ false) c.requires.energy (sym c.is_reached.ensures ∙ c.if-not-is_reached.true) in
    sym (missed-below c.args.ratio.slack c.args.ratio.square c.args.ratio.energy (correlations s 1022 e.n c.args.i) c.bound_of.result (energies s 1022 e.n c.args.i) b m)
