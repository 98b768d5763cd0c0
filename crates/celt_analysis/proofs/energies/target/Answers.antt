use Rattle.std.proofs.Common.{◌≡◌, ◌∙◌, ℕ, ◌<◌, ◌≤◌, ◌*◌, ◌^◌, arith, sym, subst, ap}
use Rattle.std.specs.Prelude.{ℤ, pos, ◌-ℤ◌, FitsSigned, slice_index}
use Rattle.std.specs.Int.{w64, int_max}
use Rattle.std.proofs.lemmas.Int.{to_z-of_z}
use Rattle.celt_tables.specs.declared.energies.TheConstants.{MEANS}
use Rattle.fixed_math.specs.Powers.{logarithm}
use Rattle.fixed_math.specs.Root.{root}
use Rattle.celt_analysis.specs.Energies.{floor, target_of}
use Rattle.celt_analysis.proofs.EnergyLemmas.{root_below, target_none, target_some}
use Rattle.celt_analysis.proofs.energies.target.Goals as goal

pub returns-then-amplitude-eq0-clause-value : goal.returns-then-amplitude-eq0-clause-value
returns-then-amplitude-eq0-clause-value c =
    let e : c.isq-amplitude.result ≡ 0 = omega (arith, c.if-amplitude-eq0.true) in
    target_none c.args.band (root c.args.energy) (sym c.isq-amplitude.ensures ∙ e)

pub logarithm_of-requires-clause-size : goal.logarithm_of-requires-clause-size
logarithm_of-requires-clause-size c = subst (λ k. k < 2 ^ 42) (sym c.isq-amplitude.ensures) (root_below c.args.energy c.requires.size)

pub returns-clause-value : goal.returns-clause-value
returns-clause-value c =
    let a : ℕ = c.isq-amplitude.result in
    let b : ℕ = c.args.band in
    let some : 1 ≤ a = omega (arith, c.if-amplitude-eq0.false) in
    let l : ℤ = c.level.result in
    let fl : FitsSigned w64 l = record { sfits = c.level.type_inv } in
    let fr : FitsSigned w64 c.max.result = record { sfits = c.max.type_inv } in
    let m : c.max.result ≡ int_max floor l = simp to_z-of_z at c.max.ensures.value in
    let v : l ≡ pos (logarithm a) -ℤ pos 12288 -ℤ pos (64 * slice_index MEANS b) =
    c.level.ensures.value ∙ ap (λ k. pos k -ℤ pos 12288 -ℤ pos (64 * c.mean.result)) c.logarithm_of.ensures.value ∙ ap (λ k. pos (logarithm a) -ℤ pos 12288 -ℤ pos (64 * k)) c.mean.ensures.value in
    simp to_z-of_z (m ∙ ap (int_max floor) v ∙ target_some b a some ∙ ap (target_of b) c.isq-amplitude.ensures)
