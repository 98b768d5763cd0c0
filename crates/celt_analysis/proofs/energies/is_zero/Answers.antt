use Rattle.std.proofs.Common.{◌∙◌, rules, sym, ap}
use Rattle.std.specs.Prelude.{ℤ, FitsSigned}
use Rattle.std.specs.Int.{w64, cast_signed as to_z, cast_unsigned as of_z}
use Rattle.std.proofs.lemmas.Int.{to_z-of_z}
use Rattle.fixed_math.specs.Items.{item}
use Rattle.celt_analysis.proofs.EnergyLemmas.{zero_none, zero_next, zero_not}
use Rattle.celt_analysis.proofs.energies.is_zero.Goals as goal

pub loop-i-init : goal.loop-i-init
loop-i-init c = zero_none c.args.spectrum.now

pub returns-then-spectrum-i-ne0 : goal.returns-then-spectrum-i-ne0
returns-then-spectrum-i-ne0 c = zero_not c.args.count c.loop-i.i c.args.spectrum.now c.loop-i-test.true (λ e. c.if-spectrum-i-ne0.true (ap (of_z w64) e))

pub loop-i-preserved : goal.loop-i-preserved
loop-i-preserved c =
    let x : ℤ = item c.args.spectrum.now c.loop-i.i in
    let fx : FitsSigned w64 x = search rules in
    zero_next c.loop-i.i c.args.spectrum.now (sym (to_z-of_z w64 x fx) ∙ ap (to_z w64) c.if-spectrum-i-ne0.false) c.loop-i.invariant
