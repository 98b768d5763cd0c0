use Rattle.std.proofs.Common.{◌≡◌, ◌/◌, ◌^◌, arith, get_or, ap, ◌∙◌}
use Rattle.fixed_math.specs.Powers.{mantissa}
use Rattle.fixed_math.proofs.PowerLemmas.{mantissa-fraction, mantissa_low, mantissa_high}
use Rattle.fixed_math.proofs.powers.Exp.mant.Goals as goal

pub overflow_cast-result-2 : goal.overflow_cast-result-2
overflow_cast-result-2 c =
    let e : get_or c.args.self.now.powers c.args.f 0 / 2 ^ 30 ≡ mantissa c.args.f = ap (λ q. q / 2 ^ 30) (c.args.self.now.is_octave.value c.args.f c.requires) ∙ mantissa-fraction c.args.f in
    omega (arith, mantissa_high c.args.f c.requires)

pub returns-clause-value : goal.returns-clause-value
returns-clause-value c = ap (λ q. q / 2 ^ 30) (c.args.self.now.is_octave.value c.args.f c.requires) ∙ mantissa-fraction c.args.f

pub returns-clause-low : goal.returns-clause-low
returns-clause-low c =
    let e : get_or c.args.self.now.powers c.args.f 0 / 2 ^ 30 ≡ mantissa c.args.f = ap (λ q. q / 2 ^ 30) (c.args.self.now.is_octave.value c.args.f c.requires) ∙ mantissa-fraction c.args.f in
    omega (arith, mantissa_low c.args.f c.requires)

pub returns-clause-high : goal.returns-clause-high
returns-clause-high c =
    let e : get_or c.args.self.now.powers c.args.f 0 / 2 ^ 30 ≡ mantissa c.args.f = ap (λ q. q / 2 ^ 30) (c.args.self.now.is_octave.value c.args.f c.requires) ∙ mantissa-fraction c.args.f in
    omega (arith, mantissa_high c.args.f c.requires)
