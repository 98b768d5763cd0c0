use Rattle.std.proofs.Common.{◌/◌, ◌*◌, ◌-◌, ◌^◌, ap, ◌∙◌, arith}
use Rattle.std.specs.Prelude.{unsigned_abs}
use Rattle.std.specs.Int.{w32}
use Rattle.std.proofs.lemmas.Int.{to_z-of_z}
use Rattle.fixed_math.specs.Powers.{mantissa}
use Rattle.fixed_math.proofs.PowerLemmas.{ex_at, ex_nothing, ex-most, octaves-is}
use Rattle.fixed_math.proofs.powers.Exp.ex.Goals as goal

pub returns-then-octaves-gt31-clause-value : goal.returns-then-octaves-gt31-clause-value
returns-then-octaves-gt31-clause-value c =
    let d = c.unsigned_abs-down.ensures.value ∙ ap unsigned_abs (to_z-of_z w32 c.args.e c.ranges.e) in
    ex_nothing (unsigned_abs c.args.e) c.div_ceil-octaves.result (octaves-is _ _ _ d c.div_ceil-octaves.ensures) c.if-octaves-gt31.true

pub returns-clause-value : goal.returns-clause-value
returns-clause-value c =
    let d = c.unsigned_abs-down.ensures.value ∙ ap unsigned_abs (to_z-of_z w32 c.args.e c.ranges.e) in
    ap (λ m. m / 2 ^ c.div_ceil-octaves.result) (c.mant.ensures.value ∙ ap (λ n. mantissa (c.div_ceil-octaves.result * 1024 - n)) d)
    ∙ ex_at (unsigned_abs c.args.e) c.div_ceil-octaves.result (octaves-is _ _ _ d c.div_ceil-octaves.ensures)

pub returns-clause-most : goal.returns-clause-most
returns-clause-most c = omega (arith, returns-clause-value c, ex-most (unsigned_abs c.args.e))
