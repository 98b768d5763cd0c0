use Rattle.std.proofs.Common.{◌≡◌, ◌*◌, ◌/◌, ◌%◌, ◌^◌, arith}
use Rattle.std.proofs.Math.Nat.{div-mul-le_self}
use Rattle.celt_base.specs.declared.question.Question.TheVariants.{Uniform}
use Rattle.range_coder.proofs.PlacesLemmas.{number_nearest, number_narrow, number_wide, low_number}
use Rattle.range_coder.proofs.places.number_choice.Goals as goal

pub returns-clause-nearest : goal.returns-clause-nearest
returns-clause-nearest c =
    number_nearest (Uniform c.args.limit) c.args.limit c.nearest_below-number.result c.args.want c.ranges.want (λ a. (λ is. is, λ is. is)) c.nearest_below-number.ensures.nearest

pub returns-clause-narrow : goal.returns-clause-narrow
returns-clause-narrow c = number_narrow c.args.limit c.low_bits-low.result c.nearest_below-number.result c.low_bits-low.ensures.value c.nearest_below-number.ensures.below

pub returns-clause-wide : goal.returns-clause-wide
returns-clause-wide c =
    let number = c.nearest_below-number.result in
    let low = c.low_bits-low.result in
    let fits = c.ranges.limit.fits in
    let below = c.nearest_below-number.ensures.below in
    let whole = div-mul-le_self number (2 ^ low) in
    let product : number / 2 ^ low * 2 ^ low % 2 ^ 32 ≡ number / 2 ^ low * 2 ^ low = omega arith in
    number_wide c.args.limit low number _ c.low_bits-low.ensures.value below (low_number number low _ product)
