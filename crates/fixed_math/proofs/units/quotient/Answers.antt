use Rattle.std.proofs.Common.{◌≡◌, arith}
use Rattle.std.specs.Prelude.{unsigned_abs}
use Rattle.std.proofs.lemmas.Int.{to_z-of_z}
use Rattle.fixed_math.proofs.UnitLemmas.{quotient_steps}
use Rattle.fixed_math.proofs.units.quotient.Goals as goal

pub overflow_cast-result-else-unsigned_abs-lt137438953472-3 : goal.overflow_cast-result-else-unsigned_abs-lt137438953472-3
overflow_cast-result-else-unsigned_abs-lt137438953472-3 c =
    let fx = c.ranges.x in
    let fg = c.ranges.gain in
    let fr = c.ranges.r in
    let t = quotient_steps c.args.x c.args.gain c.args.r fr c.requires.low c.requires.high c.requires.length c.requires.size c.requires.share in
    let a = t.x_wide in
    let b = t.g_wide in
    let d = t.r_wide in
    let e = t.product in
    let f = t.wide_quotient in
    simp to_z-of_z t.quotient

pub returns-then-unsigned_abs-lt137438953472 : goal.returns-then-unsigned_abs-lt137438953472
returns-then-unsigned_abs-lt137438953472 c =
    let fx = c.ranges.x in
    let fg = c.ranges.gain in
    let fr = c.ranges.r in
    let t = quotient_steps c.args.x c.args.gain c.args.r fr c.requires.low c.requires.high c.requires.length c.requires.size c.requires.share in
    let n : c.unsigned_abs.result ≡ unsigned_abs c.args.x = simp to_z-of_z at c.unsigned_abs.ensures.value in
    let e = t.narrow_product (omega arith) in
    let f = t.quotient in
    simp to_z-of_z

pub returns-else-unsigned_abs-lt137438953472 : goal.returns-else-unsigned_abs-lt137438953472
returns-else-unsigned_abs-lt137438953472 c =
    let fx = c.ranges.x in
    let fg = c.ranges.gain in
    let fr = c.ranges.r in
    let t = quotient_steps c.args.x c.args.gain c.args.r fr c.requires.low c.requires.high c.requires.length c.requires.size c.requires.share in
    let a = t.x_wide in
    let b = t.g_wide in
    let d = t.r_wide in
    let e = t.product in
    let f = t.wide_quotient in
    let g = t.quotient in
    simp to_z-of_z
