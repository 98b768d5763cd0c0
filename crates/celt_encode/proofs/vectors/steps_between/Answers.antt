use Rattle.std.proofs.Common.{◌+◌, ◌*◌, ◌/◌, ◌^◌, ◌<◌, ◌≤◌, pos, arith, ap, ◌∙◌, w64}
use Rattle.std.proofs.lemmas.Int.{to_z_pos}
use Rattle.std.proofs.lemmas.Nat.{mul-le}
use Rattle.celt_encode.specs.Vectors.{steps_wanted}
use Rattle.celt_encode.proofs.vectors.steps_between.Goals as goal

pub returns : goal.returns
unfolding steps_wanted
returns c =
    let size : c.angle.result ≤ 3840 = c.angle.ensures.size in
    let few : c.args.qn < 2 ^ 32 = c.ranges.qn.fits in
    let most : c.angle.result * c.args.qn ≤ 3840 * 2 ^ 32 = mul-le c.angle.result c.args.qn 3840 (2 ^ 32) size (omega arith) in
    to_z_pos w64 ((c.angle.result * c.args.qn + 1920) / 3840) (omega (arith, most)) ∙ ap (λ a. pos ((a * c.args.qn + 1920) / 3840)) c.angle.ensures.value
