use Rattle.std.proofs.Common.{◌≡◌, arith}
use Rattle.std.specs.Prelude.{pos, ◌≤ℤ◌, ◌<ℤ◌, FitsSigned, unsigned_abs}
use Rattle.std.specs.Int.{w32}
use Rattle.std.proofs.lemmas.Int.{ints, to_z-of_z, fits_signed_from_abs}
use Rattle.band_plan.proofs.ChannelSteps.{change_fewer, change_more}
use Rattle.band_plan.proofs.channels.changed_blocks.Goals as goal

pub returns-then-band-ge0-clause-value : goal.returns-then-band-ge0-clause-value
returns-then-band-ge0-clause-value c =
    let m = c.requires.change in
    let f : FitsSigned w32 c.args.band.tf = fits_signed_from_abs w32 c.args.band.tf (omega (arith, m)) in
    let e : c.unsigned_abs-times.result ≡ unsigned_abs c.args.band.tf = simp to_z-of_z at c.unsigned_abs-times.ensures.value in
    let up : pos 0 ≤ℤ c.args.band.tf = grind (arith, ints, c.if-band-ge0.true, m) in
    change_fewer c.args.band.n c.args.band.blocks c.unsigned_abs-times.result c.args.band.tf e up

pub returns-clause-value : goal.returns-clause-value
returns-clause-value c =
    let m = c.requires.change in
    let f : FitsSigned w32 c.args.band.tf = fits_signed_from_abs w32 c.args.band.tf (omega (arith, m)) in
    let e : c.unsigned_abs-times.result ≡ unsigned_abs c.args.band.tf = simp to_z-of_z at c.unsigned_abs-times.ensures.value in
    let down : c.args.band.tf <ℤ pos 0 = grind (arith, ints, c.if-band-ge0.false, m) in
    change_more c.args.band.n c.args.band.blocks c.unsigned_abs-times.result c.doubled.result c.args.band.tf e down c.doubled.ensures.value
