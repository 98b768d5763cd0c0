use Rattle.std.proofs.Common.{arith, refl}
use Rattle.std.specs.Prelude.{pos, negsuc, ◌≤ℤ◌, ◌<ℤ◌, FitsSigned}
use Rattle.std.specs.Int.{w16}
use Rattle.std.proofs.lemmas.Int.{ints, to_z-of_z}
use Rattle.post_filter.proofs.SampleLemmas.{saturated_inside, saturated_low, saturated_high, fits_sixteen}
use Rattle.post_filter.proofs.conversion.narrowed_word.Goals as goal

pub returns-then-z-ltminus32768 : goal.returns-then-z-ltminus32768
returns-then-z-ltminus32768 c =
    let f = c.ranges.z in
    let l : c.args.z <ℤ negsuc 32767 = grind (arith, ints) in
    rw (saturated_low c.args.z l) refl

pub returns-then-z-gt32767 : goal.returns-then-z-gt32767
returns-then-z-gt32767 c =
    let f = c.ranges.z in
    let l : pos 32767 <ℤ c.args.z = grind (arith, ints) in
    rw (saturated_high c.args.z l) refl

pub returns-else-z-gt32767 : goal.returns-else-z-gt32767
returns-else-z-gt32767 c =
    let f = c.ranges.z in
    let p : negsuc 32767 ≤ℤ c.args.z = grind (arith, ints) in
    let q : c.args.z ≤ℤ pos 32767 = grind (arith, ints) in
    let d : FitsSigned w16 c.args.z = fits_sixteen c.args.z p q in
    rw (saturated_inside c.args.z p q) (simp to_z-of_z)
