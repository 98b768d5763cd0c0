use Rattle.std.proofs.Common.{◌+◌, ◌*◌, arith}
use Rattle.std.specs.Prelude.{pos, ◌-ℤ◌, slice_index, FitsSigned}
use Rattle.std.specs.Int.{w32}
use Rattle.std.proofs.lemmas.Int.{ints, to_z-of_z, to_z_pos, fits_signed_from_abs}
use Rattle.celt_tables.specs.declared.bands.TheConstants.{WIDTH_LOGARITHMS}
use Rattle.band_plan.proofs.AngleSteps.{price-is, logarithms_most}
use Rattle.band_plan.proofs.angles.price.Goals as goal

pub returns-clause-value : goal.returns-clause-value
returns-clause-value c =
    let m = logarithms_most c.args.band c.requires.band in
    let level = c.requires.level in
    let f : FitsSigned w32 (pos (slice_index WIDTH_LOGARITHMS c.args.band + 8 * c.args.level) -ℤ pos 8) =
    fits_signed_from_abs w32 (pos (slice_index WIDTH_LOGARITHMS c.args.band + 8 * c.args.level) -ℤ pos 8) (omega (arith, ints, m, level)) in
    rw (c.from.ensures, to_z_pos w32 (slice_index WIDTH_LOGARITHMS c.args.band + 8 * c.args.level) (omega (arith, m, level)), to_z-of_z w32 (pos (slice_index WIDTH_LOGARITHMS c.args.band + 8 * c.args.level) -ℤ pos 8) f) (price-is c.args.band c.args.level)
