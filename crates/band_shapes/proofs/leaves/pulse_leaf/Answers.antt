use Rattle.std.proofs.Common.{◌≡◌, ◌≤◌, ◌<◌, ◌^◌, sym, subst, ◌∙◌, ap, arith, length}
use Rattle.std.specs.Prelude.{All, slice_get, Some, unsigned_abs, FitsSigned}
use Rattle.std.specs.Int.{w64}
use Rattle.std.proofs.lemmas.Int.{to_z-of_z}
use Rattle.spread_fold.specs.Spreading.{spread_by}
use Rattle.fixed_math.specs.Unit.{unit_of}
use Rattle.pulse_vectors.specs.Vectors.{vectors}
use Rattle.band_shapes.proofs.LeafLemmas.{pulse_made, pulses_small, unit_small, gain_fits}
use Rattle.band_shapes.proofs.leaves.pulse_leaf.Goals as goal

pub unit-requires-clause-items : goal.unit-requires-clause-items
unit-requires-clause-items c = subst (All (λ v. unsigned_abs v < 2 ^ 40)) (sym c.widen.ensures) (pulses_small c.args.pulses.count c.unrank.new.y c.unrank.ensures.pulses c.requires.leaf.pulses)

pub returns : goal.returns
returns c =
    let f : FitsSigned w64 c.args.wish.gain = gain_fits c.args.wish.gain c.requires.fits.gain_low c.requires.fits.gain_high in
    let h = simp to_z-of_z at c.unit.ensures in
    let small : All (λ v. unsigned_abs v ≤ 2 ^ 17) c.unit.new.v = unit_small c.args.wish.gain c.unit.new.v c.requires.fits.gain_low c.requires.fits.gain_high h.size in
    let stands = subst (λ n. slice_get (vectors n c.args.pulses.count) c.args.pulses.index ≡ Some c.unrank.new.y) c.requires.room c.unrank.ensures.stands in
    let x = c.rotate.ensures.value ∙ ap (spread_by _ c.args.pulses.count _ _) (h.value ∙ ap (unit_of c.args.wish.gain) c.widen.ensures) in
    pulse_made c.args.tools.now.layout.spread (length c.args.x.now) c.args.pulses.count c.args.pulses.index c.args.seed c.mask_of.result c.unrank.new.y c.rotate.new.x c.args.wish stands x c.mask_of.ensures.value c.mask_of.ensures.size
    (c.rotate.ensures.size (2 ^ 17) (omega arith) small)
