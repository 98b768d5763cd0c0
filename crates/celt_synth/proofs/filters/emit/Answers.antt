use Rattle.std.proofs.Common.{◌≡◌, arith, ap, subst, sym, ◌∙◌, w32, w64, FitsSigned, length}
use Rattle.std.proofs.lemmas.Int.{to_z-of_z, fits_signed_from_abs}
use Rattle.fixed_math.specs.Items.{item}
use Rattle.post_filter.specs.Deemphasis.{IsDeemphasis, before, output_before}
use Rattle.post_filter.specs.Samples.{ArePut}
use Rattle.celt_synth.specs.Filters.{AreEmitted}
use Rattle.celt_synth.proofs.FilterLemmas.{emitted, remembered}
use Rattle.celt_synth.proofs.filters.emit.Goals as goal

pub returns-clause-samples : goal.returns-clause-samples
returns-clause-samples c =
    let fm = c.ranges.memory in
    let same : c.copy_from_slice.new.self ≡ c.args.outputs.now = c.copy_from_slice.ensures.after in
    let d : IsDeemphasis c.args.memory c.copy_from_slice.new.self c.deemphasis.new.x = simp to_z-of_z at c.deemphasis.ensures.value in
    let fg : FitsSigned w32 c.args.place.gain = fits_signed_from_abs w32 _ (let g = c.requires.gain in omega (arith, g)) in
    let p : ArePut c.args.place.gain c.deemphasis.new.x c.args.place.start c.args.place.stride (length c.deemphasis.new.x) c.args.out.now c.samples.new.out = simp to_z-of_z at c.samples.ensures in
    let r : AreEmitted c.args.place.gain c.args.memory (item c.copy_from_slice.new.self) c.args.place.start c.args.place.stride (length c.copy_from_slice.new.self) c.args.out.now c.samples.new.out =
    emitted c.args.place.gain c.args.memory c.copy_from_slice.new.self c.deemphasis.new.x c.args.place.start c.args.place.stride c.args.out.now c.samples.new.out d p in
    subst (λ xs. AreEmitted c.args.place.gain c.args.memory (item xs) c.args.place.start c.args.place.stride (length xs) c.args.out.now c.samples.new.out) same r

pub returns-clause-memory : goal.returns-clause-memory
returns-clause-memory c =
    let fm = c.ranges.memory in
    let fl : FitsSigned w64 c.deemphasis.new.memory = fits_signed_from_abs w64 _ (let g = c.deemphasis.ensures.memory_size in omega (arith, g)) in
    let same : c.copy_from_slice.new.self ≡ c.args.outputs.now = c.copy_from_slice.ensures.after in
    let d : IsDeemphasis c.args.memory c.copy_from_slice.new.self c.deemphasis.new.x = simp to_z-of_z at c.deemphasis.ensures.value in
    let e : c.deemphasis.new.memory ≡ before c.args.memory c.deemphasis.new.x (length c.copy_from_slice.new.self) = simp to_z-of_z at c.deemphasis.ensures.memory in
    simp to_z-of_z
    (e ∙ remembered c.args.memory c.copy_from_slice.new.self c.deemphasis.new.x d (length c.copy_from_slice.new.self) (omega arith)
    ∙ ap (λ xs. output_before c.args.memory (item xs) (length xs)) same)
