use Rattle.std.proofs.Common.{◌≡◌, ◌≢◌, ◌%◌, ◌-◌, sym, ◌∙◌, ap, length}
use Rattle.std.proofs.lemmas.Bool.{eqb-true, eq-eqb, false≢true}
use Rattle.std.specs.Prelude.{FitsSigned}
use Rattle.std.specs.Int.{w64}
use Rattle.std.proofs.lemmas.Int.{to_z-of_z}
use Rattle.band_shapes.proofs.LeafLemmas.{silent_none, silent_noise, silent_fold, unit_small, gain_fits}
use Rattle.band_shapes.proofs.leaves.silent_leaf.Goals as goal

pub returns-then-fill-eq0 : goal.returns-then-fill-eq0
returns-then-fill-eq0 c =
    let e = ap (λ m. c.args.wish.fill % m) c.block_bits-all.ensures in
    silent_none (length c.args.x.now) c.args.seed c.args.source.now c.fill.new.self c.args.wish (sym e ∙ c.if-fill-eq0.true) (c.fill.ensures.after (λ y h. h))

pub returns-then-is_empty : goal.returns-then-is_empty
returns-then-is_empty c =
    let e = ap (λ m. c.args.wish.fill % m) c.block_bits-all.ensures in
    let f : FitsSigned w64 c.args.wish.gain = gain_fits c.args.wish.gain c.requires.gain_low c.requires.gain_high in
    let h = simp to_z-of_z at c.noise_unit.ensures in
    let z : length c.args.source.now ≡ 0 = eqb-true (length c.args.source.now) 0 (sym c.is_empty.ensures ∙ c.if-is_empty.true) in
    silent_noise (length c.args.x.now) c.args.seed c.noise_unit.result (c.block_bits-all.result - 1) c.args.source.now c.noise_unit.new.x c.args.wish (λ q. c.if-fill-eq0.false (e ∙ q)) z h.value h.seed (ap (λ m. m - 1) c.block_bits-all.ensures)
    (unit_small c.args.wish.gain c.noise_unit.new.x c.requires.gain_low c.requires.gain_high h.size)

pub returns : goal.returns
returns c =
    let e = ap (λ m. c.args.wish.fill % m) c.block_bits-all.ensures in
    let f : FitsSigned w64 c.args.wish.gain = gain_fits c.args.wish.gain c.requires.gain_low c.requires.gain_high in
    let h = simp to_z-of_z at c.fold_unit.ensures in
    let z : length c.args.source.now ≢ 0 = λ q. false≢true (sym c.if-is_empty.false ∙ (c.is_empty.ensures ∙ eq-eqb (length c.args.source.now) 0 q)) in
    silent_fold (length c.args.x.now) c.args.seed c.fold_unit.result _ c.args.source.now c.fold_unit.new.x c.args.wish (λ q. c.if-fill-eq0.false (e ∙ q)) z h.value h.seed e
    (unit_small c.args.wish.gain c.fold_unit.new.x c.requires.gain_low c.requires.gain_high h.size)
