use Rattle.std.proofs.Common.{ap, arith, ◌∙◌, [], ◌∷◌}
use Rattle.celt_encode.specs.Units.{unit_row, units_for}
use Rattle.celt_encode.proofs.UnitLemmas.{pair_set, whole_or_none}
use Rattle.celt_encode.proofs.units.put_units.Goals as goal

pub put_row-requires-clause-count : goal.put_row-requires-clause-count
put_row-requires-clause-count c = whole_or_none c.args.a.now.kind c.args.kind 0 c.spectrum.result.now c.requires c.spectrum.ensures.count

pub put_row-requires-2-clause-count : goal.put_row-requires-2-clause-count
put_row-requires-2-clause-count c = whole_or_none c.args.a.now.kind c.args.kind 1 c.spectrum-2.result.now c.requires c.spectrum-2.ensures.count

pub returns-clause-value : goal.returns-clause-value
unfolding units_for
returns-clause-value c =
    let left = c.put_row.ensures.value ∙ ap (unit_row c.args.kind) c.spectrum.ensures.value in
    let right = c.put_row-2.ensures.value ∙ ap (unit_row c.args.kind) c.spectrum-2.ensures.value in
    pair_set c.args.rows.now c.put_row.new.row c.put_row-2.new.row (omega arith) ∙ (λ k. left k ∷ right k ∷ [])
