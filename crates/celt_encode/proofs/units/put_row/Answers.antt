use Rattle.std.proofs.Common.{◌≡◌, ap, arith, ◌∙◌, length}
use Rattle.std.specs.Prelude.{◌-◌, pos, replicate}
use Rattle.std.proofs.lemmas.Bool.Decides.{nat_tests}
use Rattle.celt_encode.specs.Units.{start_of}
use Rattle.celt_encode.proofs.UnitLemmas.{row_none, row_some, no_items}
use Rattle.celt_encode.proofs.units.put_row.Goals as goal

pub returns-then-is_empty-clause-value : goal.returns-then-is_empty-clause-value
returns-then-is_empty-clause-value c =
    let n : length c.args.spectrum.now ≡ 0 = grind (arith, nat_tests) in
    let e : length c.args.row.now - 0 ≡ 800 = omega (arith, c.requires.row) in
    c.clear_from.ensures ∙ ap (λ k. replicate k (pos 0)) e ∙ row_none c.args.kind c.args.spectrum.now (no_items c.args.spectrum.now n)

pub returns-else-is_empty-clause-value : goal.returns-else-is_empty-clause-value
returns-else-is_empty-clause-value c =
    row_some c.args.kind c.args.spectrum.now c.put_bands.new.row c.clear_from-else-is_empty.new.row c.start.result (c.start.ensures.value ∙ ap (start_of c.args.kind) c.from.ensures) c.put_bands.ensures.length c.put_bands.ensures.front c.clear_from-else-is_empty.ensures
