use Rattle.std.proofs.Common.{◌≡◌, List, [], get_or, set, ap, ◌∙◌, arith}
use Rattle.std.specs.Prelude.{ℤ, pos}
use Rattle.std.proofs.lemmas.List.{get_or-set_other}
use Rattle.band_energy.specs.EnergyValues.{energy_by}
use Rattle.band_energy.proofs.ValueRows.{row_is, rows_are}
use Rattle.band_energy.proofs.values.apply.Goals as goal

pub returns-clause-value : goal.returns-clause-value
returns-clause-value c =
    let kind = c.args.kind in
    let old : List (List ℤ) = c.args.energies.now in
    let left : List ℤ = c.change_row.new.row in
    let first = c.terms_of.result in
    let second = c.terms_of-2.result in
    let kept : get_or (set old 0 left) 1 [] ≡ get_or old 1 [] = get_or-set_other old 0 1 left [] (omega arith) in
    rows_are kind c.args.intra c.args.a.now c.args.e.now old left _ c.told-energies
    (row_is kind c.args.intra c.args.a.now c.args.e.now old left 0 first.alpha first.beta first.end c.terms_of.ensures.alpha c.terms_of.ensures.beta
    c.terms_of.ensures.end c.change_row.ensures.length c.change_row.ensures.below c.change_row.ensures.above)
    (row_is kind c.args.intra c.args.a.now c.args.e.now old c.change_row-2.new.row 1 second.alpha second.beta second.end c.terms_of-2.ensures.alpha
    c.terms_of-2.ensures.beta c.terms_of-2.ensures.end c.change_row-2.ensures.length
    (λ band below. c.change_row-2.ensures.below band below ∙ ap (λ row. energy_by second.alpha second.beta c.args.a.now.fine c.args.e.now 1 row band) kept)
    (λ band above. c.change_row-2.ensures.above band above ∙ ap (λ row. get_or row band (pos 0)) kept))
