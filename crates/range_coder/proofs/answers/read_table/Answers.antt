use Rattle.std.proofs.Common.{◌+◌, suc, ◌≡◌, pos, refl, ap, ◌∙◌, arith}
use Rattle.celt_base.specs.declared.question.Question.TheVariants.{Table}
use Rattle.celt_base.specs.Questions.{start, table_row}
use Rattle.range_coder.proofs.Taking.{takes_row}
use Rattle.range_coder.proofs.answers.read_table.Goals as goal

pub returns-clause-takes : goal.returns-clause-takes
returns-clause-takes c =
    let place = c.place_in-place in
    let n = place.result.answer in
    takes_row c.args.frame.now c.args.window c.take_part-after.result (Table c.args.table) (pos n) (table_row c.args.table) n _ _ _
    place.ensures.answer refl (λ i holds. (holds, tt)) place.ensures.from
    (place.ensures.to ∙ ap (start (table_row c.args.table)) (let e : n + 1 ≡ suc n = omega arith in e)) (c.binary-shares.ensures.total ∙ c.power_of.ensures.value) c.take_part-after.ensures.takes
