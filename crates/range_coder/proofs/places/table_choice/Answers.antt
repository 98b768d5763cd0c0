use Rattle.std.proofs.Common.{◌≡◌, ◌*◌, ◌%◌, ◌^◌, ◌<◌, pos, refl, sym, ◌∙◌, subst, arith}
use Rattle.std.proofs.lemmas.Nat.{one_shl}
use Rattle.celt_base.specs.declared.question.Question.TheVariants.{Table}
use Rattle.celt_base.specs.Questions.{table_row, IsBelow, answers_of, total_of}
use Rattle.range_coder.proofs.PlacesLemmas.{number_nearest, row_choice, table_next}
use Rattle.range_coder.proofs.places.table_choice.Goals as goal

pub returns-clause-choice : goal.returns-clause-choice
returns-clause-choice c =
    let table = c.args.table in
    let n = c.nearest_below-answer.result in
    let below : n < answers_of table = subst (λ k. n < k) c.answers_of.ensures.value c.nearest_below-answer.ensures.below in
    let next = table_next table n c.table_start-from.result below c.table_start-from.ensures.value in
    let length = c.length_of.ensures.value in
    let upper = next.0 in
    let power = c.power_of.result in
    let most = c.power_of.ensures.most in
    let total : (1 * 2 ^ power) % 2 ^ 32 ≡ total_of table = one_shl power 32 (omega arith) ∙ c.power_of.ensures.value in
    c.choice_of.ensures.choice (Table table) c.args.want
    (row_choice (Table table) c.args.want (pos n) (table_row table) n _ _ _
    (number_nearest (Table table) c.answers_of.result n c.args.want c.ranges.want
    (λ a. (subst (λ k. IsBelow k a) (sym c.answers_of.ensures.value), subst (λ k. IsBelow k a) c.answers_of.ensures.value)) c.nearest_below-answer.ensures.nearest)
    refl c.table_start-from.ensures.value (omega arith) total)

pub returns-clause-total : goal.returns-clause-total
returns-clause-total c =
    let power = c.power_of.result in
    let most = c.power_of.ensures.most in
    c.choice_of.ensures.total ∙ one_shl power 32 (omega arith) ∙ c.power_of.ensures.value
