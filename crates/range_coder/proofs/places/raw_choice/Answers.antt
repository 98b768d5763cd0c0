use Rattle.std.proofs.Common.{◌*◌, ◌%◌, ◌^◌, arith}
use Rattle.std.proofs.lemmas.Nat.{one_shl}
use Rattle.celt_base.specs.declared.question.Question.TheVariants.{Raw}
use Rattle.range_coder.proofs.PlacesLemmas.{number_nearest, raw_answers}
use Rattle.range_coder.proofs.places.raw_choice.Goals as goal

pub returns-clause-nearest : goal.returns-clause-nearest
returns-clause-nearest c =
    let count = c.args.count in
    let most = c.requires.valid.1 in
    number_nearest (Raw count) ((1 * 2 ^ count) % 2 ^ 32) c.nearest_below.result c.args.want c.ranges.want
    (raw_answers count ((1 * 2 ^ count) % 2 ^ 32) (one_shl count 32 (omega arith))) c.nearest_below.ensures.nearest
