use Rattle.celt_base.specs.declared.question.Question.TheVariants.{Bit}
use Rattle.range_coder.proofs.PlacesLemmas.{number_nearest}
use Rattle.range_coder.proofs.places.bit_choice.Goals as goal

pub returns-clause-nearest : goal.returns-clause-nearest
returns-clause-nearest c =
    λ p. number_nearest (Bit p) 2 c.nearest_below.result c.args.want c.ranges.want (λ a. (λ is. is, λ is. is)) c.nearest_below.ensures.nearest
