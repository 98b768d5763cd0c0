use Rattle.std.proofs.Common.{◌+◌}
use Rattle.post_filter.specs.Comb.{term}
use Rattle.post_filter.proofs.OutputLemmas.{one_solution}
use Rattle.post_filter.proofs.FilterLemmas.{term_back, combed_are, combed_is}
use Rattle.post_filter.proofs.laws.law_comb.Goals as goal

pub returns-clause-met : goal.returns-clause-met
returns-clause-met c = combed_are

pub returns-clause-fixed : goal.returns-clause-fixed
returns-clause-fixed c = combed_is

pub returns-clause-one : goal.returns-clause-one
returns-clause-one c = λ from to at n xs ys zs start p q.
    one_solution (λ i vs. term from to i vs (at + i)) at n xs ys zs (term_back from to at n start) p q
