use Rattle.celt_base.proofs.Fillings.{value_at, place_of_one}
use Rattle.celt_base.proofs.laws.law_laplace_places.Goals as goal

pub returns-clause-all : goal.returns-clause-all
returns-clause-all c = value_at

pub returns-clause-one : goal.returns-clause-one
returns-clause-one c = place_of_one
