use Rattle.mdct_fixed.proofs.PlanLemmas.{fourier_one, fourier_more}
use Rattle.mdct_fixed.proofs.laws.law_fourier.Goals as goal

pub returns-clause-one : goal.returns-clause-one
returns-clause-one c = fourier_one

pub returns-clause-more : goal.returns-clause-more
returns-clause-more c = fourier_more
