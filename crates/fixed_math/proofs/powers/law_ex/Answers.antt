use Rattle.fixed_math.proofs.PowerLemmas.{ex-start, ex-octave, ex-falls}
use Rattle.fixed_math.proofs.powers.law_ex.Goals as goal

pub returns-clause-start : goal.returns-clause-start
returns-clause-start c = ex-start

pub returns-clause-octave : goal.returns-clause-octave
returns-clause-octave c = ex-octave c.args.d

pub returns-clause-falls : goal.returns-clause-falls
returns-clause-falls c = ex-falls c.args.d c.args.down c.requires
