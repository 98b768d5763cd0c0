use Rattle.fixed_math.specs.Items.{item}
use Rattle.celt_analysis.specs.Pitch.{correlations, energies}
use Rattle.celt_analysis.proofs.SearchLemmas.{next-of-ratio}
use Rattle.celt_analysis.proofs.search.next_better.Goals as goal

pub returns : goal.returns
returns c = next-of-ratio (correlations (item c.args.d.now) 1022 c.args.e.n) (energies (item c.args.d.now) 1022 c.args.e.n) c.args.place 1008 c.next_reaching.result _ _ _ c.ratio_of-ratio.ensures.slack c.ratio_of-ratio.ensures.square c.ratio_of-ratio.ensures.energy c.next_reaching.ensures
