use Rattle.wav_edge.proofs.FileLaws.{no_data, only, cut, held, named}
use Rattle.wav_edge.proofs.laws.law_ends.Goals as goal

pub returns-clause-no_data : goal.returns-clause-no_data
returns-clause-no_data c = no_data

pub returns-clause-only : goal.returns-clause-only
returns-clause-only c = only

pub returns-clause-cut : goal.returns-clause-cut
returns-clause-cut c = cut

pub returns-clause-held : goal.returns-clause-held
returns-clause-held c = held

pub returns-clause-named : goal.returns-clause-named
returns-clause-named c = named
