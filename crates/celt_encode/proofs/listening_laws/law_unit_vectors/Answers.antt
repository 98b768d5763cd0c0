use Rattle.celt_encode.specs.Units.{band_of}
use Rattle.celt_encode.proofs.ListeningLawLemmas.{unit_found, band_small, unit_zero}
use Rattle.celt_encode.proofs.listening_laws.law_unit_vectors.Goals as goal

pub returns-clause-vector : goal.returns-clause-vector
returns-clause-vector c = unit_found

pub returns-clause-size : goal.returns-clause-size
returns-clause-size c = band_small

pub returns-clause-zero : goal.returns-clause-zero
returns-clause-zero c kind spectrum b p e = unit_zero (band_of kind spectrum b) p e
