use Rattle.celt_tables.proofs.Entries.{model_valid}
use Rattle.celt_tables.proofs.laws.law_energy_models.Goals as goal

pub returns : goal.returns
returns c = model_valid
