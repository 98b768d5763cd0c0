use Rattle.celt_tables.proofs.Entries.{caps_most}
use Rattle.celt_tables.proofs.laws.law_caps.Goals as goal

pub returns : goal.returns
returns c = caps_most
