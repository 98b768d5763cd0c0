use Rattle.celt_synth.proofs.GridLemmas.{energies_after_is}
use Rattle.celt_synth.proofs.rows.keep_energies.Goals as goal

pub returns-clause-value : goal.returns-clause-value
returns-clause-value c = energies_after_is c.args.kind.channels c.args.kind.end c.args.energies.now c.copy_mono.new.energies _ c.copy_mono.ensures.value c.clear_both.ensures.value
