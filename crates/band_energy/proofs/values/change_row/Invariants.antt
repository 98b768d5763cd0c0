use Rattle.band_energy.proofs.ValueRows.{RowChanged}
use Rattle.band_energy.proofs.values.change_row.Given as goal

abbrev pub invariant-loop-band : goal.invariant-loop-band
invariant-loop-band l = RowChanged l.terms.alpha l.terms.beta l.a.fine l.e l.channel l.fn.row l.row l.carried l.band
