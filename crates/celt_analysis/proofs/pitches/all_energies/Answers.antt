use Rattle.std.proofs.Common.{◌+◌, ◌-◌, arith, ◌∙◌}
use Rattle.celt_analysis.proofs.PitchLemmas.{wide-within, wide-energy}
use Rattle.celt_analysis.proofs.PlaceLemmas.{item-zeros}
use Rattle.celt_analysis.proofs.pitches.all_energies.Goals as goal

pub energies_of-requires-clause-items : goal.energies_of-requires-clause-items
energies_of-requires-clause-items c = wide-within c.widen.new.out c.args.d.now c.widen.ensures.items (λ i p. c.widen.ensures.others i p ∙ item-zeros 1982 i) c.requires.items

pub own_energy-requires-clause-items : goal.own_energy-requires-clause-items
own_energy-requires-clause-items c = wide-within c.widen.new.out c.args.d.now c.widen.ensures.items (λ i p. c.widen.ensures.others i p ∙ item-zeros 1982 i) c.requires.items

pub returns-clause-items : goal.returns-clause-items
returns-clause-items c = λ i p. c.energies_of.ensures.items i p ∙ wide-energy c.widen.new.out c.args.d.now (1022 - (15 + i)) c.args.n (omega (arith, c.requires.length)) c.widen.ensures.items

pub returns-clause-own : goal.returns-clause-own
returns-clause-own c = c.own_energy.ensures.value ∙ wide-energy c.widen.new.out c.args.d.now 1022 c.args.n (omega (arith, c.requires.length)) c.widen.ensures.items
