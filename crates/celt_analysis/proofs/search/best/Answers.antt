use Rattle.std.proofs.Common.{sym, ◌∙◌}
use Rattle.fixed_math.specs.Items.{item}
use Rattle.celt_analysis.specs.Pitch.{correlations, energies}
use Rattle.celt_analysis.proofs.SearchLemmas.{raised-ratio}
use Rattle.celt_analysis.proofs.search.best.Goals as goal

pub returns-then-is_reached : goal.returns-then-is_reached
returns-then-is_reached c =
    raised-ratio (correlations (item c.args.d.now) 1022 c.args.e.n) (energies (item c.args.d.now) 1022 c.args.e.n) c.args.own 2 1008 c.best_from.result c.greatest-i.result _ _ _ _ c.greatest-i.ensures (c.or_equal-raised.ensures.square ∙ c.ratio_of.ensures.square) (c.or_equal-raised.ensures.energy ∙ c.ratio_of.ensures.energy) c.correlation_of.ensures.value (c.requires.energies c.greatest-i.result c.greatest-i.ensures) (sym c.is_reached.ensures ∙ c.if-is_reached.true) c.best_from.ensures
