use Rattle.std.proofs.Common.{ap, sym, ◌∙◌}
use Rattle.band_shapes.specs.Bands.{weighed}
use Rattle.band_shapes.specs.Parts.{mid_of}
use Rattle.band_shapes.proofs.DuoLemmas.{mid_yes, mid_no}
use Rattle.band_shapes.proofs.duos.mid_duo.Goals as goal

pub returns-then-is_side-clause-value : goal.returns-then-is_side-clause-value
returns-then-is_side-clause-value c =
    c.mid_weighed.ensures.value ∙ (ap (weighed (mid_of c.args.cut.theta)) c.upright.ensures.value ∙ mid_yes c.args.cut.theta c.args.negative c.args.v (sym c.is_side.ensures ∙ c.if-is_side.true))

pub returns-clause-value : goal.returns-clause-value
returns-clause-value c = c.mid_weighed-2.ensures.value ∙ mid_no c.args.cut.theta c.args.negative c.args.v (sym c.is_side.ensures ∙ c.if-is_side.false)
