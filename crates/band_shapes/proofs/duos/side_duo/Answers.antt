use Rattle.std.proofs.Common.{ap, sym, ◌∙◌}
use Rattle.band_shapes.specs.Bands.{weighed}
use Rattle.band_shapes.specs.Parts.{side_of}
use Rattle.band_shapes.proofs.DuoLemmas.{side_yes, side_no}
use Rattle.band_shapes.proofs.duos.side_duo.Goals as goal

pub returns-then-is_side-clause-value : goal.returns-then-is_side-clause-value
returns-then-is_side-clause-value c = c.side_weighed.ensures.value ∙ side_yes c.args.cut.theta c.args.negative c.args.v (sym c.is_side.ensures ∙ c.if-is_side.true)

pub returns-clause-value : goal.returns-clause-value
returns-clause-value c =
    c.side_weighed-2.ensures.value ∙ (ap (weighed (side_of c.args.cut.theta)) c.upright.ensures.value ∙ side_no c.args.cut.theta c.args.negative c.args.v (sym c.is_side.ensures ∙ c.if-is_side.false))
