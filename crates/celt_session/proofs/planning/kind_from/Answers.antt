use Rattle.std.proofs.Common.{refl, ap, ◌∙◌}
use Rattle.celt_base.specs.Ends.{end_of_config}
use Rattle.celt_session.specs.Frames.{kind_of}
use Rattle.celt_session.proofs.KindFacts.{kinds_same}
use Rattle.celt_session.proofs.planning.kind_from.Goals as goal

pub returns : goal.returns
unfolding kind_of
returns c = kinds_same _ (kind_of c.args.toc) refl refl (c.end_of.ensures.value ∙ ap end_of_config c.from.ensures)
