use Rattle.std.proofs.Common.{◌≡◌, ◌∙◌, ap, sym}
use Rattle.std.specs.Prelude.{Some}
use Rattle.celt_analysis.specs.Analyses.{analysed, analysis_of, found}
use Rattle.celt_encode.proofs.tests.Bench.next.Goals as goal

pub frame-requires-clause-kind : goal.frame-requires-clause-kind
unfolding analysis_of analysed found
frame-requires-clause-kind c = ap (λ a. a.kind) c.analyse.ensures ∙ ap Some (sym c.args.self.now.kinds)
