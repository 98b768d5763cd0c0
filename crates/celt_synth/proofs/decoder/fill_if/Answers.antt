use Rattle.std.proofs.Common.{◌≡◌, ap, ◌∙◌, true, false, sym}
use Rattle.celt_synth.specs.AntiCollapse.{uncollapsed_if}
use Rattle.celt_synth.specs.Shapes.{shapes_of}
use Rattle.celt_synth.proofs.StepLemmas.{asked, not_asked}
use Rattle.celt_synth.proofs.decoder.fill_if.Goals as goal

pub returns-then-asks-clause-left : goal.returns-then-asks-clause-left
returns-then-asks-clause-left c =
    ap (λ s. s.left) (c.fill_frame.ensures.value ∙ asked c.args.grounds.now _ ∙ ap (λ b. uncollapsed_if b c.args.grounds.now (shapes_of c.args.left.now c.args.right.now c.args.seed)) (sym c.if-asks.true))

pub returns-then-asks-clause-right : goal.returns-then-asks-clause-right
returns-then-asks-clause-right c =
    ap (λ s. s.right) (c.fill_frame.ensures.value ∙ asked c.args.grounds.now _ ∙ ap (λ b. uncollapsed_if b c.args.grounds.now (shapes_of c.args.left.now c.args.right.now c.args.seed)) (sym c.if-asks.true))

pub returns-else-asks-clause-left : goal.returns-else-asks-clause-left
returns-else-asks-clause-left c =
    ap (λ s. s.left) (not_asked c.args.grounds.now (shapes_of c.args.left.now c.args.right.now c.args.seed) ∙ ap (λ b. uncollapsed_if b c.args.grounds.now (shapes_of c.args.left.now c.args.right.now c.args.seed)) (sym c.if-asks.false))

pub returns-else-asks-clause-right : goal.returns-else-asks-clause-right
returns-else-asks-clause-right c =
    ap (λ s. s.right) (not_asked c.args.grounds.now (shapes_of c.args.left.now c.args.right.now c.args.seed) ∙ ap (λ b. uncollapsed_if b c.args.grounds.now (shapes_of c.args.left.now c.args.right.now c.args.seed)) (sym c.if-asks.false))
