use Rattle.std.proofs.Common.{◌≡◌, ◌*◌, ◌∙◌, ap, arith}
use Rattle.celt_tables.specs.Tables.{edge_of}
use Rattle.celt_analysis.specs.Signals.{blocks_of, is_stereo}
use Rattle.celt_analysis.proofs.MeasureLemmas.{is_mono, is_two, silent_mono, silent_left, sounds_left}
use Rattle.celt_analysis.proofs.measures.silence.Goals as goal

pub returns-then-kind-eq1 : goal.returns-then-kind-eq1
returns-then-kind-eq1 c =
    let kind = c.args.kind in
    let e : c.edge.result ≡ edge_of kind.end = c.edge.ensures ∙ ap edge_of c.from.ensures in
    let n : c.blocks-2.result * c.edge.result ≡ blocks_of kind * edge_of kind.end = (λ k. c.blocks-2.ensures.value k * e k) in
    silent_mono (is_stereo kind) _ _ c.args.left.now c.args.right.now c.is_zero.result (is_mono kind (omega (arith, c.if-kind-eq1.true))) n c.is_zero.ensures

pub returns-then-is_zero : goal.returns-then-is_zero
returns-then-is_zero c =
    let kind = c.args.kind in
    let e : c.edge.result ≡ edge_of kind.end = c.edge.ensures ∙ ap edge_of c.from.ensures in
    let n : c.blocks-2.result * c.edge.result ≡ blocks_of kind * edge_of kind.end = (λ k. c.blocks-2.ensures.value k * e k) in
    silent_left (is_stereo kind) _ _ c.args.left.now c.args.right.now c.is_zero-2.result c.is_zero-then-is_zero.result (is_two kind (λ e. omega (arith, e, c.if-kind-eq1.false))) n c.is_zero-2.ensures c.if-is_zero.true c.is_zero-then-is_zero.ensures

pub returns-else-is_zero : goal.returns-else-is_zero
returns-else-is_zero c =
    let kind = c.args.kind in
    let e : c.edge.result ≡ edge_of kind.end = c.edge.ensures ∙ ap edge_of c.from.ensures in
    let n : c.blocks-2.result * c.edge.result ≡ blocks_of kind * edge_of kind.end = (λ k. c.blocks-2.ensures.value k * e k) in
    sounds_left (is_stereo kind) _ _ c.args.left.now c.args.right.now c.is_zero-2.result (is_two kind (λ e. omega (arith, e, c.if-kind-eq1.false))) n c.is_zero-2.ensures c.if-is_zero.false
