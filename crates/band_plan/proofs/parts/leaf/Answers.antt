use Rattle.std.proofs.Common.{◌≡◌, ◌≤◌, ◌∙◌, ap, sym, subst, arith}
use Rattle.std.specs.Prelude.{unsigned_abs, FitsSigned}
use Rattle.std.specs.Int.{w64, cast_signed as to_z, cast_unsigned as of_z}
use Rattle.std.proofs.lemmas.Int.{to_z-of_z}
use Rattle.band_plan.specs.Parts.{fitting}
use Rattle.pulse_vectors.specs.Costs.{index_near}
use Rattle.pulse_vectors.specs.Vectors.{count_of}
use Rattle.band_plan.proofs.LeafSteps.{leaf_some, index_count, two_vectors, index_pulses, none_left}
use Rattle.band_plan.proofs.parts.leaf.Goals as goal

pub returns-then-index-eq0-clause-coded : goal.returns-then-index-eq0-clause-coded
returns-then-index-eq0-clause-coded g c =
    let is : c.fitting-index.result ≡ fitting c.args.piece.n c.args.share.left (index_near c.args.piece.n c.args.share.bits) =
    c.fitting-index.ensures.value ∙ ap (λ q. fitting c.args.piece.n c.args.share.left q) c.nearest.ensures.value in
    none_left c.args.piece c.args.share c.fitting-index.result c.after.result.left _ _ is c.if-index-eq0.true c.after.ensures c.push.ensures.items

pub count-requires-clause-fits : goal.count-requires-clause-fits
count-requires-clause-fits g c =
    let n = c.requires.n in
    let a = c.nearest.ensures.within in
    let b = c.fitting-index.ensures.within in
    index_count c.args.piece.n c.fitting-index.result c.pulses_of-k.result n.0 (omega (arith, a, b)) c.pulses_of-k.ensures.exact

pub ask_at-answer-requires-clause-valid : goal.ask_at-answer-requires-clause-valid
ask_at-answer-requires-clause-valid g c =
    let a = c.nearest.ensures.within in
    let b = c.fitting-index.ensures.within in
    let some = index_pulses c.fitting-index.result c.pulses_of-k.result (omega (arith, a, b)) c.if-index-eq0.false c.pulses_of-k.ensures.exact in
    let two : 2 ≤ count_of c.args.piece.n c.pulses_of-k.result = two_vectors c.args.piece.n c.pulses_of-k.result c.requires.n.0 some in
    subst (λ v. 2 ≤ v) (sym c.count.ensures.exact) two

pub returns-clause-coded : goal.returns-clause-coded
returns-clause-coded g c =
    let is : c.fitting-index.result ≡ fitting c.args.piece.n c.args.share.left (index_near c.args.piece.n c.args.share.bits) =
    c.fitting-index.ensures.value ∙ ap (λ q. fitting c.args.piece.n c.args.share.left q) c.nearest.ensures.value in
    let f : FitsSigned w64 c.ask_at-answer.result = record { sfits = c.ask_at-answer.type_inv } in
    leaf_some c.args.piece c.args.share c.fitting-index.result c.pulses_of-k.result c.count.result c.cost.result (unsigned_abs (to_z w64 (of_z w64 c.ask_at-answer.result))) c.ask_at-answer.result c.after-2.result.left _ _
    is c.if-index-eq0.false c.pulses_of-k.ensures.exact c.count.ensures.exact c.cost.ensures.exact (ap unsigned_abs (to_z-of_z w64 c.ask_at-answer.result f)) c.after-2.ensures c.push-2.ensures.items c.ask_at-answer.ensures.walked
