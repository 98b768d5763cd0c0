use Rattle.std.proofs.Common.{◌∙◌, sym, rules}
use Rattle.std.specs.Prelude.{FitsSigned}
use Rattle.std.specs.Int.{w64}
use Rattle.std.proofs.lemmas.Int.{to_z-of_z}
use Rattle.post_filter.proofs.EchoLemmas.{TapsOf, taps_alone, taps_faded, term_behind}
use Rattle.post_filter.proofs.pitch.term_of.Goals as goal

pub returns-then-i-ge-FADE-clause-value : goal.returns-then-i-ge-FADE-clause-value
returns-then-i-ge-FADE-clause-value c =
    let f : FitsSigned w64 c.steady_term.result = search rules in
    let t : TapsOf c.args.to c.taps_of.result = record { period = c.taps_of.ensures.period; centre = c.taps_of.ensures.centre; near = c.taps_of.ensures.near; far = c.taps_of.ensures.far } in
    simp to_z-of_z (c.steady_term.ensures.value ∙ taps_alone c.args.to c.taps_of.result c.args.v.now c.args.p t ∙ sym (term_behind c.args.from c.args.to c.args.i c.args.v.now c.args.p c.if-i-ge-FADE.true))

pub returns-then-i-ge-FADE-clause-size : goal.returns-then-i-ge-FADE-clause-size
returns-then-i-ge-FADE-clause-size c =
    let f : FitsSigned w64 c.steady_term.result = search rules in
    simp to_z-of_z c.steady_term.ensures.size

pub returns-then-is_steady-clause-value : goal.returns-then-is_steady-clause-value
returns-then-is_steady-clause-value c =
    let f : FitsSigned w64 c.steady_term-then-is_steady.result = search rules in
    let t : TapsOf c.args.to c.taps_of-then-is_steady.result = record { period = c.taps_of-then-is_steady.ensures.period; centre = c.taps_of-then-is_steady.ensures.centre; near = c.taps_of-then-is_steady.ensures.near; far = c.taps_of-then-is_steady.ensures.far } in
    simp to_z-of_z (c.steady_term-then-is_steady.ensures.value ∙ taps_alone c.args.to c.taps_of-then-is_steady.result c.args.v.now c.args.p t ∙ sym (c.is_steady.ensures c.if-is_steady.true c.args.i c.args.v.now c.args.p))

pub returns-then-is_steady-clause-size : goal.returns-then-is_steady-clause-size
returns-then-is_steady-clause-size c =
    let f : FitsSigned w64 c.steady_term-then-is_steady.result = search rules in
    simp to_z-of_z c.steady_term-then-is_steady.ensures.size

pub returns-clause-value : goal.returns-clause-value
returns-clause-value c =
    let f : FitsSigned w64 c.faded_term.result = search rules in
    let t : TapsOf c.args.from c.taps_of-2.result = record { period = c.taps_of-2.ensures.period; centre = c.taps_of-2.ensures.centre; near = c.taps_of-2.ensures.near; far = c.taps_of-2.ensures.far } in
    let u : TapsOf c.args.to c.taps_of-3.result = record { period = c.taps_of-3.ensures.period; centre = c.taps_of-3.ensures.centre; near = c.taps_of-3.ensures.near; far = c.taps_of-3.ensures.far } in
    simp to_z-of_z (c.faded_term.ensures.value ∙ taps_faded c.args.from c.args.to c.taps_of-2.result c.taps_of-3.result c.fade_at.result c.args.i c.args.v.now c.args.p c.fade_at.ensures.value t u)

pub returns-clause-size : goal.returns-clause-size
returns-clause-size c =
    let f : FitsSigned w64 c.faded_term.result = search rules in
    simp to_z-of_z c.faded_term.ensures.size
