use Rattle.std.proofs.Common.{◌≡◌, ◌∙◌, rules, sym}
use Rattle.std.specs.Prelude.{FitsSigned}
use Rattle.std.specs.Int.{w16}
use Rattle.std.proofs.lemmas.Int.{to_z-of_z}
use Rattle.fixed_math.specs.Rounding.{rounded}
use Rattle.post_filter.specs.Samples.{saturated}
use Rattle.post_filter.proofs.SampleLemmas.{plain_steps, sample-plain}
use Rattle.post_filter.proofs.conversion.plain_sample.Goals as goal

pub returns : goal.returns
returns c =
    let fy = c.ranges.y in
    let t = plain_steps c.args.y c.requires in
    let a = t.sum in
    let b = t.shifted in
    let d = t.word in
    let f : FitsSigned w16 c.narrowed_word.result = search rules in
    let e : c.narrowed_word.result ≡ saturated (rounded c.args.y 12) = simp to_z-of_z at c.narrowed_word.ensures in
    simp to_z-of_z (e ∙ sym (sample-plain c.args.y))

pub overflow_cast-y : goal.overflow_cast-y
overflow_cast-y c =
    let fy = c.ranges.y in
    let t = plain_steps c.args.y c.requires in
    let a = t.sum in
    let b = t.shifted in
    simp to_z-of_z t.word
