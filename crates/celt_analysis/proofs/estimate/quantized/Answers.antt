use Rattle.std.proofs.Common.{ap}
use Rattle.std.specs.Prelude.{◌+ℤ◌}
use Rattle.std.specs.Int.{int_shr}
use Rattle.std.proofs.lemmas.Int.{to_z-of_z}
use Rattle.celt_analysis.proofs.EstimateLemmas.{cut_steps}
use Rattle.celt_analysis.proofs.estimate.quantized.Goals as goal

pub returns-clause-value : goal.returns-clause-value
returns-clause-value c =
    let fx = c.ranges.x in
    let t = cut_steps c.args.x c.args.q.half c.args.q.shift c.requires.shift c.requires.half c.requires.size in
    let f0 = t.wide in
    let f1 = t.half in
    let f2 = t.sum in
    let f3 = t.shifted in
    let f4 = t.narrow in
    simp to_z-of_z (ap (λ z. int_shr (c.args.x +ℤ z) c.args.q.shift) c.requires.half)

pub returns-clause-size : goal.returns-clause-size
returns-clause-size c =
    let fx = c.ranges.x in
    let t = cut_steps c.args.x c.args.q.half c.args.q.shift c.requires.shift c.requires.half c.requires.size in
    let f0 = t.wide in
    let f1 = t.half in
    let f2 = t.sum in
    let f3 = t.shifted in
    let f4 = t.narrow in
    simp to_z-of_z t.size
