use Rattle.std.proofs.Common.{◌+◌, ◌*◌, ◌≤◌, sym, subst}
use Rattle.std.specs.Prelude.{unsigned_abs}
use Rattle.std.proofs.lemmas.Int.{to_z-of_z}
use Rattle.post_filter.proofs.EchoLemmas.{steps_at, echo_within, echo_near}
use Rattle.post_filter.proofs.echoes.echo_two.Goals as goal

pub overflow_mul-result-2 : goal.overflow_mul-result-2
overflow_mul-result-2 c =
    let t = steps_at c.args.taps c.args.v.now c.args.p c.requires.start c.requires.values in
    let x = t.x_fits in
    let y1 = t.y1_fits in
    let y2 = t.y2_fits in
    let z1 = t.z1_fits in
    let z2 = t.z2_fits in
    let a = t.first in
    let b = t.second in
    let d = t.third in
    let here = t.here in
    let beside = t.beside in
    let behind = t.behind in
    let near = t.near in
    let far = t.far in
    let two = t.two in
    let all = t.all in
    simp (to_z-of_z, b) t.near

pub overflow_add-result-3 : goal.overflow_add-result-3
overflow_add-result-3 c =
    let t = steps_at c.args.taps c.args.v.now c.args.p c.requires.start c.requires.values in
    let x = t.x_fits in
    let y1 = t.y1_fits in
    let y2 = t.y2_fits in
    let z1 = t.z1_fits in
    let z2 = t.z2_fits in
    let a = t.first in
    let b = t.second in
    let d = t.third in
    let here = t.here in
    let beside = t.beside in
    let behind = t.behind in
    let near = t.near in
    let far = t.far in
    let two = t.two in
    let all = t.all in
    simp (to_z-of_z, a, b) t.two

pub returns-clause-value : goal.returns-clause-value
returns-clause-value c =
    let t = steps_at c.args.taps c.args.v.now c.args.p c.requires.start c.requires.values in
    let x = t.x_fits in
    let y1 = t.y1_fits in
    let y2 = t.y2_fits in
    let z1 = t.z1_fits in
    let z2 = t.z2_fits in
    let a = t.first in
    let b = t.second in
    let d = t.third in
    let here = t.here in
    let beside = t.beside in
    let behind = t.behind in
    let near = t.near in
    let far = t.far in
    let two = t.two in
    let all = t.all in
    simp (to_z-of_z, a, b) (echo_near c.args.taps.centre c.args.taps.near c.args.taps.far c.args.taps.period c.args.v.now c.args.p c.requires.far)

pub returns-clause-size : goal.returns-clause-size
returns-clause-size c = λ m h.
    subst (λ z. unsigned_abs z ≤ c.args.taps.centre * m + 2 * (c.args.taps.near * m) + 2 * (c.args.taps.far * m)) (sym (returns-clause-value c))
    (echo_within c.args.taps.centre c.args.taps.near c.args.taps.far c.args.taps.period c.args.v.now c.args.p m c.args.taps.least_period c.args.taps.most_period c.requires.start h)
