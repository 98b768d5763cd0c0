use Rattle.std.proofs.lemmas.Int.{to_z-of_z}
use Rattle.celt_analysis.proofs.SignalLemmas.{emphasis_steps}
use Rattle.celt_analysis.proofs.emphasis.emphasize_sample.Goals as goal

pub overflow_sub-result : goal.overflow_sub-result
overflow_sub-result c =
    let fa = c.ranges.sample in
    let fb = c.ranges.before in
    let t = emphasis_steps c.args.sample c.args.before fa fb in
    let a = t.a_fits in
    let b = t.b_fits in
    let p = t.product in
    let s = t.sum in
    let k = t.kept in
    let m = t.scaled in
    simp to_z-of_z t.difference

pub returns-clause-value : goal.returns-clause-value
returns-clause-value c =
    let fa = c.ranges.sample in
    let fb = c.ranges.before in
    let t = emphasis_steps c.args.sample c.args.before fa fb in
    let a = t.a_fits in
    let b = t.b_fits in
    let p = t.product in
    let s = t.sum in
    let k = t.kept in
    let m = t.scaled in
    let d = t.difference in
    let w = t.wide in
    simp to_z-of_z

pub returns-clause-size : goal.returns-clause-size
returns-clause-size c =
    let fa = c.ranges.sample in
    let fb = c.ranges.before in
    let t = emphasis_steps c.args.sample c.args.before fa fb in
    let a = t.a_fits in
    let b = t.b_fits in
    let p = t.product in
    let s = t.sum in
    let k = t.kept in
    let m = t.scaled in
    let d = t.difference in
    let w = t.wide in
    simp to_z-of_z t.size
