use Rattle.std.proofs.lemmas.Int.{to_z-of_z}
use Rattle.mdct_fixed.proofs.FifthLemmas.{five_steps}
use Rattle.mdct_fixed.proofs.rows.added.Goals as goal

pub overflow_add-result : goal.overflow_add-result
overflow_add-result c =
    let t = five_steps c.args.t.first c.args.t.second c.args.t.third c.args.t.fourth c.args.t.fifth c.requires.first c.requires.second c.requires.third c.requires.fourth c.requires.fifth in
    let f1 = t.first in
    let f2 = t.second in
    let f3 = t.third in
    let f4 = t.fourth in
    let f5 = t.fifth in
    let g2 = t.two in
    let g3 = t.three in
    let g4 = t.four in
    let g5 = t.five in
    simp to_z-of_z t.two

pub overflow_add-result-2 : goal.overflow_add-result-2
overflow_add-result-2 c =
    let t = five_steps c.args.t.first c.args.t.second c.args.t.third c.args.t.fourth c.args.t.fifth c.requires.first c.requires.second c.requires.third c.requires.fourth c.requires.fifth in
    let f1 = t.first in
    let f2 = t.second in
    let f3 = t.third in
    let f4 = t.fourth in
    let f5 = t.fifth in
    let g2 = t.two in
    let g3 = t.three in
    let g4 = t.four in
    let g5 = t.five in
    simp to_z-of_z t.three

pub overflow_add-result-3 : goal.overflow_add-result-3
overflow_add-result-3 c =
    let t = five_steps c.args.t.first c.args.t.second c.args.t.third c.args.t.fourth c.args.t.fifth c.requires.first c.requires.second c.requires.third c.requires.fourth c.requires.fifth in
    let f1 = t.first in
    let f2 = t.second in
    let f3 = t.third in
    let f4 = t.fourth in
    let f5 = t.fifth in
    let g2 = t.two in
    let g3 = t.three in
    let g4 = t.four in
    let g5 = t.five in
    simp to_z-of_z t.four

pub overflow_add-result-4 : goal.overflow_add-result-4
overflow_add-result-4 c =
    let t = five_steps c.args.t.first c.args.t.second c.args.t.third c.args.t.fourth c.args.t.fifth c.requires.first c.requires.second c.requires.third c.requires.fourth c.requires.fifth in
    let f1 = t.first in
    let f2 = t.second in
    let f3 = t.third in
    let f4 = t.fourth in
    let f5 = t.fifth in
    let g2 = t.two in
    let g3 = t.three in
    let g4 = t.four in
    let g5 = t.five in
    simp to_z-of_z t.five

pub returns : goal.returns
returns c =
    let t = five_steps c.args.t.first c.args.t.second c.args.t.third c.args.t.fourth c.args.t.fifth c.requires.first c.requires.second c.requires.third c.requires.fourth c.requires.fifth in
    let f1 = t.first in
    let f2 = t.second in
    let f3 = t.third in
    let f4 = t.fourth in
    let f5 = t.fifth in
    let g2 = t.two in
    let g3 = t.three in
    let g4 = t.four in
    let g5 = t.five in
    simp to_z-of_z
