use Rattle.std.proofs.Common.{sym}
use Rattle.std.proofs.lemmas.Int.{to_z-of_z}
use Rattle.celt_base.proofs.BandEnds.{end_most}
use Rattle.celt_encode.proofs.ListeningLemmas.{lever_steps}
use Rattle.celt_encode.proofs.listening.lever.Goals as goal

pub overflow_mul-result-2 : goal.overflow_mul-result-2
overflow_mul-result-2 c =
    let t = lever_steps c.args.height c.from.result c.from-2.result c.args.band c.args.kind.end (sym c.from.ensures) (sym c.from-2.ensures) c.requires.height c.requires.band (end_most c.args.kind) in
    let a = t.height in
    let b = t.band in
    let d = t.end in
    let e = t.twice in
    let f = t.more in
    let g = t.way in
    simp to_z-of_z t.product

pub returns-clause-value : goal.returns-clause-value
returns-clause-value c =
    let t = lever_steps c.args.height c.from.result c.from-2.result c.args.band c.args.kind.end (sym c.from.ensures) (sym c.from-2.ensures) c.requires.height c.requires.band (end_most c.args.kind) in
    let a = t.height in
    let b = t.band in
    let d = t.end in
    let e = t.twice in
    let f = t.more in
    let g = t.way in
    let h = t.product in
    simp to_z-of_z t.value

pub returns-clause-size : goal.returns-clause-size
returns-clause-size c =
    let t = lever_steps c.args.height c.from.result c.from-2.result c.args.band c.args.kind.end (sym c.from.ensures) (sym c.from-2.ensures) c.requires.height c.requires.band (end_most c.args.kind) in
    let a = t.height in
    let b = t.band in
    let d = t.end in
    let e = t.twice in
    let f = t.more in
    let g = t.way in
    let h = t.product in
    simp to_z-of_z t.size
