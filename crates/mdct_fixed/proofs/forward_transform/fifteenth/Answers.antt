use Rattle.std.proofs.lemmas.Int.{to_z-of_z}
use Rattle.mdct_fixed.proofs.ForwardLemmas.{fifteenth_steps, moved_quotient}
use Rattle.mdct_fixed.proofs.forward_transform.fifteenth.Goals as goal

pub returns-clause-re : goal.returns-clause-re
returns-clause-re c =
    let t = fifteenth_steps c.args.x.re c.requires.re in
    let a = t.number in
    let b = t.moved in
    let d = t.quotient in
    let e = t.back in
    simp to_z-of_z (moved_quotient c.args.x.re c.requires.re)

pub returns-clause-im : goal.returns-clause-im
returns-clause-im c =
    let t = fifteenth_steps c.args.x.im c.requires.im in
    let a = t.number in
    let b = t.moved in
    let d = t.quotient in
    let e = t.back in
    simp to_z-of_z (moved_quotient c.args.x.im c.requires.im)
