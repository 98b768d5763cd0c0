use Rattle.std.proofs.lemmas.Int.{to_z-of_z}
use Rattle.celt_encode.proofs.ListeningLemmas.{above_steps}
use Rattle.celt_encode.proofs.listening.is_above.Goals as goal

pub returns : goal.returns
returns c =
    let t = above_steps c.args.height c.args.below c.args.behind c.requires.height c.requires.below c.requires.behind in
    let a = t.height in
    let b = t.below in
    let d = t.behind in
    let e = t.twice in
    let f = t.less in
    let g = t.least in
    simp to_z-of_z
