use Rattle.std.proofs.Common.{◌∙◌, ap}
use Rattle.std.specs.Prelude.{pos, replicate}
use Rattle.band_shapes.proofs.PairLemmas.{front_is}
use Rattle.band_shapes.proofs.pairs.clear.Goals as goal

pub returns : goal.returns
returns c =
    let n = c.split_at_mut-here.ensures.front_len in
    front_is c.args.n c.fill.new.self _ (c.fill.ensures.len ∙ n) ∙ (c.fill.ensures.after (λ y h. h) ∙ ap (λ k. replicate k (pos 0)) n)
