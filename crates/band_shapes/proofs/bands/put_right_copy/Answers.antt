use Rattle.std.proofs.Common.{◌≤◌, ◌^◌, ◌++◌, ◌∙◌, ap, subst, take}
use Rattle.std.specs.Prelude.{All, unsigned_abs, pos, replicate}
use Rattle.band_shapes.proofs.BandLemmas.{put_made, own_copy, no_copy, none_size}
use Rattle.band_shapes.proofs.bands.put_right_copy.Goals as goal

pub put_copy-requires-clause-size : goal.put_copy-requires-clause-size
put_copy-requires-clause-size c = c.requires.size c.if-own.true

pub returns-then-own-clause-value : goal.returns-then-own-clause-value
returns-then-own-clause-value c = c.put_copy.ensures.value ∙ ap (λ z. take c.args.span.start c.args.norm.now ++ z) (own_copy c.args.own c.args.span.count _ c.if-own.true)

pub returns-then-own-clause-size : goal.returns-then-own-clause-size
returns-then-own-clause-size c = subst (All (λ v. unsigned_abs v ≤ 2 ^ 19)) (own_copy c.args.own c.args.span.count _ c.if-own.true) c.put_copy.ensures.size

pub returns-clause-value : goal.returns-clause-value
returns-clause-value c =
    let n = c.split_at_mut-here.ensures.front_len in
    put_made c.args.span.start c.args.span.count c.args.norm.now c.split_at_mut-behind.result.0.now c.fill.new.self _ _ c.split_at_mut-behind.ensures.front c.split_at_mut-behind.ensures.front_len
    (c.fill.ensures.len ∙ n) ((c.fill.ensures.after (λ y h. h) ∙ ap (λ k. replicate k (pos 0)) n) ∙ no_copy c.args.own c.args.span.count _ c.if-own.false)

pub returns-clause-size : goal.returns-clause-size
returns-clause-size c = none_size c.args.own c.args.span.count _ c.if-own.false
