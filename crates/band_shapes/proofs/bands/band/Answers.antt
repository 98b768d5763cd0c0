use Rattle.std.proofs.Common.{◌≤◌, ◌^◌, ◌∙◌, ap, sym, subst, arith}
use Rattle.std.specs.Prelude.{All, unsigned_abs}
use Rattle.band_shapes.specs.Frames.{source_at}
use Rattle.band_shapes.proofs.BandLemmas.{band_take, band_is, copy_small, right_small, pair_as}
use Rattle.band_shapes.proofs.bands.band.Goals as goal

pub source_of-requires : goal.source_of-requires
source_of-requires c = λ h. let b = c.requires.can.source h in omega (arith, c.split_at.ensures.front_len, b)

pub source_of-requires-2 : goal.source_of-requires-2
source_of-requires-2 c = λ h. let b = c.requires.can.source h in omega (arith, c.split_at-2.ensures.front_len, b)

pub pair-made-requires-clause-first : goal.pair-made-requires-clause-first
pair-made-requires-clause-first c =
    band_take c.args.tools.now.layout c.args.span c.args.fills c.args.lines.now c.split_at.result.0.now c.source_of.result.now c.args.fills.left c.requires.can c.split_at.ensures.front_len
    (subst (All (λ v. unsigned_abs v ≤ 2 ^ 19)) (sym c.split_at.ensures.front) c.requires.can.left_norm) c.requires.can.left_fill c.source_of.ensures

pub pair-made-requires-clause-second : goal.pair-made-requires-clause-second
pair-made-requires-clause-second c =
    band_take c.args.tools.now.layout c.args.span c.args.fills c.args.lines.now c.split_at-2.result.0.now c.source_of-2.result.now c.args.fills.right c.requires.can c.split_at-2.ensures.front_len
    (subst (All (λ v. unsigned_abs v ≤ 2 ^ 19)) (sym c.split_at-2.ensures.front) c.requires.can.right_norm) c.requires.can.right_fill c.source_of-2.ensures

pub put-requires-clause-within : goal.put-requires-clause-within
put-requires-clause-within c = let b = c.requires.can.within in omega (arith, b)

pub put-requires-clause-items : goal.put-requires-clause-items
put-requires-clause-items c = let b = c.requires.can.count in let d = c.requires.can.count_is in omega (arith, b, d)

pub put-requires-2-clause-within : goal.put-requires-2-clause-within
put-requires-2-clause-within c = let b = c.requires.can.within in omega (arith, b)

pub put-requires-2-clause-items : goal.put-requires-2-clause-items
put-requires-2-clause-items c = let b = c.requires.can.count in let d = c.requires.can.count_is in omega (arith, b, d)

pub put_copy-requires-clause-within : goal.put_copy-requires-clause-within
put_copy-requires-clause-within c = let b = c.requires.can.within in omega (arith, b)

pub put_copy-requires-clause-count : goal.put_copy-requires-clause-count
put_copy-requires-clause-count c = let b = c.requires.can.count in let d = c.requires.can.count_is in omega (arith, b, d)

pub put_copy-requires-clause-items : goal.put_copy-requires-clause-items
put_copy-requires-clause-items c = let b = c.requires.can.count in let d = c.requires.can.count_is in omega (arith, b, d)

pub put_copy-requires-clause-size : goal.put_copy-requires-clause-size
put_copy-requires-clause-size c = copy_small c.args.tools.now.layout _ c.args.span _ _ _ _ c.requires.can.count_is c.pair-made.ensures.made

pub put_right_copy-requires-clause-within : goal.put_right_copy-requires-clause-within
put_right_copy-requires-clause-within c = let b = c.requires.can.within in omega (arith, b)

pub put_right_copy-requires-clause-count : goal.put_right_copy-requires-clause-count
put_right_copy-requires-clause-count c = let b = c.requires.can.count in let d = c.requires.can.count_is in omega (arith, b, d)

pub put_right_copy-requires-clause-items : goal.put_right_copy-requires-clause-items
put_right_copy-requires-clause-items c = let b = c.requires.can.count in let d = c.requires.can.count_is in omega (arith, b, d)

pub put_right_copy-requires-clause-size : goal.put_right_copy-requires-clause-size
put_right_copy-requires-clause-size c = right_small c.args.tools.now.layout _ c.args.span _ _ _ _ c.requires.can.count_is c.requires.can.own c.pair-made.ensures.made

pub returns-clause-made : goal.returns-clause-made
returns-clause-made c =
    let h = pair_as c.args.tools.now.layout c.args.tools.now.invert _ _ _ _ c.args.fills _ c.args.place.seed _ _ _ _ (c.source_of.ensures ∙ ap (source_at c.args.span) c.split_at.ensures.front) (c.source_of-2.ensures ∙ ap (source_at c.args.span) c.split_at-2.ensures.front) c.pair-made.ensures.made in
    band_is c.args.tools.now.layout _ c.args.span _ _ _ _ _ _ c.requires.can.count_is c.requires.can.own h c.put.ensures c.put-2.ensures c.put_copy.ensures.value c.put_right_copy.ensures.value c.put_copy.ensures.size c.put_right_copy.ensures.size
