use Rattle.std.proofs.Common.{◌≡◌, ◌∙◌, sym, subst, arith, length, drop}
use Rattle.std.specs.Int.{w64}
use Rattle.std.proofs.lemmas.Int.{to_z-of_z}
use Rattle.band_shapes.specs.Tree.{read_part, IsPart}
use Rattle.band_shapes.specs.Parts.{IsMade, CanMake, part_shape}
use Rattle.band_shapes.specs.Channels.{changed_wish}
use Rattle.band_shapes.proofs.LeafLemmas.{gain_fits}
use Rattle.band_shapes.proofs.ChangeLemmas.{blocks_some}
use Rattle.band_shapes.proofs.ChannelLemmas.{inner_is, fill_levels, whole_runs, stride_row, back_made, back_none}
use Rattle.band_shapes.proofs.channels.parts_back.Goals as goal

pub fill_in-requires : goal.fill_in-requires
fill_in-requires c = record { change = c.requires.change; fill = c.requires.fill }

pub part-made-requires : goal.part-made-requires
part-made-requires c =
    let g = to_z-of_z w64 c.args.wish.gain (gain_fits c.args.wish.gain c.requires.fits.gain_low c.requires.fits.gain_high) in
    let e = inner_is c.args.wish.blocks c.fill_in.result _ c.args.tools.now.layout.change c.args.wish c.fill_in.ensures.value g in
    let h : length c.split_at_mut-turned.result.0.now ≡ length c.args.x.now = omega (arith, c.requires.fits.count, c.split_at_mut-turned.ensures.front_len, c.split_at_mut-turned.ensures.back_len) in
    record {
      room = omega (arith, h, c.requires.fits.count, c.split_at_mut-pulses.ensures.front_len, c.split_at_mut-pulses.ensures.back_len);
      fits = subst (CanMake (length c.split_at_mut-turned.result.0.now) c.args.source.now) (sym e) (subst (λ n. CanMake n c.args.source.now (changed_wish c.args.wish.blocks c.args.tools.now.layout.change c.args.wish)) (sym h) c.requires.fits);
      spread = c.requires.spread;
      level = c.requires.level;
      fill = fill_levels c.fill_in.result c.args.tools.now.layout.level c.requires.level c.fill_in.ensures.size;
      at = c.requires.at;
      tree = subst (λ n. IsPart n (read_part c.args.tools.now.layout.level (drop c.args.place.at c.args.tools.now.nodes.now)).part) (sym h) c.requires.tree;
    }

pub unorder-requires : goal.unorder-requires
unorder-requires c =
    let e = whole_runs (length c.args.x.now) c.args.tools.now.layout.change.stride c.requires.change.whole in
    let h : length c.split_at_mut-turned.result.0.now ≡ length c.args.x.now = omega (arith, c.requires.fits.count, c.split_at_mut-turned.ensures.front_len, c.split_at_mut-turned.ensures.back_len) in
    let s = c.part-made.auto.x ∙ h in
    record {
      count = omega (arith, s, c.requires.fits.count);
      stride = blocks_some c.args.tools.now.layout.change.stride c.requires.change.strides;
      items = s ∙ e;
      room = e;
      row = λ t. stride_row (length c.args.x.now) c.args.wish.blocks c.args.tools.now.layout.change c.requires.change c.if-change-gt1.true;
    }

pub returns-then-change-gt1 : goal.returns-then-change-gt1
returns-then-change-gt1 c =
    let g = to_z-of_z w64 c.args.wish.gain (gain_fits c.args.wish.gain c.requires.fits.gain_low c.requires.fits.gain_high) in
    let e = inner_is c.args.wish.blocks c.fill_in.result _ c.args.tools.now.layout.change c.args.wish c.fill_in.ensures.value g in
    let h : length c.split_at_mut-turned.result.0.now ≡ length c.args.x.now = omega (arith, c.requires.fits.count, c.split_at_mut-turned.ensures.front_len, c.split_at_mut-turned.ensures.back_len) in
    let p = subst (λ z. IsMade c.args.tools.now.layout.change.blocks (part_shape c.args.tools.now.layout.spread (length c.split_at_mut-turned.result.0.now) (read_part c.args.tools.now.layout.level (drop c.args.place.at c.args.tools.now.nodes.now)).part c.args.source.now z c.args.place.seed) c.part-made.new.x c.part-made.result.mask c.part-made.result.seed) e c.part-made.ensures.made in
    let q = subst (λ n. IsMade c.args.tools.now.layout.change.blocks (part_shape c.args.tools.now.layout.spread n (read_part c.args.tools.now.layout.level (drop c.args.place.at c.args.tools.now.nodes.now)).part c.args.source.now (changed_wish c.args.wish.blocks c.args.tools.now.layout.change c.args.wish) c.args.place.seed) c.part-made.new.x c.part-made.result.mask c.part-made.result.seed) h p in
    record {
      made = back_made c.args.wish.blocks (length c.args.x.now) c.args.tools.now.layout.change.blocks c.part-made.result.mask c.part-made.result.seed c.args.tools.now.layout.change _ c.part-made.new.x c.unorder.new.out c.if-change-gt1.true q (c.part-made.auto.x ∙ h) c.unorder.ensures.value;
      rest = c.part-made.ensures.rest;
      at = c.part-made.ensures.at;
    }

pub part-requires : goal.part-requires
part-requires c =
    let g = to_z-of_z w64 c.args.wish.gain (gain_fits c.args.wish.gain c.requires.fits.gain_low c.requires.fits.gain_high) in
    let e = inner_is c.args.wish.blocks c.fill_in.result _ c.args.tools.now.layout.change c.args.wish c.fill_in.ensures.value g in
    record {
      room = omega (arith, c.requires.fits.count, c.split_at_mut-pulses.ensures.front_len, c.split_at_mut-pulses.ensures.back_len);
      fits = subst (CanMake (length c.args.x.now) c.args.source.now) (sym e) c.requires.fits;
      spread = c.requires.spread;
      level = c.requires.level;
      fill = fill_levels c.fill_in.result c.args.tools.now.layout.level c.requires.level c.fill_in.ensures.size;
      at = c.requires.at;
      tree = c.requires.tree;
    }

pub returns : goal.returns
returns c =
    let g = to_z-of_z w64 c.args.wish.gain (gain_fits c.args.wish.gain c.requires.fits.gain_low c.requires.fits.gain_high) in
    let e = inner_is c.args.wish.blocks c.fill_in.result _ c.args.tools.now.layout.change c.args.wish c.fill_in.ensures.value g in
    let q = subst (λ z. IsMade c.args.tools.now.layout.change.blocks (part_shape c.args.tools.now.layout.spread (length c.args.x.now) (read_part c.args.tools.now.layout.level (drop c.args.place.at c.args.tools.now.nodes.now)).part c.args.source.now z c.args.place.seed) c.part.new.x c.part.result.mask c.part.result.seed) e c.part.ensures.made in
    record {
      made = back_none c.args.wish.blocks c.args.tools.now.layout.change.blocks c.part.result.mask c.part.result.seed c.args.tools.now.layout.change _ c.part.new.x c.if-change-gt1.false q;
      rest = c.part.ensures.rest;
      at = c.part.ensures.at;
    }
