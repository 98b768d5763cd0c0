use Rattle.std.proofs.Common.{◌≡◌, ◌≢◌, ◌∙◌, sym, subst, arith, length, drop}
use Rattle.std.proofs.lemmas.Bool.{eqb-true, eq-eqb, false≢true}
use Rattle.band_shapes.specs.Tree.{read_part}
use Rattle.band_shapes.specs.Parts.{CanMake}
use Rattle.band_shapes.specs.Channels.{changed_wish}
use Rattle.band_shapes.proofs.ChannelLemmas.{inner_can, source_none, source_size, channel_as, channel_without, none_can, source_whole, change_as}
use Rattle.band_shapes.proofs.channels.channel.Goals as goal

pub channel_from-requires : goal.channel_from-requires
channel_from-requires c =
    let z : length c.args.source.now ≡ 0 = eqb-true (length c.args.source.now) 0 (sym c.is_empty.ensures ∙ c.if-is_empty.true) in
    let e = source_none c.args.wish.blocks c.args.tools.now.layout.change c.args.source.now z in
    let can = inner_can (length c.args.x.now) c.args.tools.now.layout.change c.args.wish c.args.source.now c.requires.change c.requires.fits (source_size (length c.args.x.now) c.args.wish.blocks c.args.tools.now.layout.change c.args.source.now c.requires.change c.requires.items) in
    record {
      change = c.requires.change;
      fits = subst (λ q. CanMake (length c.args.x.now) q (changed_wish c.args.wish.blocks c.args.tools.now.layout.change c.args.wish)) e can;
      spread = c.requires.spread;
      level = c.requires.level;
      fill = c.requires.fill;
      at = c.requires.at;
      tree = c.requires.tree;
    }

pub returns-then-is_empty : goal.returns-then-is_empty
returns-then-is_empty c =
    let z : length c.args.source.now ≡ 0 = eqb-true (length c.args.source.now) 0 (sym c.is_empty.ensures ∙ c.if-is_empty.true) in
    let e = source_none c.args.wish.blocks c.args.tools.now.layout.change c.args.source.now z in
    record {
      made = channel_as c.args.tools.now.layout.spread (length c.args.x.now) _ _ c.args.place.seed (read_part c.args.tools.now.layout.level (drop c.args.place.at c.args.tools.now.nodes.now)).part c.args.source.now c.args.source.now c.args.wish c.args.tools.now.layout.change c.channel_from.new.x (sym e) c.channel_from.ensures.made;
      rest = c.channel_from.ensures.rest;
      at = c.channel_from.ensures.at;
    }

pub source_in-requires : goal.source_in-requires
source_in-requires c =
    let z : length c.args.source.now ≢ 0 = λ q. false≢true (sym c.if-is_empty.false ∙ (c.is_empty.ensures ∙ eq-eqb (length c.args.source.now) 0 q)) in
    let e = source_whole (length c.args.source.now) (length c.args.x.now) c.requires.fits.source z in
    record {
      count = omega (arith, e, c.requires.fits.count);
      room = omega (arith, e, c.requires.fits.count, c.split_at_mut-turned.ensures.front_len, c.split_at_mut-turned.ensures.back_len);
      out = omega (arith, e, c.requires.fits.count, c.split_at_mut-changed.ensures.front_len, c.split_at_mut-changed.ensures.back_len);
      change = change_as (length c.args.x.now) (length c.args.source.now) c.args.wish.blocks c.args.tools.now.layout.change e c.requires.change;
      items = c.requires.items;
    }

pub channel_from-requires-then-seen : goal.channel_from-requires-then-seen
channel_from-requires-then-seen c =
    let can = inner_can (length c.args.x.now) c.args.tools.now.layout.change c.args.wish c.args.source.now c.requires.change c.requires.fits (source_size (length c.args.x.now) c.args.wish.blocks c.args.tools.now.layout.change c.args.source.now c.requires.change c.requires.items) in
    record {
      change = c.requires.change;
      fits = subst (λ q. CanMake (length c.args.x.now) q (changed_wish c.args.wish.blocks c.args.tools.now.layout.change c.args.wish)) (sym c.source_in.ensures) can;
      spread = c.requires.spread;
      level = c.requires.level;
      fill = c.requires.fill;
      at = c.requires.at;
      tree = c.requires.tree;
    }

pub returns-then-seen : goal.returns-then-seen
returns-then-seen c = record {
  made = channel_as c.args.tools.now.layout.spread (length c.args.x.now) _ _ c.args.place.seed (read_part c.args.tools.now.layout.level (drop c.args.place.at c.args.tools.now.nodes.now)).part c.args.source.now c.source_in.new.out c.args.wish c.args.tools.now.layout.change c.channel_from-then-seen.new.x c.source_in.ensures c.channel_from-then-seen.ensures.made;
  rest = c.channel_from-then-seen.ensures.rest;
  at = c.channel_from-then-seen.ensures.at;
}

pub channel_from-requires-2 : goal.channel_from-requires-2
channel_from-requires-2 c = record {
  change = c.requires.change;
  fits = none_can (length c.args.x.now) c.args.tools.now.layout.change c.args.wish c.requires.change c.requires.fits;
  spread = c.requires.spread;
  level = c.requires.level;
  fill = c.requires.fill;
  at = c.requires.at;
  tree = c.requires.tree;
}

pub returns : goal.returns
returns c = record {
  made = channel_without c.args.tools.now.layout.spread (length c.args.x.now) _ _ c.args.place.seed (read_part c.args.tools.now.layout.level (drop c.args.place.at c.args.tools.now.nodes.now)).part c.args.source.now c.args.wish c.args.tools.now.layout.change c.channel_from-2.new.x (sym c.silent_in-seen.ensures.silent ∙ c.if-seen.false) c.channel_from-2.ensures.made;
  rest = c.channel_from-2.ensures.rest;
  at = c.channel_from-2.ensures.at;
}
