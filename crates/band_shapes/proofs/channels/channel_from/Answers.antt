use Rattle.std.proofs.Common.{sym, subst, arith, length, drop}
use Rattle.band_shapes.proofs.ChannelLemmas.{change_as, channel_made}
use Rattle.band_shapes.proofs.channels.channel_from.Goals as goal

pub steps_back-requires : goal.steps_back-requires
steps_back-requires c = record {
  count = omega (arith, c.parts_back-made.auto.x, c.requires.fits.count);
  change = change_as (length c.args.x.now) _ c.args.wish.blocks c.args.tools.now.layout.change c.parts_back-made.auto.x c.requires.change;
  items = c.parts_back-made.ensures.made.size;
}

pub mask_back-requires : goal.mask_back-requires
mask_back-requires c = record { change = change_as (length c.args.x.now) _ c.args.wish.blocks c.args.tools.now.layout.change (omega (arith, c.parts_back-made.auto.x, c.steps_back.auto.x)) c.requires.change; mask = c.parts_back-made.ensures.made.small }

pub returns : goal.returns
returns c = record {
  made = channel_made (length c.args.x.now) c.args.wish.blocks c.parts_back-made.result.mask c.mask_back.result c.parts_back-made.result.seed c.args.tools.now.layout.change _ c.parts_back-made.new.x c.steps_back.new.x c.requires.change c.parts_back-made.ensures.made c.steps_back.ensures c.mask_back.ensures.value c.mask_back.ensures.size;
  rest = c.parts_back-made.ensures.rest;
  at = c.parts_back-made.ensures.at;
}
