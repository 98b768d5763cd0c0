use Rattle.std.proofs.Common.{◌∙◌, ◌^◌, ap, sym, arith, length}
use Rattle.tf_change.specs.Order.{ordered}
use Rattle.band_shapes.specs.Channels.{haar_up}
use Rattle.band_shapes.proofs.ChangeLemmas.{blocks_some}
use Rattle.band_shapes.proofs.ChannelLemmas.{whole_runs, change_as, all_as, stride_row, source_ordered, source_plain}
use Rattle.band_shapes.proofs.channels.source_in.Goals as goal

pub steps_in-requires : goal.steps_in-requires
steps_in-requires c = record {
  count = omega (arith, ap length c.copy_from_slice.ensures.after, c.requires.count);
  change = change_as (length c.args.source.now) _ c.args.blocks c.args.change (ap length c.copy_from_slice.ensures.after) c.requires.change;
  items = all_as (2 ^ 19) c.args.source.now c.copy_from_slice.new.self c.copy_from_slice.ensures.after c.requires.items;
}

pub order-requires : goal.order-requires
order-requires c =
    let e = whole_runs (length c.args.source.now) c.args.change.stride c.requires.change.whole in
    let s = c.steps_in.auto.x ∙ ap length c.copy_from_slice.ensures.after in
    record {
      count = omega (arith, s, c.requires.count);
      stride = blocks_some c.args.change.stride c.requires.change.strides;
      items = s ∙ e;
      room = c.requires.out ∙ e;
      row = λ t. stride_row (length c.args.source.now) c.args.blocks c.args.change c.requires.change c.if-change-gt1.true;
    }

pub returns-then-change-gt1 : goal.returns-then-change-gt1
returns-then-change-gt1 c =
    let e = c.steps_in.ensures ∙ ap (λ z. haar_up c.args.blocks c.args.change.down (haar_up 1 c.args.change.up z)) c.copy_from_slice.ensures.after in
    let s = c.steps_in.auto.x ∙ ap length c.copy_from_slice.ensures.after in
    source_ordered c.args.blocks c.args.change c.args.source.now c.order.new.out (length c.args.source.now) c.if-change-gt1.true (sym (ap length e) ∙ s) (c.order.ensures.value ∙ ap (ordered _ _ _) e)

pub steps_in-requires-2 : goal.steps_in-requires-2
steps_in-requires-2 c = record {
  count = omega (arith, ap length c.copy_from_slice-2.ensures.after, c.requires.count);
  change = change_as (length c.args.source.now) _ c.args.blocks c.args.change (ap length c.copy_from_slice-2.ensures.after) c.requires.change;
  items = all_as (2 ^ 19) c.args.source.now c.copy_from_slice-2.new.self c.copy_from_slice-2.ensures.after c.requires.items;
}

pub returns : goal.returns
returns c =
    let e = c.steps_in-2.ensures ∙ ap (λ z. haar_up c.args.blocks c.args.change.down (haar_up 1 c.args.change.up z)) c.copy_from_slice-2.ensures.after in
    source_plain c.args.blocks c.args.change c.args.source.now c.steps_in-2.new.x c.if-change-gt1.false e
