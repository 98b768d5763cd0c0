use Rattle.std.proofs.Common.{◌∙◌, ap, refl, sym}
use Rattle.celt_base.specs.Paces.{Pace, tell_of}
use Rattle.celt_base.specs.Questions.{interval_of}
use Rattle.frame_symbols.specs.Recorders.{answered_of}
use Rattle.frame_symbols.proofs.ReadingSteps.{read_walked, computed_list, computed_holds}
use Rattle.frame_symbols.proofs.reading.read_frame.Goals as goal

pub returns : goal.returns
returns c =
    let kind = c.args.kind in
    let frame = c.args.bytes.now in
    let w = read_walked kind frame c.new-reader.result c.new-reader.ensures.stands c.walk_recorded.ensures.walked in
    let list = answered_of c.walk_recorded.new.list.items in
    let computed = computed_list kind frame list w.reading in
    let range = c.range-out.ensures.value ∙ ap (λ (p : Pace). p.width) w.pace in
    record {
      reading = w.reading;
      are = record {
        kind_is = refl;
        fields = w.fields;
        range_is = range;
        tell_is = c.tell-out.ensures.value ∙ ap tell_of w.pace;
      };
      list_is = sym computed;
      holds = computed_holds kind frame list c.walk_recorded.new.fields w.reading w.fields;
      range_is = range ∙ ap (λ l. (interval_of l).width) (sym computed);
    }
