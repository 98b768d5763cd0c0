use Rattle.std.proofs.Common.{rules, length, refl, sym, ap, subst, ◌∙◌}
use Rattle.celt_base.specs.Paces.{Pace, tell_of}
use Rattle.frame_symbols.specs.Recorders.{answered_of}
use Rattle.range_coder.specs.Writers.{IsFinished}
use Rattle.frame_symbols.proofs.WritingSteps.{written_walked, written_reading}
use Rattle.frame_symbols.proofs.writing.write_frame.Goals as goal

pub returns-clause-walked : goal.returns-clause-walked
returns-clause-walked g c =
    record { before = c.new-writer.result; now = c.walk_recorded.new.coder; begun = c.new-writer.ensures.coded; walked = c.walk_recorded.ensures.walked }

pub returns-clause-finished : goal.returns-clause-finished
returns-clause-finished g c =
    let w = written_walked c.args.kind (length c.args.room.now) c.new-writer.result c.new-writer.ensures.coded c.walk_recorded.ensures.walked in
    let named = sym (w.codes.same ∙ c.new-writer.ensures.same) in
    let is = c.finish.ensures.finished _ w.codes.coded in
    search (rules, named, is)

pub returns-clause-len : goal.returns-clause-len
returns-clause-len g c =
    let w = written_walked c.args.kind (length c.args.room.now) c.new-writer.result c.new-writer.ensures.coded c.walk_recorded.ensures.walked in
    let named = sym (w.codes.same ∙ c.new-writer.ensures.same) in
    let len = c.finish.ensures.len ∙ w.codes.length_is ∙ c.new-writer.ensures.len in
    search (rules, named, len)

pub returns-clause-are : goal.returns-clause-are
returns-clause-are g c =
    let w = written_walked c.args.kind (length c.args.room.now) c.new-writer.result c.new-writer.ensures.coded c.walk_recorded.ensures.walked in
    record {
      kind_is = refl;
      fields = w.fields;
      range_is = c.range-out.ensures.value ∙ ap (λ (p : Pace). p.width) w.pace;
      tell_is = c.tell-out.ensures.value ∙ ap tell_of w.pace;
    }

pub returns-clause-read : goal.returns-clause-read
returns-clause-read g c = λ range whole.
    let w = written_walked c.args.kind (length c.args.room.now) c.new-writer.result c.new-writer.ensures.coded c.walk_recorded.ensures.walked in
    let named = sym (w.codes.same ∙ c.new-writer.ensures.same) in
    let is = c.finish.ensures.finished _ w.codes.coded in
    let reading = written_reading c.finish.new.self.0 range w (c.finish.ensures.len ∙ w.codes.length_is ∙ c.new-writer.ensures.len)
    (subst (IsFinished c.finish.new.self.0 (answered_of c.walk_recorded.new.list.items)) whole is) in
    search (rules, named, reading)
