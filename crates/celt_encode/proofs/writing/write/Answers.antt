use Rattle.std.proofs.Common.{◌∙◌, ap, sym, refl}
use Rattle.celt_encode.specs.Codes.{code_of}
use Rattle.celt_encode.specs.Frames.{silence_list}
use Rattle.celt_encode.specs.Outsets.{outset_of}
use Rattle.frame_symbols.specs.HeldSymbols.{answers_in}
use Rattle.celt_encode.proofs.WritingSteps.{choice_list, whole_room, overrun_room}
use Rattle.celt_encode.proofs.writing.write.Goals as goal

pub returns-in-Whole-clause-fell : goal.returns-in-Whole-clause-fell
returns-in-Whole-clause-fell c =
    let f = outset_of c.args.frame.now in
    let same = choice_list f _ _ _ _ _ _ refl (sym c.requires.len) c.new-choice.ensures c.write_frame.ensures.walked in
    (whole_room f c.write_frame.new.room (answers_in c.write_frame.new.out) c.in-Whole.range same (c.write_frame.ensures.len ∙ sym c.requires.len) c.in-Whole.ensures.finished).fell

pub returns-in-Whole-clause-bytes : goal.returns-in-Whole-clause-bytes
returns-in-Whole-clause-bytes c =
    let f = outset_of c.args.frame.now in
    let same = choice_list f _ _ _ _ _ _ refl (sym c.requires.len) c.new-choice.ensures c.write_frame.ensures.walked in
    (whole_room f c.write_frame.new.room (answers_in c.write_frame.new.out) c.in-Whole.range same (c.write_frame.ensures.len ∙ sym c.requires.len) c.in-Whole.ensures.finished).bytes

pub returns-in-Whole-clause-kept : goal.returns-in-Whole-clause-kept
returns-in-Whole-clause-kept c =
    let f = outset_of c.args.frame.now in
    let same = choice_list f _ _ _ _ _ _ refl (sym c.requires.len) c.new-choice.ensures c.write_frame.ensures.walked in
    (whole_room f c.write_frame.new.room (answers_in c.write_frame.new.out) c.in-Whole.range same (c.write_frame.ensures.len ∙ sym c.requires.len) c.in-Whole.ensures.finished).kept

pub returns-in-Overrun-clause-fell : goal.returns-in-Overrun-clause-fell
returns-in-Overrun-clause-fell c =
    let f = outset_of c.args.frame.now in
    let same = choice_list f _ _ _ _ _ _ refl (sym c.requires.len) c.new-choice.ensures c.write_frame.ensures.walked in
    (overrun_room f c.write_frame.new.room (answers_in c.write_frame.new.out) c.in-Overrun.tell same (c.write_frame.ensures.len ∙ sym c.requires.len) c.in-Overrun.ensures.finished).fell

pub returns-in-Overrun-clause-bytes : goal.returns-in-Overrun-clause-bytes
returns-in-Overrun-clause-bytes c =
    let f = outset_of c.args.frame.now in
    let same = choice_list f _ _ _ _ _ _ refl (sym c.requires.len) c.new-choice.ensures c.write_frame.ensures.walked in
    let r = overrun_room f c.write_frame.new.room (answers_in c.write_frame.new.out) c.in-Overrun.tell same (c.write_frame.ensures.len ∙ sym c.requires.len) c.in-Overrun.ensures.finished in
    c.write_silence.ensures.bytes ∙ ap (code_of silence_list) (c.write_frame.ensures.len ∙ sym c.requires.len) ∙ r.bytes

pub returns-in-Overrun-clause-kept : goal.returns-in-Overrun-clause-kept
returns-in-Overrun-clause-kept c =
    let f = outset_of c.args.frame.now in
    let same = choice_list f _ _ _ _ _ _ refl (sym c.requires.len) c.new-choice.ensures c.write_frame.ensures.walked in
    c.write_silence.ensures.kept
    ∙ (overrun_room f c.write_frame.new.room (answers_in c.write_frame.new.out) c.in-Overrun.tell same (c.write_frame.ensures.len ∙ sym c.requires.len) c.in-Overrun.ensures.finished).kept
