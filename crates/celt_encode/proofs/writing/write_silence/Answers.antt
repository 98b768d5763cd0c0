use Rattle.std.proofs.Common.{◌∙◌, ap, length, arith}
use Rattle.celt_encode.specs.Codes.{code_of}
use Rattle.celt_encode.specs.Frames.{silence_list}
use Rattle.frame_symbols.specs.HeldSymbols.{answers_in}
use Rattle.celt_encode.proofs.CodeSteps.{code_is}
use Rattle.celt_encode.proofs.WritingSteps.{silent_list, silent_room}
use Rattle.celt_encode.proofs.writing.write_silence.Goals as goal

pub returns-clause-kept : goal.returns-clause-kept
returns-clause-kept c = silent_list _ _ _ _ _ _ c.write_frame.ensures.walked

pub returns-clause-bytes : goal.returns-clause-bytes
returns-clause-bytes c =
    let kept = silent_list _ _ _ _ _ _ c.write_frame.ensures.walked in
    let size = c.write_frame.ensures.len in
    let least = c.requires.least in
    let w = silent_room c.write_frame.new.room (answers_in c.write_frame.new.out) c.write_frame.result kept (omega (arith, size, least)) c.write_frame.ensures.finished in
    code_is (answers_in c.write_frame.new.out) (length c.write_frame.new.room) c.write_frame.new.room w.code
    ∙ ap (λ l. code_of l (length c.write_frame.new.room)) kept
    ∙ ap (code_of silence_list) size

pub returns-clause-read : goal.returns-clause-read
returns-clause-read c =
    let kept = silent_list _ _ _ _ _ _ c.write_frame.ensures.walked in
    let size = c.write_frame.ensures.len in
    let least = c.requires.least in
    let w = silent_room c.write_frame.new.room (answers_in c.write_frame.new.out) c.write_frame.result kept (omega (arith, size, least)) c.write_frame.ensures.finished in
    c.write_frame.ensures.read w.range w.whole_is
