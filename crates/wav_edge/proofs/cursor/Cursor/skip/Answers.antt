use Rattle.std.proofs.Common.{◌≡◌, ◌+◌, ◌-◌, ◌++◌, length, take, refl, sym, ◌∙◌, arith}
use Rattle.wav_edge.specs.Cursors.{resumed}
use Rattle.wav_edge.specs.Reading.{read}
use Rattle.wav_edge.proofs.ReadLemmas.{read_skip, no_length}
use Rattle.wav_edge.proofs.cursor.Cursor.skip.Goals as goal

pub returns-clause-resumes : goal.returns-clause-resumes
unfolding resumed
returns-clause-resumes c = λ bytes more e.
    let s = c.args.self in
    let none : s.len ≡ 0 = no_length s.left s.len c.requires.some s.apart in
    let skipped : read (bytes ++ more) s.left s.seen s.at ≡ read more (s.left - length bytes) s.seen (s.at + length bytes) = read_skip bytes more s.left s.seen s.at (omega arith) in
    let start : read (take s.len s.held ++ (bytes ++ more)) s.left s.seen s.at ≡ read (bytes ++ more) s.left s.seen s.at = rw none refl in
    let counted : read more (s.left - length bytes) s.seen (s.at + length bytes) ≡ read more (s.left - c.args.count) s.seen (s.at + c.args.count) = rw e refl in
    start ∙ skipped ∙ counted ∙ sym (c.between.ensures.resumes more)
