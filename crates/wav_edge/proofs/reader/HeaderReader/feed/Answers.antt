use Rattle.std.proofs.Common.{◌<◌, arith, ℕ, ◌-◌, [], length, sym, ap, ◌∙◌}
use Rattle.wav_edge.specs.declared.reader.Header.TheVariants.{Data}
use Rattle.wav_edge.specs.Cursors.{resumed}
use Rattle.wav_edge.specs.Reading.Outcome.{Faulty, Started}
use Rattle.wav_edge.specs.Readers.{answered}
use Rattle.wav_edge.proofs.ReaderLemmas.{waits, comes_to, said_by, step_readable, step_begins, readable_bounds}
use Rattle.wav_edge.proofs.reader.HeaderReader.feed.Goals as goal

pub returns-in-Reading-clause-said : goal.returns-in-Reading-clause-said
returns-in-Reading-clause-said c =
    let reader = c.args.self.now in
    let after = c.in-Reading.field-0 in
    sym (ap (answered reader.fed) (said_by reader c.args.piece.now (resumed after []) (c.in-Reading.ensures.resumes [])) ∙ waits after reader.fed)

pub returns-in-Started-clause-said : goal.returns-in-Started-clause-said
returns-in-Started-clause-said c =
    let reader = c.args.self.now in
    let s = c.in-Started in
    sym (ap (answered reader.fed) (said_by reader c.args.piece.now (Started s.channels s.rate s.size s.place) (c.in-Started.ensures.resumes [])))

pub returns-in-Stopped-clause-said : goal.returns-in-Stopped-clause-said
returns-in-Stopped-clause-said c =
    let reader = c.args.self.now in
    sym (ap (answered reader.fed) (said_by reader c.args.piece.now (Faulty c.in-Stopped.fault) (c.in-Stopped.ensures.resumes [])))

pub returns-in-Started-clause-playable : goal.returns-in-Started-clause-playable
returns-in-Started-clause-playable c =
    let s = c.in-Started in
    readable_bounds s.channels s.rate (step_readable c.args.self.now.state (length c.args.piece.now) s.channels s.rate s.size s.place c.requires.unread c.in-Started.ensures.step)

pub returns-in-Reading-clause-answer : goal.returns-in-Reading-clause-answer
returns-in-Reading-clause-answer c = λ bytes stands.
    let after = c.in-Reading.field-0 in
    sym (ap (answered (length bytes)) (comes_to c.args.self.now bytes c.args.piece.now (resumed after []) stands (c.in-Reading.ensures.resumes [])) ∙ waits after (length bytes))

pub returns-in-Started-clause-answer : goal.returns-in-Started-clause-answer
returns-in-Started-clause-answer c = λ bytes stands.
    let s = c.in-Started in
    ap (λ (before : ℕ). Data s.channels s.rate s.size (s.place - before)) stands.count
    ∙ sym (ap (answered (length bytes)) (comes_to c.args.self.now bytes c.args.piece.now (Started s.channels s.rate s.size s.place) stands (c.in-Started.ensures.resumes [])))

pub returns-in-Stopped-clause-answer : goal.returns-in-Stopped-clause-answer
returns-in-Stopped-clause-answer c = λ bytes stands.
    sym (ap (answered (length bytes)) (comes_to c.args.self.now bytes c.args.piece.now (Faulty c.in-Stopped.fault) stands (c.in-Stopped.ensures.resumes [])))

pub returns-in-Started-clause-gives : goal.returns-in-Started-clause-gives
returns-in-Started-clause-gives c = λ bytes stands.
    let reader = c.args.self.now in
    let s = c.in-Started in
    let begins : reader.fed < s.place = step_begins reader.state reader.fed (length c.args.piece.now) s.channels s.rate s.size s.place c.requires.unread reader.placed c.in-Started.ensures.step in
    comes_to reader bytes c.args.piece.now (Started s.channels s.rate s.size s.place) stands (c.in-Started.ensures.resumes [])
    ∙ ap (Started s.channels s.rate s.size) (omega (arith, stands.count))

pub returns-in-Stopped-clause-gives : goal.returns-in-Stopped-clause-gives
returns-in-Stopped-clause-gives c = λ bytes stands.
    comes_to c.args.self.now bytes c.args.piece.now (Faulty c.in-Stopped.fault) stands (c.in-Stopped.ensures.resumes [])
