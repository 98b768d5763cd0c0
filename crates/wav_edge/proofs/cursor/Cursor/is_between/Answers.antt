use Rattle.std.proofs.Common.{ap, ◌∙◌, length, arith, ◌≤◌, inl, inr}
use Rattle.wav_edge.specs.declared.parts.Seen.{Seen}
use Rattle.wav_edge.specs.Cursors.{resumed}
use Rattle.wav_edge.specs.Reading.{is_between}
use Rattle.wav_edge.specs.Reading.Outcome.{Unfinished}
use Rattle.wav_edge.proofs.ReadLemmas.{unfinished_inside, unfinished_between}
use Rattle.wav_edge.proofs.cursor.Cursor.is_between.Goals as goal

pub returns-then-self-gt0 : goal.returns-then-self-gt0
unfolding resumed
returns-then-self-gt0 c =
    let s = c.args.self in
    let within : s.len ≤ length s.held = omega arith in
    unfinished_inside s.held s.len s.left s.seen s.at within s.untold s.apart
    (elim c.then-self-gt0.either [ inl some ↦ inl some | inr some ↦ inr some.1 ])

pub returns-in-Nothing : goal.returns-in-Nothing
unfolding resumed
returns-in-Nothing c =
    let s = c.args.self in
    unfinished_between s.held s.left s.seen s.at s.len (omega arith) (omega arith) ∙ ap (λ (seen : Seen). Unfinished (is_between 0 seen)) c.in-Nothing.is

pub returns-in-Form : goal.returns-in-Form
unfolding resumed
returns-in-Form c =
    let s = c.args.self in
    unfinished_between s.held s.left s.seen s.at s.len (omega arith) (omega arith) ∙ ap (λ (seen : Seen). Unfinished (is_between 0 seen)) c.in-Form.is

pub returns-in-Format : goal.returns-in-Format
unfolding resumed
returns-in-Format c =
    let s = c.args.self in
    unfinished_between s.held s.left s.seen s.at s.len (omega arith) (omega arith) ∙ ap (λ (seen : Seen). Unfinished (is_between 0 seen)) c.in-Format.is
