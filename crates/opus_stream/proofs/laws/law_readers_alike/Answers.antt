use Rattle.std.proofs.Common.{◌≡◌, length, sym, ◌∙◌, ap, Some}
use Rattle.opus_stream.specs.Acceptance.{last_bytes, last_packets, last_span, head_in}
use Rattle.opus_stream.specs.Tests.{is_ended}
use Rattle.opus_stream.proofs.Reading.{given_is}
use Rattle.opus_stream.proofs.laws.law_readers_alike.Goals as goal

pub returns-clause-answer : goal.returns-clause-answer
returns-clause-answer c = λ first second bytes given a b s t x y. x bytes given s ∙ sym (y bytes given t)

pub returns-clause-page : goal.returns-clause-page
returns-clause-page c = λ first second bytes given s t.
    s.holds.page ∙ ap (last_bytes bytes) (sym (given_is first bytes given s) ∙ given_is second bytes given t) ∙ sym t.holds.page

pub returns-clause-packets : goal.returns-clause-packets
returns-clause-packets c = λ first second bytes given s t.
    s.holds.gives.packets.0 ∙ ap (λ l. length (last_packets l)) (sym (given_is first bytes given s) ∙ given_is second bytes given t) ∙ sym t.holds.gives.packets.0

pub returns-clause-written : goal.returns-clause-written
returns-clause-written c = λ first second bytes given s t.
    s.holds.gives.span ∙ ap last_span (sym (given_is first bytes given s) ∙ given_is second bytes given t) ∙ sym t.holds.gives.span

pub returns-clause-head : goal.returns-clause-head
returns-clause-head c = λ first second bytes given s t.
    s.holds.progress.placed.head ∙ ap head_in (sym (given_is first bytes given s) ∙ given_is second bytes given t) ∙ sym t.holds.progress.placed.head

pub returns-clause-ended : goal.returns-clause-ended
returns-clause-ended c = λ first second bytes given s t.
    s.holds.progress.placed.ended ∙ ap is_ended (sym (given_is first bytes given s) ∙ given_is second bytes given t) ∙ sym t.holds.progress.placed.ended

pub returns-clause-packet : goal.returns-clause-packet
returns-clause-packet c = λ first second bytes given i a b s t x y.
    let both : Some a ≡ Some b = sym (x bytes given s) ∙ y bytes given t in cc

pub returns-clause-held : goal.returns-clause-held
returns-clause-held c = λ first second bytes given a b s t x y. x bytes given s ∙ sym (y bytes given t)

pub returns-clause-end : goal.returns-clause-end
returns-clause-end c = λ first second bytes given a b s t x y. x bytes given s ∙ sym (y bytes given t)
