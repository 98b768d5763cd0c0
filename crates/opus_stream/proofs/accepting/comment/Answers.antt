use Rattle.std.proofs.Common.{sym, ◌∙◌, ap, length}
use Rattle.std.specs.Prelude.{if◌then◌else◌}
use Rattle.ogg_pages.specs.Views.{page_in}
use Rattle.opus_stream.specs.Accepted.{left_in}
use Rattle.opus_stream.proofs.Headers.{comment_refused, comment_passed, front_parts}
use Rattle.opus_stream.proofs.accepting.comment.Goals as goal

pub returns-then-not-goes_on-clause-answer : goal.returns-then-not-goes_on-clause-answer
returns-then-not-goes_on-clause-answer c = λ before stands.
    let left = left_in c.args.room.now in
    let page = page_in c.args.page.now in
    let front = front_parts left page.body c.body.result.now c.front_of.result.now c.open_len.result c.body.ensures c.open_len.ensures.value c.front_of.ensures.value in
    comment_refused c.args.progress left c.offered-2.result.now c.ends_packet-is_whole.result page before stands c.requires.some c.requires.comment c.requires.going c.requires.ordered
    (c.offered-2.ensures.value ∙ c.offer.ensures.offered ∙ front) c.ends_packet-is_whole.ensures (sym c.goes_on.ensures ∙ c.if-not-goes_on.true)

pub returns-clause-answer : goal.returns-clause-answer
returns-clause-answer c = λ before stands.
    let left = left_in c.args.room.now in
    let page = page_in c.args.page.now in
    let whole = c.ends_packet-is_whole.result in
    let front = c.offer.ensures.offered ∙ front_parts left page.body c.body.result.now c.front_of.result.now c.open_len.result c.body.ensures c.open_len.ensures.value c.front_of.ensures.value in
    let at = c.accept.ensures.left ∙ c.left_of-left.ensures ∙ ap (λ l. if whole then length l else 0) (c.offered.ensures.value ∙ sym c.accept.ensures.given) in
    comment_passed c.args.progress c.after.result left c.accept.new.self whole _ page before stands c.requires.some c.requires.comment c.requires.going c.requires.ordered
    c.lacing.ensures.size (c.accept.ensures.given ∙ front) at c.ends_packet-is_whole.ensures
    (ap (Rattle.opus_stream.proofs.Headers.goes_on page whole) (c.accept.ensures.given ∙ sym c.offered-2.ensures.value) ∙ sym c.goes_on.ensures ∙ c.if-not-goes_on.false) c.after.ensures
