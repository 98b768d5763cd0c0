use Rattle.std.proofs.Common.{sym, ◌∙◌, ap, ◌++◌, ◌+◌, ◌-◌, length, subst, arith, refl, Ok, Err}
use Rattle.ogg_pages.specs.Views.{page_in}
use Rattle.opus_stream.specs.Accepted.{left_in}
use Rattle.opus_stream.specs.Tallies.{Adds}
use Rattle.opus_stream.specs.Granules.{span}
use Rattle.opus_stream.proofs.Hearing.{play_refused, play_denied, play_passed, all_offered, tally_there}
use Rattle.opus_stream.proofs.accepting.play.Goals as goal

pub offer-requires : goal.offer-requires
offer-requires c = let e = ap length c.body.ensures in let s = c.lacing-lacing.ensures.short in omega (arith, e, s)

pub tally_of-requires-clause-body : goal.tally_of-requires-clause-body
tally_of-requires-clause-body c =
    let page = page_in c.args.page.now in
    all_offered (left_in c.args.room.now) page.body page.lacing c.body.result.now c.lacing-lacing.result.now c.offered.result.now c.open_len-before.result
    c.body.ensures c.lacing-lacing.ensures.value (c.offered.ensures.value ∙ c.offer.ensures.offered) c.open_len-before.ensures.value c.lacing-lacing.ensures.whole

pub returns-in-Err-clause-answer : goal.returns-in-Err-clause-answer
returns-in-Err-clause-answer c = λ before stands.
    let page = page_in c.args.page.now in
    let left = left_in c.args.room.now in
    play_refused c.args.progress left c.offered.result.now c.open_len-before.result page c.in-Err.fault before stands c.requires.some c.requires.audio c.requires.going c.requires.ordered
    c.lacing-lacing.ensures.whole (c.offered.ensures.value ∙ c.offer.ensures.offered ∙ ap (λ l. left ++ l) c.body.ensures) c.open_len-before.ensures.value
    (tally_there c.lacing-lacing.result.now page.lacing c.offered.result.now c.open_len-before.result c.args.progress.audio.packets (Err c.in-Err.fault) c.lacing-lacing.ensures.value c.in-Err.ensures)

pub returns-in_default-clause-answer : goal.returns-in_default-clause-answer
returns-in_default-clause-answer c = λ before stands.
    let page = page_in c.args.page.now in
    let left = left_in c.args.room.now in
    play_denied c.args.progress left c.offered.result.now c.open_len-before.result page c.in-Ok.tally before stands c.requires.some c.requires.audio c.requires.going c.requires.ordered
    c.lacing-lacing.ensures.whole (c.offered.ensures.value ∙ c.offer.ensures.offered ∙ ap (λ l. left ++ l) c.body.ensures) c.open_len-before.ensures.value
    (tally_there c.lacing-lacing.result.now page.lacing c.offered.result.now c.open_len-before.result c.args.progress.audio.packets (Ok c.in-Ok.tally) c.lacing-lacing.ensures.value c.in-Ok.ensures)
    c.in_default.ensures.value

pub invariant_of-heard : goal.invariant_of-heard
invariant_of-heard c = record { base_bound = c.in-Some.ensures.bound c.in-Some.settled refl }

pub returns-clause-answer : goal.returns-clause-answer
returns-clause-answer c = λ before stands.
    let page = page_in c.args.page.now in
    let left = left_in c.args.room.now in
    let given = c.accept.ensures.given in
    let adds = tally_there c.lacing-lacing.result.now page.lacing c.offered.result.now c.open_len-before.result c.args.progress.audio.packets (Ok c.in-Ok.tally) c.lacing-lacing.ensures.value c.in-Ok.ensures in
    let there = subst (λ l. Adds page.lacing l c.open_len-before.result c.args.progress.audio.packets c.in-Ok.tally) (c.offered.ensures.value ∙ sym given) adds in
    play_passed c.args.progress c.after.result left c.accept.new.self c.open_len-before.result _ page c.in-Ok.tally c.in-Some.settled _ c.span_of.result before stands
    c.requires.some c.requires.audio c.requires.going c.requires.ordered
    c.lacing-lacing.ensures.size c.lacing-lacing.ensures.whole (given ∙ c.offer.ensures.offered ∙ ap (λ l. left ++ l) c.body.ensures) c.accept.ensures.left c.open_len-before.ensures.value
    there c.in-Some.ensures.value refl (ap (λ n. c.args.progress.audio.samples + n) c.from.ensures) refl c.after.ensures
    (c.span_of.ensures ∙ ap (λ n. span (n - c.args.progress.audio.samples) c.in-Some.settled.given) c.preskip_of.ensures)
