use Rattle.post_filter.proofs.TapLemmas.{equal}
use Rattle.post_filter.proofs.EchoLemmas.{term_off, term_one}
use Rattle.post_filter.proofs.pitch.is_steady.Goals as goal

pub returns-then-to-eq0 : goal.returns-then-to-eq0
returns-then-to-eq0 c = λ e i vs p. term_off c.args.from c.args.to i vs p (equal c.args.from.gain 0 e) c.if-to-eq0.true

pub returns : goal.returns
returns c = λ e i vs p.
    term_one c.args.from c.args.to i vs p c.if-from-to.false c.if-from-to-2.false (equal c.args.from.tapset c.args.to.tapset e) c.if-to-ne0.false
