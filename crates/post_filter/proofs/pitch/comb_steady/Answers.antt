use Rattle.std.proofs.Common.{ℕ, ◌+◌}
use Rattle.std.specs.Prelude.{pos}
use Rattle.fixed_math.specs.Rounding.{rounded}
use Rattle.post_filter.specs.Comb.{echo}
use Rattle.post_filter.proofs.EchoLemmas.{silent_taps}
use Rattle.post_filter.proofs.OutputLemmas.{outputs_as}
use Rattle.post_filter.proofs.pitch.comb_steady.Goals as goal

pub returns-then-taps-eq0-2-clause-value : goal.returns-then-taps-eq0-2-clause-value
returns-then-taps-eq0-2-clause-value c =
    let taps = c.args.taps in
    let at : ℕ = c.args.at in
    outputs_as (λ j vs. pos 0) (λ j vs. rounded (echo taps.centre taps.near taps.far taps.period vs (at + j)) 15) at c.args.n c.args.buf.now c.limit_all.new.buf
    (λ j l. silent_taps taps c.limit_all.new.buf (at + j) c.if-taps-eq0.true c.if-taps-eq0-2.true c.if-taps-ne0.false) c.limit_all.ensures.value
