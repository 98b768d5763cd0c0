use Rattle.std.proofs.Common.{◌≡◌, ◌-◌, sym, ap, ◌∙◌, arith}
use Rattle.celt_base.specs.Questions.{low_bits}
use Rattle.range_coder.proofs.Taking.{top_by}
use Rattle.range_coder.proofs.answers.low_bits.Goals as goal

pub returns-clause-value : goal.returns-clause-value
returns-clause-value c = sym (c.saturating_sub.ensures ∙ ap (λ n. n - 8) c.bit_length.ensures)

pub returns-clause-top : goal.returns-clause-top
returns-clause-top c =
    let low : low_bits c.args.limit ≡ c.saturating_sub.result = sym (c.saturating_sub.ensures ∙ ap (λ n. n - 8) c.bit_length.ensures) in
    top_by c.args.limit c.saturating_sub.result low (omega arith)
