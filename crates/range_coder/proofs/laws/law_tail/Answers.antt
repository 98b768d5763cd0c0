use Rattle.std.proofs.Common.{◌-◌, length, slice_index, refl, arith, ◌∙◌}
use Rattle.range_coder.proofs.Tails.{tail_none, tail_more, tail_bit, zero_bit}
use Rattle.range_coder.proofs.laws.law_tail.Goals as goal

pub returns-clause-none : goal.returns-clause-none
returns-clause-none c = tail_none

pub returns-clause-more : goal.returns-clause-more
returns-clause-more c = tail_more

pub returns-clause-bit : goal.returns-clause-bit
returns-clause-bit c =
    λ frame place low bytes inside below.
    tail_bit frame place low (slice_index frame (length frame - 1 - place)) bytes below
    (record { inside = λ h. refl; past = λ h. absurd (omega arith) })

pub returns-clause-past : goal.returns-clause-past
returns-clause-past c =
    λ frame place low bytes past below.
    tail_bit frame place low 0 bytes below (record { inside = λ h. absurd (omega arith); past = λ h. refl }) ∙ zero_bit low
