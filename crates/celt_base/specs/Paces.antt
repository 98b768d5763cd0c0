-- The pace of a range coder: its width and its count of bits, which an encoder and its decoder share (RFC 6716,
-- section 4.1.6). The bits that were used are told in whole bits or in eighths.
use Rattle.std.specs.Prelude.{ℕ, ◌+◌, ◌-◌, ◌*◌, ◌/◌, ◌^◌, ℤ, nat_lt, if◌then◌else◌}
use Rattle.std.specs.List.{fold}
use Rattle.celt_base.specs.declared.question.Question.{Question}
use Rattle.celt_base.specs.Intervals.{Part, Symbol, InPart, InBits, Interval, depth}
use Rattle.celt_base.specs.Questions.{steps, bit_length}

pub record Pace : Type 0 where
  pub width : ℕ
  pub bits : ℕ

-- The standard's rng and nbits_total.
abbrev pub pace_of : Interval → Pace
pace_of i = record { width = i.width; bits = 33 + i.shift + i.raw }

unfoldable pub narrowed_pace : Part → Pace → Pace
narrowed_pace part pace = record pace { width = depth pace.width part.total part.from - depth pace.width part.total part.to }

unfoldable pub grown_pace : Pace → Pace
grown_pace pace = if nat_lt (2 ^ 23) pace.width then pace else record { width = pace.width * 256; bits = pace.bits + 8 }

unfoldable pub after_pace : Pace → Symbol → Pace
after_pace pace (InPart part) = grown_pace (grown_pace (grown_pace (narrowed_pace part pace)))
after_pace pace (InBits count number) = record pace { bits = pace.bits + count }

-- The pace after an answer of a question.
unfoldable pub paced : Question → ℤ → Pace → Pace
paced question answer pace = fold after_pace pace (steps question answer)

-- The whole bits used so far, rounded up (RFC 6716, section 4.1.6.1).
unfoldable pub tell_of : Pace → ℕ
tell_of pace = pace.bits - bit_length pace.width

-- Squaring the leading 16 bits of the width gives a further binary digit of its logarithm (RFC 6716, section 4.1.6.2).
abbrev pub square_of : ℕ → ℕ
square_of leading = leading * leading / 2 ^ 15

abbrev pub digit_of : ℕ → ℕ
digit_of leading = square_of leading / 2 ^ 16

abbrev pub leading_after : ℕ → ℕ
leading_after leading = square_of leading / 2 ^ digit_of leading

abbrev pub eighths_from : ℕ → ℕ → ℕ
eighths_from length leading =
    let second = leading_after leading in
    8 * length + 4 * digit_of leading + 2 * digit_of second + digit_of (leading_after second)

-- The eighths of a bit used so far, rounded up.
unfoldable pub tell_frac_of : Pace → ℕ
tell_frac_of pace =
    let length = bit_length pace.width in 8 * pace.bits - eighths_from length (pace.width / 2 ^ (length - 16))
