-- Numbers that are asked where the frame has room for them.
use Rattle.std.specs.Prelude.{ℕ, ◌+◌, nat_le, if◌then◌else◌}
use Rattle.celt_base.specs.declared.coder.Place.{Place}
use Rattle.celt_base.specs.declared.question.Question.{Question}
use Rattle.celt_base.specs.Paces.{tell_of, tell_frac_of}
use Rattle.celt_base.specs.WalkScripts.{Script, Done, Look, asks_number}

-- A number, where so many bits are left of the budget; else it is `other`.
unfoldable pub number_within : Place → Question → ℕ → ℕ → ℕ → Script ℕ
number_within at question cost budget other =
    Look (λ pace. if nat_le (tell_of pace + cost) budget then asks_number at question else Done other)

-- The same in eighths of a bit.
unfoldable pub number_within_eighths : Place → Question → ℕ → ℕ → ℕ → Script ℕ
number_within_eighths at question cost eighths other =
    Look (λ pace. if nat_le (tell_frac_of pace + cost) eighths then asks_number at question else Done other)
