-- Which questions may be asked at all (RFC 6716, section 4.1).
use Rattle.std.specs.Prelude.{ℤ, ⊤}
use Rattle.celt_base.specs.Paces.{Pace}
use Rattle.celt_base.specs.Questions.{IsValid, IsAnswer}
use Rattle.celt_base.specs.WalkScripts.{Script, Done, Look, Ask, Begin}
use Rattle.range_coder.specs.Codes.{FitsType}

-- However it is answered, at whatever pace, each question of the script is valid and fits its type.
abbrev pub AllValid : {A : Type 0} → Script A → Type 0
AllValid (Done value) = ⊤
AllValid (Look look) = (pace : Pace) → AllValid (look pace)
AllValid (Begin at script) = AllValid script
AllValid (Ask at question follow) = IsValid question × FitsType question × ((answer : ℤ) → IsAnswer question answer → AllValid (follow answer))

-- The same as a record, from which the script is found.
pub record IsAllValid {A : Type 0} (script : Script A) : Type 0 where
  pub is : AllValid script
