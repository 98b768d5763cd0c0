-- The chooser of a frame, as a chooser: what stands in it after each call.
use Rattle.std.specs.Prelude.{◌≡◌, ℤ, pos}
use Rattle.celt_base.specs.declared.coder.Place.{Place}
use Rattle.celt_base.specs.WalkCalls.{ChooserCalls}
use Rattle.celt_encode.specs.declared.choice.Choice.{Choice}
use Rattle.celt_encode.specs.declared.choice.Hush.{Hush}
use Rattle.celt_encode.specs.Outsets.{outset_of}
use Rattle.celt_encode.specs.Standing.{Standing, entered_in, told_in}
use Rattle.celt_encode.specs.Vectors.{vector_of}
use Rattle.celt_encode.specs.Wanted.{wanted}

abbrev pub standing_of : Choice → Standing
standing_of c = record { frame = outset_of c.frame.now; answers = c.answers; first = vector_of c.first.now; second = vector_of c.second.now }

pub record WantsIn (before : Choice) (at : Place) (number : ℤ) (now : Choice) : Type 0 where
  pub is_wanted : number ≡ wanted (standing_of before) at
  pub same : standing_of now ≡ standing_of before

abbrev pub choice_calls : ChooserCalls Choice
choice_calls = record {
  Enters = λ before at now. standing_of now ≡ entered_in (standing_of before) at;
  Wants = λ before at question number now. WantsIn before at number now;
  Told = λ before at answer now. standing_of now ≡ told_in (standing_of before) at answer;
}

-- One that wants 1 everywhere.
abbrev pub hush_calls : ChooserCalls Hush
hush_calls = record {
  Enters = λ before at now. now ≡ before;
  Wants = λ before at question number now. number ≡ pos 1;
  Told = λ before at answer now. now ≡ before;
}
