-- The walks of numbers that are asked where there is room for them.
use Rattle.std.proofs.Common.{◌≡◌, ℕ, ◌+◌, ◌<◌, ◌≤◌, true, false, nat_le, arith}
use Rattle.std.proofs.lemmas.Bool.Decides.{nat_tests}
use Rattle.celt_base.specs.declared.coder.Place.{Place}
use Rattle.celt_base.specs.declared.question.Question.{Question}
use Rattle.celt_base.specs.Paces.{tell_of, tell_frac_of}
use Rattle.celt_base.specs.WalkCalls.{CoderCalls, ChooserCalls}
use Rattle.celt_base.specs.WalkScripts.{asks_number}
use Rattle.celt_base.specs.Walks.{Walked}
use Rattle.celt_base.proofs.WalkSteps.{start, look, walk_last, when_true, when_false, no_walk}
use Rattle.frame_symbols.specs.Askings.{number_within, number_within_eighths}

module _ {C H : Type 0} {coder : CoderCalls C} {chooser : ChooserCalls H} where
  pub number_unasked : {c : C} {h : H} (at : Place) (question : Question) (cost budget other : ℕ)
      → budget < tell_of (coder.pace c) + cost
      → Walked coder chooser (number_within at question cost budget other) other c h c h
  unfolding number_within
  number_unasked {c = c} at question cost budget other less =
      let t : nat_le (tell_of (coder.pace c) + cost) budget ≡ false = grind (arith, nat_tests, less) in
      walk_last (look start) (when_false _ _ _ t no_walk)

  pub number_within_asked : {value : ℕ} {c d : C} {h k : H} (at : Place) (question : Question) (cost budget other : ℕ)
      → tell_of (coder.pace c) + cost ≤ budget
      → Walked coder chooser (asks_number at question) value c h d k
      → Walked coder chooser (number_within at question cost budget other) value c h d k
  unfolding number_within
  number_within_asked {c = c} at question cost budget other enough w =
      let t : nat_le (tell_of (coder.pace c) + cost) budget ≡ true = grind (arith, nat_tests, enough) in
      walk_last (look start) (when_true _ _ _ t w)

  pub eighths_unasked : {c : C} {h : H} (at : Place) (question : Question) (cost eighths other : ℕ)
      → eighths < tell_frac_of (coder.pace c) + cost
      → Walked coder chooser (number_within_eighths at question cost eighths other) other c h c h
  unfolding number_within_eighths
  eighths_unasked {c = c} at question cost eighths other less =
      let t : nat_le (tell_frac_of (coder.pace c) + cost) eighths ≡ false = grind (arith, nat_tests, less) in
      walk_last (look start) (when_false _ _ _ t no_walk)

  pub eighths_asked : {value : ℕ} {c d : C} {h k : H} (at : Place) (question : Question) (cost eighths other : ℕ)
      → tell_frac_of (coder.pace c) + cost ≤ eighths
      → Walked coder chooser (asks_number at question) value c h d k
      → Walked coder chooser (number_within_eighths at question cost eighths other) value c h d k
  unfolding number_within_eighths
  eighths_asked {c = c} at question cost eighths other enough w =
      let t : nat_le (tell_frac_of (coder.pace c) + cost) eighths ≡ true = grind (arith, nat_tests, enough) in
      walk_last (look start) (when_true _ _ _ t w)
