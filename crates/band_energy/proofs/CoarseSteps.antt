-- One coarse energy: its walk, and the size of its value.
use Rattle.std.proofs.Common.{◌≡◌, ℕ, zero, suc, ◌+◌, ◌-◌, ◌*◌, ◌^◌, ◌<◌, ◌≤◌, FitsSigned, to_z, of_z, ap, ◌∙◌, Bool, true, false, if◌then◌else◌, nat_le, IfSome, ℤ, pos, negsuc, sym, subst, arith}
use Rattle.std.specs.Prelude.{None, Some, ⊤, unsigned_abs}
use Rattle.std.specs.Int.{w32, w64}
use Rattle.std.proofs.lemmas.Int.{to_z-of_z, fits_signed_from_abs}
use Rattle.celt_base.specs.declared.coder.Place.TheVariants.{Coarse}
use Rattle.celt_base.specs.declared.question.Question.{Question}
use Rattle.celt_base.specs.declared.question.Question.TheVariants.{Bit, Table, Uniform, Laplace, Step, Triangle, Raw}
use Rattle.celt_base.specs.declared.question.TableId.TheVariants.{Small}
use Rattle.celt_base.specs.Paces.{tell_of}
use Rattle.celt_base.specs.Questions.{IsValid, IsAnswer, laplace_row, place_of, start}
use Rattle.celt_base.specs.WalkCalls.{CoderCalls, ChooserCalls, IsHeard, heard, coarse_value, small_value, bit_value}
use Rattle.celt_base.specs.WalkScripts.{asks_value_at}
use Rattle.celt_base.specs.Walks.{Walked}
use Rattle.celt_base.proofs.WalkSteps.{look, no_walk, walk_last}
use Rattle.celt_base.proofs.WalkSteps as steps
use Rattle.celt_tables.specs.Tables.{fs_of, decay_of}
use Rattle.band_energy.specs.EnergyScripts.{question_for, value_script, coarse_at}

module _ {C H : Type 0} {coder : CoderCalls C} {chooser : ChooserCalls H} where
  -- it is asked for
  pub value_asked : {value : ℤ} {c d : C} {h k : H} (lm : ℕ) (intra : Bool) (budget band channel : ℕ) (question : Question)
      → question_for lm intra band (budget - tell_of (coder.pace c)) ≡ Some question
      → Walked coder chooser (asks_value_at (Coarse band channel) question) value c h d k
      → Walked coder chooser (coarse_at lm intra budget band channel) value c h d k
  unfolding coarse_at value_script
  value_asked {value} {c} {d} {h} {k} lm intra budget band channel question e w =
      walk_last (look steps.start) (subst (λ q. Walked coder chooser (value_script band channel q) value c h d k) (sym e) w)

  -- nothing is asked
  pub value_unasked : {c : C} {h : H} (lm : ℕ) (intra : Bool) (budget band channel : ℕ)
      → question_for lm intra band (budget - tell_of (coder.pace c)) ≡ None
      → Walked coder chooser (coarse_at lm intra budget band channel) (negsuc 0) c h c h
  unfolding coarse_at value_script
  value_unasked {c} {h} lm intra budget band channel e =
      walk_last (look steps.start) (subst (λ q. Walked coder chooser (value_script band channel q) (negsuc 0) c h c h) (sym e) no_walk)

-- the three kinds of question of a coarse energy
IsOfEnergy : Question → Type 0
IsOfEnergy (Bit p) = ⊤
IsOfEnergy (Table table) = ⊤
IsOfEnergy (Laplace fs decay) = ⊤
IsOfEnergy (Uniform limit) = ⊥
IsOfEnergy (Step most) = ⊥
IsOfEnergy (Triangle most) = ⊥
IsOfEnergy (Raw count) = ⊥

of_energy : (fs decay : ℕ) (a b c : Bool)
    → IfSome (if a then Some (Laplace fs decay) else (if b then Some (Table Small) else (if c then Some (Bit 1) else None))) IsOfEnergy
unfolding IsOfEnergy
of_energy fs decay true b c = tt
of_energy fs decay false true c = tt
of_energy fs decay false false true = tt
of_energy fs decay false false false = tt

-- a place of Laplace is not above where its part begins
place_within : (fs decay n : ℕ) → 1 ≤ fs → start (laplace_row fs decay) n < 2 ^ 15 → n ≤ start (laplace_row fs decay) n
place_within fs decay zero some begins = omega arith
place_within fs decay (suc zero) some begins = omega arith
place_within fs decay (suc (suc n)) some begins =
    let before = place_within fs decay (suc n) some (omega arith) in omega arith

laplace_within : (fs decay : ℕ) (answer : ℤ) → 1 ≤ fs → start (laplace_row fs decay) (place_of answer) < 2 ^ 15 → unsigned_abs answer ≤ 2 ^ 14
laplace_within fs decay (pos m) some begins = let e = place_within fs decay (2 * m) some begins in omega arith
laplace_within fs decay (negsuc m) some begins = let e = place_within fs decay (2 * m + 1) some begins in omega arith

small_within : (answer : ℤ) → unsigned_abs (small_value answer) ≤ 2 ^ 14
unfolding small_value
small_within (pos zero) = omega arith
small_within (pos (suc zero)) = omega arith
small_within (pos (suc (suc zero))) = omega arith
small_within (pos (suc (suc (suc n)))) = omega arith
small_within (negsuc n) = omega arith

bit_within : (answer : ℤ) → unsigned_abs (bit_value answer) ≤ 2 ^ 14
unfolding bit_value
bit_within (pos zero) = omega arith
bit_within (pos (suc zero)) = omega arith
bit_within (pos (suc (suc n))) = omega arith
bit_within (negsuc n) = omega arith

value_within : (question : Question) (answer : ℤ) → IsOfEnergy question → IsValid question → IsAnswer question answer
    → unsigned_abs (coarse_value question answer) ≤ 2 ^ 14
unfolding IsOfEnergy coarse_value
value_within (Bit p) answer of valid is = bit_within answer
value_within (Table table) answer of valid is = small_within answer
value_within (Laplace fs decay) answer of valid is = laplace_within fs decay answer valid.0 is
value_within (Uniform limit) answer of valid is = absurd of
value_within (Step most) answer of valid is = absurd of
value_within (Triangle most) answer of valid is = absurd of
value_within (Raw count) answer of valid is = absurd of

-- the size of a value that was heard
pub heard_within : (lm : ℕ) (intra : Bool) (band left at_band channel : ℕ) (question : Question) (value : ℤ)
    → question_for lm intra band left ≡ Some question
    → IsValid question
    → IsHeard (Coarse at_band channel) question value
    → unsigned_abs value ≤ 2 ^ 14
unfolding question_for heard
heard_within lm intra band left at_band channel question value e valid is =
    let of = subst (λ o. IfSome o IsOfEnergy) e (of_energy (fs_of lm intra band) (decay_of lm intra band) (nat_le 15 left) (nat_le 2 left) (nat_le 1 left)) in
    subst (λ v. unsigned_abs v ≤ 2 ^ 14) (sym is.is_value) (value_within question is.answer of valid is.is_answer)

-- a value passes through both widths
pub same_value : (value : ℤ) → FitsSigned w64 value → unsigned_abs value ≤ 2 ^ 14
    → to_z w32 (of_z w32 (to_z w64 (of_z w64 value))) ≡ value
same_value value fits small =
    ap (λ v. to_z w32 (of_z w32 v)) (to_z-of_z w64 value fits) ∙ to_z-of_z w32 value (fits_signed_from_abs w32 value (omega arith))
