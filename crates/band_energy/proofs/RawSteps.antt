-- One fine energy and one last bit: their walks, and the sizes of their answers.
use Rattle.std.proofs.Common.{◌≡◌, ℕ, zero, suc, ◌≤◌, Bool, true, false, if◌then◌else◌, ℤ, sym, subst, arith}
use Rattle.std.specs.Prelude.{None, Some, unsigned_abs}
use Rattle.celt_base.specs.declared.coder.Place.TheVariants.{Fine, Last}
use Rattle.celt_base.specs.declared.question.Question.TheVariants.{Raw}
use Rattle.celt_base.specs.WalkCalls.{CoderCalls, ChooserCalls}
use Rattle.celt_base.specs.WalkScripts.{Done, asks_at}
use Rattle.celt_base.specs.Walks.{Walked}
use Rattle.celt_base.proofs.WalkSteps.{no_walk, walk, end, when_true, when_false}
use Rattle.celt_base.proofs.WalkSteps as steps
use Rattle.band_energy.specs.EnergyScripts.{bits_script, last_bit}

module _ {C H : Type 0} {coder : CoderCalls C} {chooser : ChooserCalls H} where
  -- raw bits are asked for
  pub bits_asked : {answer : ℤ} {c d : C} {h k : H} (band channel bits : ℕ)
      → 1 ≤ bits
      → Walked coder chooser (asks_at (Fine band channel bits) (Raw bits)) answer c h d k
      → Walked coder chooser (bits_script band channel bits) (unsigned_abs answer) c h d k
  unfolding bits_script
  bits_asked band channel zero some w = absurd (omega arith)
  bits_asked {answer} band channel (suc bits) some w = end (walk (λ answer. Done (unsigned_abs answer)) steps.start w)

  -- there are none
  pub no_bits : {c : C} {h : H} (band channel bits : ℕ) → bits ≡ 0 → Walked coder chooser (bits_script band channel bits) 0 c h c h
  unfolding bits_script
  no_bits {c} {h} band channel bits none = subst (λ n. Walked coder chooser (bits_script band channel n) 0 c h c h) (sym none) no_walk

  -- a last bit is asked for
  pub last_asked : {answer : ℤ} {c d : C} {h k : H} (band channel : ℕ) (reached : Bool)
      → reached ≡ true
      → Walked coder chooser (asks_at (Last band channel) (Raw 1)) answer c h d k
      → Walked coder chooser (if reached then last_bit band channel else Done None) (Some (unsigned_abs answer)) c h d k
  unfolding last_bit
  last_asked band channel reached is w =
      when_true reached (last_bit band channel) (Done None) is (end (walk (λ answer. Done (Some (unsigned_abs answer))) steps.start w))

  -- the band is not reached
  pub last_unasked : {c : C} {h : H} (band channel : ℕ) (reached : Bool)
      → reached ≡ false
      → Walked coder chooser (if reached then last_bit band channel else Done None) None c h c h
  last_unasked band channel reached is = when_false reached (last_bit band channel) (Done None) is no_walk
