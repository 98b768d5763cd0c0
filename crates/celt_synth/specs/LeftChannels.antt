-- What does not depend on the right channel, nor on whether phases are inverted.
use Rattle.std.specs.Prelude.{◌≡◌}
use Rattle.celt_synth.specs.Shapes.{Shaped}
use Rattle.celt_synth.specs.States.{State}

-- two states that differ in the right channel at most
pub record AgreeLeft (s t : State) : Type 0 where
  pub energies_are : s.energies ≡ t.energies
  pub older1_are : s.older1 ≡ t.older1
  pub older2_are : s.older2 ≡ t.older2
  pub seed_is : s.seed ≡ t.seed
  pub range_is : s.range ≡ t.range
  pub before_is : s.before ≡ t.before
  pub now_is : s.now ≡ t.now
  pub left_is : s.left ≡ t.left

-- shapes that differ in the right channel at most
pub record AgreeShapes (x y : Shaped) : Type 0 where
  pub left_are : x.shapes.left ≡ y.shapes.left
  pub seed_is : x.shapes.seed ≡ y.shapes.seed
  pub masks_are : x.masks ≡ y.masks
