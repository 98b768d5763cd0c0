-- The parts, by their places, of a tree of band_plan, whose children stand in the order of coding.
use Rattle.std.specs.Prelude.{Bool, if◌then◌else◌, pos}
use Rattle.band_plan.specs.declared.orders.Theta.{Theta}
use Rattle.band_plan.specs.Trees.{Tree, Signed, Pulsed, Split as Coded, Paired, Both}
use Rattle.band_shapes.specs.declared.node.Cut.{Cut}
use Rattle.band_shapes.specs.Tree.{Part, Leaf, Split}

-- a split's angle, without its cost
abbrev pub cut_of : Theta → Bool → Cut
cut_of t second_first = record { theta = pos t.theta; second_first = second_first }

-- the part that was coded first, and the other, in the order of their places
abbrev pub placed : Cut → Part → Part → Part
placed cut one two = if cut.second_first then Split cut two one else Split cut one two

-- Costs are dropped. A tree that is none of a part's has a leaf without pulses for what is none.
unfoldable pub part_of : Tree → Part
part_of (Signed negative cost) = Leaf 0 0
part_of (Pulsed k index cost) = Leaf k index
part_of (Coded t second_first x y) = placed (cut_of t second_first) (part_of x) (part_of y)
part_of (Paired t negative cost x) = part_of x
part_of (Both x y) = part_of x
