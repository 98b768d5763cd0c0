-- Whether a leaf without pulses is among the parts.
use Rattle.std.proofs.Common.{◌≡◌, ℕ, sym, refl, ap, ◌∙◌, List, Bool, true, false}
use Rattle.std.specs.Prelude.{◌||◌, nat_eq, if◌then◌else◌}
use Rattle.band_shapes.specs.declared.node.Cut.{Cut}
use Rattle.band_plan.specs.declared.symbols.Node.{Node}
use Rattle.band_shapes.specs.Tree.{Part, Leaf, Split, Read, two_read, read_part}
use Rattle.band_shapes.specs.Parts.{has_silent}

-- the first of two leaves without pulses may stand in either part
or_turned : (a b : Bool) → (a || b) ≡ (b || a)
or_turned true true = refl
or_turned true false = refl
or_turned false true = refl
or_turned false false = refl

either_silent : (s : Bool) (cut : Cut) (one two : Part) → has_silent (if s then Split cut two one else Split cut one two) ≡ (has_silent one || has_silent two)
unfolding has_silent
either_silent true cut one two = or_turned (has_silent two) (has_silent one)
either_silent false cut one two = refl

pub cut_silent : (level : ℕ) (cut : Cut) (rest next : List Node) (r : Read) (a b : Bool) → r ≡ two_read (read_part level) cut rest → next ≡ (read_part level rest).rest → a ≡ has_silent (read_part level rest).part → b ≡ has_silent (read_part level next).part → (a || b) ≡ has_silent r.part
unfolding two_read
cut_silent level cut rest next r a b e n f g =
    let two : Part = (read_part level (read_part level rest).rest).part in
    let one : Part = (read_part level rest).part in
    let h : b ≡ has_silent two = g ∙ ap (λ z. has_silent (read_part level z).part) n in
    ap (λ z. z || b) f ∙ (ap (λ z. has_silent one || z) h ∙ (sym (either_silent cut.second_first cut one two) ∙ sym (ap (λ z. has_silent z.part) e)))

pub leaf_silent : (level k index : ℕ) (ns : List Node) (r : Read) {rest : List Node} → r ≡ record { part = Leaf k index; rest = rest } → nat_eq k 0 ≡ has_silent r.part
unfolding has_silent
leaf_silent level k index ns r e = sym (ap (λ z. has_silent z.part) e)
