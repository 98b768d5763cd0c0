-- Nodes read one after the other.
use Rattle.std.proofs.Common.{◌≡◌, ◌≢◌, ℕ, zero, suc, ◌+◌, ◌-◌, ◌/◌, ◌%◌, ◌<◌, ◌≤◌, sym, arith, refl, ap, ◌∙◌, subst, List, length, get_or, drop, Bool, true, false}
use Rattle.std.specs.Prelude.{ℤ, if◌then◌else◌}
use Rattle.std.proofs.lemmas.Bool.{false≢true}
use Rattle.std.proofs.lemmas.List.{drop_more, drop_all, drop-drop}
use Rattle.band_plan.specs.declared.symbols.Node.{Node}
use Rattle.band_plan.specs.declared.symbols.Node.TheVariants as nodes
use Rattle.band_shapes.specs.declared.node.Cut.{Cut}
use Rattle.band_shapes.specs.declared.node.Piece.{Piece}
use Rattle.band_shapes.specs.declared.node.Piece.TheVariants as pieces
use Rattle.band_shapes.specs.Tree.{Part, Leaf, Split, IsAngle, IsPart, front, piece_of, not_split, read_by, two_read, read_part}

pub front_at : (ns : List Node) (i : ℕ) (d : Node) → i < length ns → front (drop i ns) ≡ get_or ns i d
unfolding front
front_at ns i d h = ap front (drop_more ns i d h)

pub front_past : (ns : List Node) (i : ℕ) → length ns ≤ i → front (drop i ns) ≡ nodes.Leaf 0 0
unfolding front
front_past ns i h = ap front (drop_all i ns h)

pub rest_at : (ns : List Node) (i : ℕ) → drop (i + 1) ns ≡ drop 1 (drop i ns)
rest_at ns i = sym (drop-drop 1 i ns)

pub rest_past : (ns : List Node) (i : ℕ) → length ns ≤ i → drop i ns ≡ drop 1 (drop i ns)
rest_past ns i h = drop_all i ns h ∙ sym (ap (drop 1) (drop_all i ns h))

-- what a piece makes of the rest
pub leaf_read : (level : ℕ) (ns : List Node) (k index : ℕ) → pieces.Leaf k index ≡ piece_of level (front ns) → read_part level ns ≡ record { part = Leaf k index; rest = drop 1 ns }
unfolding read_part read_by
leaf_read zero ns k index e = ap (λ p. read_by not_split p (drop 1 ns)) (sym e)
leaf_read (suc level) ns k index e = ap (λ p. read_by (read_part level) p (drop 1 ns)) (sym e)

pub split_read : (level : ℕ) (ns : List Node) (cut : Cut) → pieces.Split cut ≡ piece_of (suc level) (front ns) → read_part (suc level) ns ≡ two_read (read_part level) cut (drop 1 ns)
unfolding read_part read_by
split_read level ns cut e = ap (λ p. read_by (read_part level) p (drop 1 ns)) (sym e)

pub leaf_piece : (level : ℕ) → piece_of level (nodes.Leaf 0 0) ≡ pieces.Leaf 0 0
unfolding piece_of
leaf_piece zero = refl
leaf_piece (suc level) = refl

pub theta_none : (level : ℕ) (theta : ℤ) (second_first inversion : Bool) → level ≡ 0 → piece_of level (nodes.Theta theta second_first inversion) ≡ pieces.Leaf 0 0
unfolding piece_of
theta_none zero theta second_first inversion e = refl
theta_none (suc level) theta second_first inversion e = absurd (omega arith)

pub theta_split : (level : ℕ) (theta : ℤ) (second_first inversion : Bool) → level ≢ 0 → piece_of level (nodes.Theta theta second_first inversion) ≡ pieces.Split (record { theta = theta; second_first = second_first })
unfolding piece_of
theta_split zero theta second_first inversion e = absurd (e refl)
theta_split (suc level) theta second_first inversion e = refl

pub leaf_any : (level k index : ℕ) → piece_of level (nodes.Leaf k index) ≡ pieces.Leaf k index
unfolding piece_of
leaf_any zero k index = refl
leaf_any (suc level) k index = refl

pub sign_any : (level : ℕ) (negative : Bool) → piece_of level (nodes.Sign negative) ≡ pieces.Leaf 0 0
unfolding piece_of
sign_any zero negative = refl
sign_any (suc level) negative = refl

-- without levels there is no split
is_split : Piece → Bool
is_split (pieces.Split cut) = true
is_split (pieces.Leaf k index) = false

none_split : (n : Node) → is_split (piece_of zero n) ≡ false
unfolding piece_of is_split
none_split (nodes.Theta theta second_first inversion) = refl
none_split (nodes.Leaf k index) = refl
none_split (nodes.Sign negative) = refl

pub split_more : (level : ℕ) (n : Node) (cut : Cut) → pieces.Split cut ≡ piece_of level n → 1 ≤ level
unfolding is_split
split_more zero n cut e = absurd (false≢true (sym (ap is_split e ∙ none_split n)))
split_more (suc level) n cut e = omega arith

-- the split's level, one more than that of its parts
pub split_at : (level below : ℕ) (ns : List Node) (cut : Cut) → pieces.Split cut ≡ piece_of level (front ns) → level ≡ suc below → read_part level ns ≡ two_read (read_part below) cut (drop 1 ns)
split_at level below ns cut e h =
    rw h (split_read below ns cut (subst (λ l. pieces.Split cut ≡ piece_of l (front ns)) h e))

-- a split as a part of n items finds it
pub record Cutting (n level : ℕ) (ns rest : List Node) (cut : Cut) : Type 0 where
  pub more : 1 ≤ level
  pub read : read_part level ns ≡ two_read (read_part (level - 1)) cut rest
  pub even : n % 2 ≡ 0
  pub angle : IsAngle cut.theta
  pub one : IsPart (n / 2) (read_part (level - 1) rest).part
  pub two : IsPart (n / 2) (read_part (level - 1) (read_part (level - 1) rest).rest).part

-- the parts of a split, in the order of coding
either_order : (n : ℕ) (b : Bool) (cut : Cut) (one two : Part) → IsPart n (if b then Split cut two one else Split cut one two) → (n % 2 ≡ 0) × IsAngle cut.theta × IsPart (n / 2) one × IsPart (n / 2) two
either_order n true cut one two h = (h.0, h.1, h.3, h.2)
either_order n false cut one two h = h

cut_tree : (n level : ℕ) (rest : List Node) (cut : Cut) → IsPart n (two_read (read_part level) cut rest).part → (n % 2 ≡ 0) × IsAngle cut.theta × IsPart (n / 2) (read_part level rest).part × IsPart (n / 2) (read_part level (read_part level rest).rest).part
unfolding two_read
cut_tree n level rest cut h = either_order n cut.second_first cut (read_part level rest).part (read_part level (read_part level rest).rest).part h

pub cutting : (n level : ℕ) (ns rest : List Node) (cut : Cut) → pieces.Split cut ≡ piece_of level (front ns) → rest ≡ drop 1 ns → IsPart n (read_part level ns).part → Cutting n level ns rest cut
cutting n level ns rest cut e r t =
    let more : 1 ≤ level = split_more level (front ns) cut e in
    let same : level ≡ suc (level - 1) = omega arith in
    let read : read_part level ns ≡ two_read (read_part (level - 1)) cut rest = rw r (split_at level (level - 1) ns cut e same) in
    let tree = cut_tree n (level - 1) rest cut (subst (λ z. IsPart n z.part) read t) in
    record { more = more; read = read; even = tree.0; angle = tree.1; one = tree.2; two = tree.3 }
