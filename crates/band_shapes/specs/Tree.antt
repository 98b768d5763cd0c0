-- The parts of a band as a tree, and how a list of nodes in coding order is read as one.
use Rattle.std.specs.Prelude.{◌≡◌, ◌⊎◌, ℕ, zero, suc, ◌/◌, ◌%◌, ◌^◌, ◌<◌, ◌≤◌, ℤ, pos, ◌≤ℤ◌, if◌then◌else◌, List, [], ◌∷◌, drop}
use Rattle.band_plan.specs.declared.symbols.Node.{Node}
use Rattle.band_plan.specs.declared.symbols.Node.TheVariants as nodes
use Rattle.band_shapes.specs.declared.node.Cut.{Cut}
use Rattle.band_shapes.specs.declared.node.Piece.{Piece}
use Rattle.band_shapes.specs.declared.node.Piece.TheVariants as pieces
use Rattle.pulse_vectors.specs.Vectors.{count_of}

-- a leaf has a number of pulses and the place of its vector; a split its angle and which part was coded first, and both parts in the order of their places
pub data Part : Type 0 where
  Leaf : ℕ → ℕ → Part
  Split : Cut → Part → Part → Part

-- the first node, where there is one
unfoldable pub front : List Node → Node
front [] = nodes.Leaf 0 0
front (n ∷ ns) = n

-- what was read, and what is left
pub record Read : Type 0 where
  pub part : Part
  pub rest : List Node

-- two parts in coding order, put in the order of their places
unfoldable pub two_read : (List Node → Read) → Cut → List Node → Read
two_read read cut ns =
    let one = read ns in
    let two = read one.rest in
    record {
      part = if cut.second_first then Split cut two.part one.part else Split cut one.part two.part;
      rest = two.rest;
    }

-- what a node is to a part: nothing is split once the levels are used up
unfoldable pub piece_of : ℕ → Node → Piece
piece_of zero (nodes.Theta theta second_first inversion) = pieces.Leaf 0 0
piece_of zero (nodes.Leaf k index) = pieces.Leaf k index
piece_of zero (nodes.Sign negative) = pieces.Leaf 0 0
piece_of (suc level) (nodes.Theta theta second_first inversion) = pieces.Split (record { theta = theta; second_first = second_first })
piece_of (suc level) (nodes.Leaf k index) = pieces.Leaf k index
piece_of (suc level) (nodes.Sign negative) = pieces.Leaf 0 0

-- what begins with a piece, where `read` reads a part of a split
unfoldable pub read_by : (List Node → Read) → Piece → List Node → Read
read_by read (pieces.Split cut) ns = two_read read cut ns
read_by read (pieces.Leaf k index) ns = record { part = Leaf k index; rest = ns }

unfoldable pub not_split : List Node → Read
not_split ns = record { part = Leaf 0 0; rest = ns }

-- a part with at most so many levels of splits
unfoldable pub read_part : ℕ → List Node → Read
read_part zero ns = read_by not_split (piece_of zero (front ns)) (drop 1 ns)
read_part (suc level) ns = read_by (read_part level) (piece_of (suc level) (front ns)) (drop 1 ns)

-- an angle that `bitexact_cos` knows, or an end
abbrev pub IsAngle : ℤ → Type 0
IsAngle theta = (theta ≡ pos 0) ⊎ ((theta ≡ pos 16384) ⊎ ((pos 64 ≤ℤ theta) × (theta ≤ℤ pos 16320)))

-- a leaf of n items has at most 128 pulses, and its vector is one of fewer than 2^32
pub record IsLeaf (n k index : ℕ) : Type 0 where
  pub items : 2 ≤ n
  pub pulses : k ≤ 128
  pub fits : 1 ≤ k → count_of n k < 2 ^ 32
  pub below : 1 ≤ k → index < count_of n k

-- the tree is one of n items
abbrev pub IsPart : ℕ → Part → Type 0
IsPart n (Leaf k index) = IsLeaf n k index
IsPart n (Split cut first second) = (n % 2 ≡ 0) × IsAngle cut.theta × IsPart (n / 2) first × IsPart (n / 2) second

-- 1, 2, 4, 8 or 16 blocks
abbrev pub IsBlocks : ℕ → Type 0
IsBlocks b = (b ≡ 1) ⊎ ((b ≡ 2) ⊎ ((b ≡ 4) ⊎ ((b ≡ 8) ⊎ (b ≡ 16))))
