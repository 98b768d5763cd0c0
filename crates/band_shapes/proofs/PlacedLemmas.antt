-- The nodes of a tree of band_plan are read as its parts by their places, and these have the sizes that shapes want.
use Rattle.std.proofs.Common.{◌≡◌, ◌≢◌, inl, inr, ℕ, zero, suc, ◌/◌, ◌%◌, ◌<◌, ◌≤◌, sym, arith, refl, ap, ◌∙◌, subst, nat_eq, List, ◌∷◌, ◌++◌, append_assoc, Bool, true, false}
use Rattle.std.specs.Prelude.{pos, if◌then◌else◌}
use Rattle.std.proofs.lemmas.Bool.{eqb-true}
use Rattle.std.proofs.lemmas.Bool.Decides.{nat_tests}
use Rattle.std.proofs.lemmas.Int.{ints}
use Rattle.band_plan.specs.declared.channels.Band.{Band}
use Rattle.band_plan.specs.declared.orders.Theta.{Theta}
use Rattle.band_plan.specs.declared.symbols.Node.{Node}
use Rattle.band_plan.specs.declared.symbols.Node.TheVariants as nodes
use Rattle.band_plan.specs.Angles.{IsTheta}
use Rattle.band_plan.specs.Shapes.{IsVector, IsHalved, ByTest, IsSign, IsPart as IsTree, IsChannel as IsChannelTree}
use Rattle.band_plan.specs.Trees.{Tree, Signed, Pulsed, Split as Coded, Paired, Both, nodes_of}
use Rattle.band_shapes.specs.declared.node.Cut.{Cut}
use Rattle.band_shapes.specs.Tree.{Part, Split, Read, front, piece_of, two_read, read_part, IsAngle, IsLeaf, IsPart}
use Rattle.band_shapes.specs.Placed.{cut_of, placed, part_of}
use Rattle.band_shapes.proofs.Walk.{leaf_any, leaf_read, split_read}

abbrev read_as : Part → List Node → Read
read_as t ns = record { part = t; rest = ns }

-- two lists that are read as two parts
two_coded : (read : List Node → Read) (cut : Cut) (xs ys rest : List Node) (x y : Part) → ((ns : List Node) → read (xs ++ ns) ≡ read_as x ns) → ((ns : List Node) → read (ys ++ ns) ≡ read_as y ns)
    → two_read read cut ((xs ++ ys) ++ rest) ≡ read_as (placed cut x y) rest
unfolding two_read
two_coded read cut xs ys rest x y f g =
    let ns : List Node = (xs ++ ys) ++ rest in
    let p : read ns ≡ read_as x (ys ++ rest) = ap read (append_assoc xs ys rest) ∙ f (ys ++ rest) in
    let q : read (read ns).rest ≡ read_as y rest = ap (λ z. read z.rest) p ∙ g rest in
    ap (λ z. record { part = placed cut (read ns).part z.part; rest = z.rest }) q ∙ ap (λ z. record { part = placed cut z.part y; rest = rest }) p

-- the split of two trees that are read as their parts
split_coded : (level : ℕ) (t : Theta) (s : Bool) (x y : Tree) (rest : List Node)
    → ((ns : List Node) → read_part level (nodes_of x ++ ns) ≡ read_as (part_of x) ns) → ((ns : List Node) → read_part level (nodes_of y ++ ns) ≡ read_as (part_of y) ns)
    → read_part (suc level) (nodes_of (Coded t s x y) ++ rest) ≡ read_as (part_of (Coded t s x y)) rest
unfolding front piece_of part_of
split_coded level t s x y rest f g =
    split_read level (nodes_of (Coded t s x y) ++ rest) (cut_of t s) refl
    ∙ two_coded (read_part level) (cut_of t s) (nodes_of x) (nodes_of y) rest (part_of x) (part_of y) f g

-- (i) the nodes of a part's tree, whatever follows, are read as the part
pub tree_read : (level n : ℕ) (tree : Tree) (rest : List Node) → IsTree tree level n → read_part level (nodes_of tree ++ rest) ≡ record { part = part_of tree; rest = rest }
unfolding IsTree front piece_of part_of
tree_read level n (Signed negative cost) rest h = absurd h
tree_read level n (Pulsed k index cost) rest h = leaf_read level (nodes.Leaf k index ∷ rest) k index (sym (leaf_any level k index))
tree_read zero n (Coded t s x y) rest h = absurd h
tree_read (suc level) n (Coded t s x y) rest h =
    split_coded level t s x y rest (λ ns. tree_read level (n / 2) x ns h.1) (λ ns. tree_read level (n / 2) y ns h.2)
tree_read level n (Paired t negative cost x) rest h = absurd h
tree_read level n (Both x y) rest h = absurd h

-- an angle has a cosine, or is an end
pub angle_is : (theta : ℕ) → IsTheta theta → IsAngle (pos theta)
angle_is zero h = inl refl
angle_is (suc k) h = by_test (nat_eq (suc k) 16384) refl
  where
    by_test : (b : Bool) → nat_eq (suc k) 16384 ≡ b → IsAngle (pos (suc k))
    by_test true e = inr (inl (ap pos (eqb-true (suc k) 16384 e)))
    by_test false e =
        let low : 64 ≤ suc k = h.some (λ z. absurd (omega (arith, z))) in
        let high : suc k ≤ 16320 = h.less (grind (arith, nat_tests, e)) in
        inr (inr (omega (arith, ints, low), omega (arith, ints, high)))

vector_is : (n k index : ℕ) → 2 ≤ n → IsVector n k index → IsLeaf n k index
vector_is n k index two h = record { items = two; pulses = h.few; fits = λ some. h.fits; below = λ some. h.place some }

placed_is : (n : ℕ) (b : Bool) (cut : Cut) (one two : Part) → n % 2 ≡ 0 → IsAngle cut.theta → IsPart (n / 2) one → IsPart (n / 2) two → IsPart n (if b then Split cut two one else Split cut one two)
placed_is n true cut one two e a p q = (e, a, q, p)
placed_is n false cut one two e a p q = (e, a, p, q)

-- (ii) a part's tree is one of a shape
pub part_is : (level n : ℕ) (tree : Tree) → 2 ≤ n → IsTree tree level n → IsPart n (part_of tree)
unfolding IsTree part_of
part_is level n (Signed negative cost) two h = absurd h
part_is level n (Pulsed k index cost) two h = vector_is n k index two h
part_is zero n (Coded t s x y) two h = absurd h
part_is (suc level) n (Coded t s x y) two h =
    let halved : IsHalved n t = h.0 in
    let more : 2 < n = halved.more in
    let even : n % 2 ≡ 0 = halved.even in
    let half : 2 ≤ n / 2 = omega (arith, more, even) in
    placed_is n s (cut_of t s) (part_of x) (part_of y) even (angle_is t.theta halved.theta) (part_is level (n / 2) x half h.1) (part_is level (n / 2) y half h.2)
part_is level n (Paired t negative cost x) two h = absurd h
part_is level n (Both x y) two h = absurd h

-- (iii) a channel of more than one coefficient is a part
pub channel_tree : (b : Band) (tree : Tree) → b.n ≢ 1 → IsChannelTree b tree → IsTree tree b.level b.n
unfolding IsChannelTree
channel_tree b tree more h = by_test (nat_eq b.n 1) refl h
  where
    by_test : (t : Bool) → nat_eq b.n 1 ≡ t → ByTest t (IsSign tree) (IsTree tree b.level b.n) → IsTree tree b.level b.n
    by_test true e h = absurd (more (eqb-true b.n 1 e))
    by_test false e h = h

-- one of one coefficient is the sign that stands first
pub record IsSignRead (ns rest : List Node) : Type 0 where
  pub negative : Bool
  pub nodes_are : ns ≡ nodes.Sign negative ∷ rest

sign_read : (tree : Tree) (rest : List Node) → IsSign tree → IsSignRead (nodes_of tree ++ rest) rest
unfolding IsSign
sign_read (Signed negative cost) rest h = record { negative = negative; nodes_are = refl }
sign_read (Pulsed k index cost) rest h = absurd h
sign_read (Coded t s x y) rest h = absurd h
sign_read (Paired t negative cost x) rest h = absurd h
sign_read (Both x y) rest h = absurd h

pub channel_sign : (b : Band) (tree : Tree) (rest : List Node) → b.n ≡ 1 → IsChannelTree b tree → IsSignRead (nodes_of tree ++ rest) rest
unfolding IsChannelTree
channel_sign b tree rest one h = by_test (nat_eq b.n 1) refl h
  where
    by_test : (t : Bool) → nat_eq b.n 1 ≡ t → ByTest t (IsSign tree) (IsTree tree b.level b.n) → IsSignRead (nodes_of tree ++ rest) rest
    by_test true e h = sign_read tree rest h
    by_test false e h = absurd (grind (arith, nat_tests, e, one))

-- what a reading of a channel gives
pub record AreParts (n level : ℕ) (ns rest : List Node) (part : Part) : Type 0 where
  pub read : read_part level ns ≡ record { part = part; rest = rest }
  pub shaped : IsPart n part

pub channel_read : (b : Band) (tree : Tree) (rest : List Node) → 2 ≤ b.n → IsChannelTree b tree → AreParts b.n b.level (nodes_of tree ++ rest) rest (part_of tree)
channel_read b tree rest two h =
    let t : IsTree tree b.level b.n = channel_tree b tree (λ e. absurd (omega (arith, two, e))) h in
    record { read = tree_read b.level b.n tree rest t; shaped = part_is b.level b.n tree two t }

-- two channels, one after the other: left and right, or middle and side
pub record ArePair (n level : ℕ) (ns rest : List Node) (one two : Part) : Type 0 where
  pub first : (read_part level ns).part ≡ one
  pub second : (read_part level (read_part level ns).rest).part ≡ two
  pub last : (read_part level (read_part level ns).rest).rest ≡ rest
  pub first_is : IsPart n (read_part level ns).part
  pub second_is : IsPart n (read_part level (read_part level ns).rest).part

pub pair_read : (b : Band) (x y : Tree) (rest : List Node) → 2 ≤ b.n → IsChannelTree b x → IsChannelTree b y → ArePair b.n b.level ((nodes_of x ++ nodes_of y) ++ rest) rest (part_of x) (part_of y)
pair_read b x y rest two h k =
    let ns : List Node = (nodes_of x ++ nodes_of y) ++ rest in
    let one = channel_read b x (nodes_of y ++ rest) two h in
    let other = channel_read b y rest two k in
    let p : read_part b.level ns ≡ read_as (part_of x) (nodes_of y ++ rest) = ap (read_part b.level) (append_assoc (nodes_of x) (nodes_of y) rest) ∙ one.read in
    let q : read_part b.level (read_part b.level ns).rest ≡ read_as (part_of y) rest = ap (λ z. read_part b.level z.rest) p ∙ other.read in
    record {
      first = ap (λ z. z.part) p;
      second = ap (λ z. z.part) q;
      last = ap (λ z. z.rest) q;
      first_is = subst (λ (z : Read). IsPart b.n z.part) (sym p) one.shaped;
      second_is = subst (λ (z : Read). IsPart b.n z.part) (sym q) other.shaped;
    }
