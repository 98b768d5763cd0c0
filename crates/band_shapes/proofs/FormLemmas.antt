-- The nodes of a band's tree, whatever follows, are read as its form, for each kind of band.
use Rattle.std.proofs.Common.{◌≡◌, ◌≢◌, ℕ, ◌≤◌, sym, arith, refl, ap, ◌∙◌, subst, nat_eq, List, [], ◌∷◌, ◌++◌, append_assoc, drop, Bool, true, false}
use Rattle.std.specs.Prelude.{ℤ, if◌then◌else◌}
use Rattle.std.proofs.lemmas.Bool.{eqb-true}
use Rattle.std.proofs.lemmas.Bool.Decides.{nat_tests}
use Rattle.band_plan.specs.declared.channels.Band.{Band}
use Rattle.band_plan.specs.declared.orders.Theta.{Theta}
use Rattle.band_plan.specs.declared.symbols.Node.{Node}
use Rattle.band_plan.specs.declared.symbols.Node.TheVariants as nodes
use Rattle.band_plan.specs.Plans.{is_two}
use Rattle.band_plan.specs.Shapes.{ByTest, IsSign, IsPart as IsTree, IsChannel as IsChannelTree, IsStereo, IsPair, IsBandTree}
use Rattle.band_plan.specs.Trees.{Tree, Signed, Pulsed, Split as Coded, Paired, Both, nodes_of, angle_node}
use Rattle.band_shapes.specs.Tree.{front, read_part}
use Rattle.band_shapes.specs.Placed.{cut_of, part_of}
use Rattle.band_shapes.specs.Forms.{Side, One, Many, Form, Single, Double, Turned, Duo, ReadSide, ReadForm, sign_in, cut_in, turned_in, many, read_side, read_sides, read_duo, read_single, read_stereo, read_form, side_of, stereo_form, form_of, IsSide, IsForm}
use Rattle.band_shapes.proofs.PlacedLemmas.{tree_read, part_is, angle_is}

abbrev side_as : Side → List Node → ReadSide
side_as x ns = record { side = x; rest = ns }

abbrev form_as : Form → List Node → ReadForm
form_as x ns = record { form = x; rest = ns }

pub record IsSideRead (n level : ℕ) (ns rest : List Node) (side : Side) : Type 0 where
  pub read : read_side n level ns ≡ record { side = side; rest = rest }
  pub shaped : IsSide n side

pub record IsFormRead (r : ReadForm) (n : ℕ) (rest : List Node) (form : Form) : Type 0 where
  pub read : r ≡ record { form = form; rest = rest }
  pub shaped : IsForm n form

many_side : (level n : ℕ) (tree : Tree) → IsTree tree level n → side_of tree ≡ Many (part_of tree)
unfolding side_of IsTree
many_side level n (Signed negative cost) h = absurd h
many_side level n (Pulsed k index cost) h = refl
many_side level n (Coded t s x y) h = refl
many_side level n (Paired t negative cost x) h = refl
many_side level n (Both x y) h = refl

sign_side : (n level : ℕ) (tree : Tree) (rest : List Node) → n ≡ 1 → IsSign tree → IsSideRead n level (nodes_of tree ++ rest) rest (side_of tree)
unfolding IsSign side_of read_side front sign_in IsSide
sign_side n level (Signed negative cost) rest e h =
    record { read = subst (λ k. (if nat_eq k 1 then side_as (One negative) rest else many (read_part level (nodes.Sign negative ∷ rest))) ≡ side_as (One negative) rest) (sym e) refl; shaped = e }
sign_side n level (Pulsed k index cost) rest e h = absurd h
sign_side n level (Coded t s x y) rest e h = absurd h
sign_side n level (Paired t negative cost x) rest e h = absurd h
sign_side n level (Both x y) rest e h = absurd h

pub many_read : (n level : ℕ) (ns : List Node) → n ≢ 1 → read_side n level ns ≡ many (read_part level ns)
unfolding read_side
many_read n level ns h = by_test (nat_eq n 1) refl
  where
    by_test : (b : Bool) → nat_eq n 1 ≡ b → (if b then side_as (One (sign_in (front ns))) (drop 1 ns) else many (read_part level ns)) ≡ many (read_part level ns)
    by_test true e = absurd (h (eqb-true n 1 e))
    by_test false e = refl

part_side : (n level : ℕ) (tree : Tree) (rest : List Node) → 2 ≤ n → IsTree tree level n → IsSideRead n level (nodes_of tree ++ rest) rest (side_of tree)
unfolding IsSide
part_side n level tree rest two h =
    let e = many_side level n tree h in
    subst (IsSideRead n level (nodes_of tree ++ rest) rest) (sym e)
    (record { read = many_read n level (nodes_of tree ++ rest) (λ e. absurd (omega (arith, two, e))) ∙ ap many (tree_read level n tree rest h); shaped = (two, part_is level n tree two h) })

pub side_reads : (b : Band) (tree : Tree) (rest : List Node) → 1 ≤ b.n → IsChannelTree b tree → IsSideRead b.n b.level (nodes_of tree ++ rest) rest (side_of tree)
unfolding IsChannelTree
side_reads b tree rest some h = by_test (nat_eq b.n 1) refl h
  where
    by_test : (t : Bool) → nat_eq b.n 1 ≡ t → ByTest t (IsSign tree) (IsTree tree b.level b.n) → IsSideRead b.n b.level (nodes_of tree ++ rest) rest (side_of tree)
    by_test true e h = sign_side b.n b.level tree rest (eqb-true b.n 1 e) h
    by_test false e h = part_side b.n b.level tree rest (grind (arith, nat_tests, e, some)) h

-- two channels, one after the other
sides_read : (b : Band) (make : Side → Side → Form) (x y : Tree) (rest : List Node) → 1 ≤ b.n → IsChannelTree b x → IsChannelTree b y
    → read_sides b.n b.level make ((nodes_of x ++ nodes_of y) ++ rest) ≡ form_as (make (side_of x) (side_of y)) rest
unfolding read_sides
sides_read b make x y rest some h k =
    let read : List Node → ReadSide = read_side b.n b.level in
    let ns : List Node = (nodes_of x ++ nodes_of y) ++ rest in
    let p : read ns ≡ side_as (side_of x) (nodes_of y ++ rest) = ap read (append_assoc (nodes_of x) (nodes_of y) rest) ∙ (side_reads b x (nodes_of y ++ rest) some h).read in
    let q : read (read ns).rest ≡ side_as (side_of y) rest = ap (λ z. read z.rest) p ∙ (side_reads b y rest some k).read in
    ap (λ z. form_as (make (read ns).side z.side) z.rest) q ∙ ap (λ z. form_as (make z.side (side_of y)) rest) p

side_is : (b : Band) (tree : Tree) → 1 ≤ b.n → IsChannelTree b tree → IsSide b.n (side_of tree)
side_is b tree some h = (side_reads b tree [] some h).shaped

pair_form : (b : Band) (tree : Tree) (rest : List Node) → 1 ≤ b.n → IsPair b tree → IsFormRead (read_sides b.n b.level Double (nodes_of tree ++ rest)) b.n rest (stereo_form tree)
unfolding IsPair stereo_form IsForm
pair_form b (Signed negative cost) rest some h = absurd h
pair_form b (Pulsed k index cost) rest some h = absurd h
pair_form b (Coded t s x y) rest some h = absurd h
pair_form b (Paired t negative cost x) rest some h = absurd h
pair_form b (Both x y) rest some h = record { read = sides_read b Double x y rest some h.0 h.1; shaped = (side_is b x some h.0, side_is b y some h.1) }

stereo_by : (b : Band) (ns : List Node) (t : Bool) → nat_eq b.n 2 ≡ t
    → read_stereo b.n b.level ns ≡ (if t then read_duo b.n b.level (front ns) (drop 1 ns) else read_sides b.n b.level (Turned (cut_in (front ns)) (turned_in (front ns))) (drop 1 ns))
unfolding read_stereo
stereo_by b ns t e = ap (λ z. if z then read_duo b.n b.level (front ns) (drop 1 ns) else read_sides b.n b.level (Turned (cut_in (front ns)) (turned_in (front ns))) (drop 1 ns)) e

duo_read : (b : Band) (t : Theta) (negative : Bool) (cost : ℤ) (x : Tree) (rest : List Node) → 1 ≤ b.n → IsChannelTree b x
    → read_duo b.n b.level (angle_node t false) (nodes.Sign negative ∷ (nodes_of x ++ rest)) ≡ form_as (Duo (cut_of t false) t.inversion negative (side_of x)) rest
unfolding read_duo cut_in turned_in sign_in front
duo_read b t negative cost x rest some h = ap (λ z. form_as (Duo (cut_of t false) t.inversion negative z.side) z.rest) (side_reads b x rest some h).read

turned_read : (b : Band) (t : Theta) (s : Bool) (x y : Tree) (rest : List Node) → 1 ≤ b.n → IsChannelTree b x → IsChannelTree b y
    → read_sides b.n b.level (Turned (cut_in (angle_node t s)) (turned_in (angle_node t s))) ((nodes_of x ++ nodes_of y) ++ rest) ≡ form_as (Turned (cut_of t s) t.inversion (side_of x) (side_of y)) rest
unfolding cut_in turned_in
turned_read b t s x y rest some h k = sides_read b (Turned (cut_of t s) t.inversion) x y rest some h k

stereo_form_read : (b : Band) (tree : Tree) (rest : List Node) → 1 ≤ b.n → IsStereo b tree → IsFormRead (read_stereo b.n b.level (nodes_of tree ++ rest)) b.n rest (stereo_form tree)
unfolding IsStereo stereo_form IsForm front
stereo_form_read b (Signed negative cost) rest some h = absurd h
stereo_form_read b (Pulsed k index cost) rest some h = absurd h
stereo_form_read b (Both x y) rest some h = absurd h
stereo_form_read b (Coded t s x y) rest some h =
    let e : b.n ≢ 2 = h.0 in
    let test : nat_eq b.n 2 ≡ false = grind (arith, nat_tests, e) in
    record {
      read = stereo_by b (nodes_of (Coded t s x y) ++ rest) false test ∙ turned_read b t s x y rest some h.2 h.3;
      shaped = (h.0, angle_is t.theta h.1, side_is b x some h.2, side_is b y some h.3);
    }
stereo_form_read b (Paired t negative cost x) rest some h =
    let e : b.n ≡ 2 = h.0 in
    let test : nat_eq b.n 2 ≡ true = grind (arith, nat_tests, e) in
    record {
      read = stereo_by b (nodes_of (Paired t negative cost x) ++ rest) true test ∙ duo_read b t negative cost x rest some h.2;
      shaped = (h.0, angle_is t.theta h.1, side_is b x some h.2);
    }

single_read : (b : Band) (tree : Tree) (rest : List Node) → 1 ≤ b.n → IsChannelTree b tree → IsFormRead (read_single b.n b.level (nodes_of tree ++ rest)) b.n rest (Single (side_of tree))
unfolding read_single IsForm
single_read b tree rest some h = record { read = ap (λ z. form_as (Single z.side) z.rest) (side_reads b tree rest some h).read; shaped = side_is b tree some h }

-- each band of a frame
pub form_reads : (b : Band) (dual : Bool) (channels : ℕ) (tree : Tree) (rest : List Node) → 1 ≤ b.n → IsBandTree b dual channels tree
    → IsFormRead (read_form (is_two b dual channels) channels b.n b.level (nodes_of tree ++ rest)) b.n rest (form_of (is_two b dual channels) channels tree)
unfolding IsBandTree read_form form_of
form_reads b dual channels tree rest some h = by_two (is_two b dual channels) h
  where
    by_channels : (c : Bool) → ByTest c (IsStereo b tree) (IsChannelTree b tree)
        → IsFormRead (if c then read_stereo b.n b.level (nodes_of tree ++ rest) else read_single b.n b.level (nodes_of tree ++ rest)) b.n rest (if c then stereo_form tree else Single (side_of tree))
    by_channels true h = stereo_form_read b tree rest some h
    by_channels false h = single_read b tree rest some h

    by_two : (t : Bool) → ByTest t (IsPair b tree) (ByTest (nat_eq channels 2) (IsStereo b tree) (IsChannelTree b tree))
        → IsFormRead (if t then read_sides b.n b.level Double (nodes_of tree ++ rest) else (if nat_eq channels 2 then read_stereo b.n b.level (nodes_of tree ++ rest) else read_single b.n b.level (nodes_of tree ++ rest)))
        b.n rest (if t then stereo_form tree else (if nat_eq channels 2 then stereo_form tree else Single (side_of tree)))
    by_two true h = pair_form b tree rest some h
    by_two false h = by_channels (nat_eq channels 2) h
