-- How many nodes the trees have.
use Rattle.std.proofs.Common.{ℕ, zero, suc, ◌/◌, ◌≤◌, Bool, true, false, length, length-append, arith, nat_eq}
use Rattle.band_plan.specs.declared.channels.Band.{Band}
use Rattle.band_plan.specs.declared.symbols.BandSettings.{BandSettings}
use Rattle.band_plan.specs.Parts.{most_nodes}
use Rattle.band_plan.specs.Plans.{band_of, is_two}
use Rattle.band_plan.specs.Shapes.{IsPart, ByTest, IsSign, IsChannel, IsStereo, IsPair, IsBandTree}
use Rattle.band_plan.specs.Trees.{Tree, Signed, Pulsed, Split, Paired, Both, nodes_of}
use Rattle.band_plan.proofs.PartBounds.{most_some}
use Rattle.celt_base.specs.declared.kind.Kind.{Kind}

part_nodes : (tree : Tree) (level n : ℕ) → IsPart tree level n → length (nodes_of tree) ≤ most_nodes level
unfolding IsPart most_nodes
part_nodes (Pulsed k index cost) level n is = most_some level
part_nodes (Split t second x y) zero n is = absurd is
part_nodes (Split t second x y) (suc level) n is =
    let a = part_nodes x level (n / 2) is.1 in
    let b = part_nodes y level (n / 2) is.2 in
    let l = length-append (nodes_of x) (nodes_of y) in
    omega (arith, a, b, l)
part_nodes (Signed negative cost) level n is = absurd is
part_nodes (Paired t negative cost x) level n is = absurd is
part_nodes (Both x y) level n is = absurd is

most_level : (level : ℕ) → level ≤ 4 → most_nodes level ≤ 31
unfolding most_nodes
most_level zero low = omega arith
most_level (suc zero) low = omega arith
most_level (suc (suc zero)) low = omega arith
most_level (suc (suc (suc zero))) low = omega arith
most_level (suc (suc (suc (suc zero)))) low = omega arith
most_level (suc (suc (suc (suc (suc level))))) low = absurd (omega (arith, low))

sign_nodes : (tree : Tree) → IsSign tree → length (nodes_of tree) ≤ 31
unfolding IsSign
sign_nodes (Signed negative cost) is = omega arith
sign_nodes (Pulsed k index cost) is = absurd is
sign_nodes (Split t second x y) is = absurd is
sign_nodes (Paired t negative cost x) is = absurd is
sign_nodes (Both x y) is = absurd is

channel_nodes : (b : Band) (tree : Tree) → b.level ≤ 4 → IsChannel b tree → length (nodes_of tree) ≤ 31
unfolding IsChannel
channel_nodes b tree low is = by_test (nat_eq b.n 1) is
  where
    by_test : (one : Bool) → ByTest one (IsSign tree) (IsPart tree b.level b.n) → length (nodes_of tree) ≤ 31
    by_test true is = sign_nodes tree is
    by_test false is =
        let a = part_nodes tree b.level b.n is in
        let l = most_level b.level low in
        omega (arith, a, l)

pair_nodes : (b : Band) (tree : Tree) → b.level ≤ 4 → IsPair b tree → length (nodes_of tree) ≤ 63
unfolding IsPair
pair_nodes b (Both x y) low is =
    let p = channel_nodes b x low is.0 in
    let q = channel_nodes b y low is.1 in
    let l = length-append (nodes_of x) (nodes_of y) in
    omega (arith, p, q, l)
pair_nodes b (Signed negative cost) low is = absurd is
pair_nodes b (Pulsed k index cost) low is = absurd is
pair_nodes b (Split t second x y) low is = absurd is
pair_nodes b (Paired t negative cost x) low is = absurd is

stereo_nodes : (b : Band) (tree : Tree) → b.level ≤ 4 → IsStereo b tree → length (nodes_of tree) ≤ 63
unfolding IsStereo
stereo_nodes b (Paired t negative cost x) low is = let p = channel_nodes b x low is.2 in omega (arith, p)
stereo_nodes b (Split t second x y) low is =
    let p = channel_nodes b x low is.2 in
    let q = channel_nodes b y low is.3 in
    let l = length-append (nodes_of x) (nodes_of y) in
    omega (arith, p, q, l)
stereo_nodes b (Signed negative cost) low is = absurd is
stereo_nodes b (Pulsed k index cost) low is = absurd is
stereo_nodes b (Both x y) low is = absurd is

tree_nodes : (b : Band) (dual : Bool) (channels : ℕ) (tree : Tree) → b.level ≤ 4 → IsBandTree b dual channels tree → length (nodes_of tree) ≤ 63
unfolding IsBandTree
tree_nodes b dual channels tree low is = by_two (is_two b dual channels) is
  where
    by_channels : (two : Bool) → ByTest two (IsStereo b tree) (IsChannel b tree) → length (nodes_of tree) ≤ 63
    by_channels true is = stereo_nodes b tree low is
    by_channels false is = let p = channel_nodes b tree low is in omega (arith, p)

    by_two : (two : Bool) → ByTest two (IsPair b tree) (ByTest (nat_eq channels 2) (IsStereo b tree) (IsChannel b tree)) → length (nodes_of tree) ≤ 63
    by_two true is = pair_nodes b tree low is
    by_two false is = by_channels (nat_eq channels 2) is

pub band_nodes : (kind : Kind) (settings : BandSettings) (intensity band : ℕ) (dual : Bool) (tree : Tree)
    → IsBandTree (band_of kind settings intensity band) dual kind.channels tree → length (nodes_of tree) ≤ 63
unfolding band_of
band_nodes kind settings intensity band dual tree is =
    let low = kind.sized in
    tree_nodes (band_of kind settings intensity band) dual kind.channels tree (omega (arith, low)) is
