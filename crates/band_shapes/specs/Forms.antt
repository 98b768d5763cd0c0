-- What a band's nodes are: read from the list, and taken from a tree of band_plan.
use Rattle.std.specs.Prelude.{◌≡◌, ◌≢◌, ℕ, zero, suc, ◌≤◌, Bool, false, if◌then◌else◌, nat_eq, List, drop, pos}
use Rattle.celt_base.specs.declared.kind.Kind.{Kind}
use Rattle.band_plan.specs.declared.channels.Band.{Band}
use Rattle.band_plan.specs.declared.symbols.BandSettings.{BandSettings}
use Rattle.band_plan.specs.Plans.{band_of, is_two}
use Rattle.band_plan.specs.declared.symbols.Node.{Node}
use Rattle.band_plan.specs.declared.symbols.Node.TheVariants as nodes
use Rattle.band_plan.specs.Trees.{Tree, Signed, Pulsed, Split as Coded, Paired, Both}
use Rattle.band_shapes.specs.declared.node.Cut.{Cut}
use Rattle.band_shapes.specs.Tree.{Part, Read, front, read_part, IsAngle, IsPart}
use Rattle.band_shapes.specs.Placed.{cut_of, part_of}

-- a channel: the sign of its one coefficient, or a part
pub data Side : Type 0 where
  One : Bool → Side
  Many : Part → Side

-- a band: one channel; two, left and right; middle and side in the order of coding, with the angle and the inversion; of
-- two coefficients, the angle, the inversion, the side's sign, and the one vector
pub data Form : Type 0 where
  Single : Side → Form
  Double : Side → Side → Form
  Turned : Cut → Bool → Side → Side → Form
  Duo : Cut → Bool → Bool → Side → Form

pub record ReadSide : Type 0 where
  pub side : Side
  pub rest : List Node

pub record ReadForm : Type 0 where
  pub form : Form
  pub rest : List Node

unfoldable pub sign_in : Node → Bool
sign_in (nodes.Sign negative) = negative
sign_in (nodes.Theta theta second_first inversion) = false
sign_in (nodes.Leaf k index) = false

unfoldable pub cut_in : Node → Cut
cut_in (nodes.Theta theta second_first inversion) = record { theta = theta; second_first = second_first }
cut_in (nodes.Sign negative) = record { theta = pos 0; second_first = false }
cut_in (nodes.Leaf k index) = record { theta = pos 0; second_first = false }

unfoldable pub turned_in : Node → Bool
turned_in (nodes.Theta theta second_first inversion) = inversion
turned_in (nodes.Sign negative) = false
turned_in (nodes.Leaf k index) = false

abbrev pub many : Read → ReadSide
many r = record { side = Many r.part; rest = r.rest }

unfoldable pub read_side : ℕ → ℕ → List Node → ReadSide
read_side n level ns = if nat_eq n 1 then record { side = One (sign_in (front ns)); rest = drop 1 ns } else many (read_part level ns)

-- two channels, as these make a form
unfoldable pub read_sides : ℕ → ℕ → (Side → Side → Form) → List Node → ReadForm
read_sides n level make ns =
    let one = read_side n level ns in
    let two = read_side n level one.rest in
    record { form = make one.side two.side; rest = two.rest }

unfoldable pub read_duo : ℕ → ℕ → Node → List Node → ReadForm
read_duo n level node ns =
    let one = read_side n level (drop 1 ns) in
    record { form = Duo (cut_in node) (turned_in node) (sign_in (front ns)) one.side; rest = one.rest }

unfoldable pub read_single : ℕ → ℕ → List Node → ReadForm
read_single n level ns = let one = read_side n level ns in record { form = Single one.side; rest = one.rest }

unfoldable pub read_stereo : ℕ → ℕ → List Node → ReadForm
read_stereo n level ns =
    if nat_eq n 2
    then read_duo n level (front ns) (drop 1 ns)
    else read_sides n level (Turned (cut_in (front ns)) (turned_in (front ns))) (drop 1 ns)

-- `two` is is_two of band_plan
unfoldable pub read_form : Bool → ℕ → ℕ → ℕ → List Node → ReadForm
read_form two channels n level ns =
    if two then read_sides n level Double ns else (if nat_eq channels 2 then read_stereo n level ns else read_single n level ns)

-- the same of a tree
unfoldable pub side_of : Tree → Side
side_of (Signed negative cost) = One negative
side_of (Pulsed k index cost) = Many (part_of (Pulsed k index cost))
side_of (Coded t second_first x y) = Many (part_of (Coded t second_first x y))
side_of (Paired t negative cost x) = Many (part_of (Paired t negative cost x))
side_of (Both x y) = Many (part_of (Both x y))

unfoldable pub stereo_form : Tree → Form
stereo_form (Coded t second_first x y) = Turned (cut_of t second_first) t.inversion (side_of x) (side_of y)
stereo_form (Paired t negative cost x) = Duo (cut_of t false) t.inversion negative (side_of x)
stereo_form (Signed negative cost) = Single (side_of (Signed negative cost))
stereo_form (Pulsed k index cost) = Single (side_of (Pulsed k index cost))
stereo_form (Both x y) = Double (side_of x) (side_of y)

-- which form a tree has is said by the band alone, so a split of one channel is no stereo band
unfoldable pub form_of : Bool → ℕ → Tree → Form
form_of two channels tree =
    if two then stereo_form tree else (if nat_eq channels 2 then stereo_form tree else Single (side_of tree))

-- what its shapes rest on
unfoldable pub IsSide : ℕ → Side → Type 0
IsSide n (One negative) = n ≡ 1
IsSide n (Many part) = (2 ≤ n) × IsPart n part

unfoldable pub IsForm : ℕ → Form → Type 0
IsForm n (Single x) = IsSide n x
IsForm n (Double x y) = IsSide n x × IsSide n y
IsForm n (Turned cut inversion x y) = (n ≢ 2) × IsAngle cut.theta × IsSide n x × IsSide n y
IsForm n (Duo cut inversion negative x) = (n ≡ 2) × IsAngle cut.theta × IsSide n x

abbrev pub form_at : Kind → BandSettings → ℕ → Bool → ℕ → List Node → ReadForm
form_at kind settings intensity dual band ns =
    let b : Band = band_of kind settings intensity band in
    read_form (is_two b dual kind.channels) kind.channels b.n b.level ns

-- what is left of the nodes before a band
unfoldable pub left_before : Kind → BandSettings → ℕ → Bool → List Node → ℕ → List Node
left_before kind settings intensity dual ns zero = ns
left_before kind settings intensity dual ns (suc band) = (form_at kind settings intensity dual band (left_before kind settings intensity dual ns band)).rest
