-- The shape of a band's tree: what the shapes of the band rest on (RFC 6716, section 4.3.4).
use Rattle.std.specs.Prelude.{◌≡◌, ◌≢◌, ℕ, zero, suc, ◌+◌, ◌/◌, ◌%◌, ◌^◌, ◌<◌, ◌≤◌, Bool, true, false, nat_eq, List, [], ◌∷◌, length, ⊤}
use Rattle.band_plan.specs.declared.channels.Band.{Band}
use Rattle.band_plan.specs.declared.orders.Theta.{Theta}
use Rattle.band_plan.specs.declared.symbols.BandSettings.{BandSettings}
use Rattle.band_plan.specs.declared.symbols.BandSymbols.{BandSymbols}
use Rattle.band_plan.specs.Angles.{IsTheta}
use Rattle.band_plan.specs.Plans.{Planned, AreSettings, band_of, is_two, all_nodes}
use Rattle.band_plan.specs.Trees.{Tree, Signed, Pulsed, Split, Paired, Both}
use Rattle.celt_base.specs.declared.kind.Kind.{Kind}
use Rattle.pulse_vectors.specs.Vectors.{count_of}

-- a vector of n coefficients: its pulses and its place among those with so many
pub record IsVector (n k index : ℕ) : Type 0 where
  pub few : k ≤ 128
  pub none : k ≡ 0 → index ≡ 0
  pub place : 1 ≤ k → index < count_of n k
  pub fits : count_of n k < 2 ^ 32

-- the angle of a part, whose halves are equal
pub record IsHalved (n : ℕ) (t : Theta) : Type 0 where
  pub more : 2 < n
  pub even : n % 2 ≡ 0
  pub theta : IsTheta t.theta
  pub inversion : t.inversion ≡ false

-- A part of this level and size.
unfoldable pub IsPart : Tree → ℕ → ℕ → Type 0
IsPart (Pulsed k index cost) level n = IsVector n k index
IsPart (Split t second_first x y) zero n = ⊥
IsPart (Split t second_first x y) (suc level) n = IsHalved n t × IsPart x level (n / 2) × IsPart y level (n / 2)
IsPart (Signed negative cost) level n = ⊥
IsPart (Paired t negative cost x) level n = ⊥
IsPart (Both x y) level n = ⊥

-- the one of two facts that a test chooses
abbrev pub ByTest : Bool → Type 0 → Type 0 → Type 0
ByTest true first second = first
ByTest false first second = second

unfoldable pub IsSign : Tree → Type 0
IsSign (Signed negative cost) = ⊤
IsSign tree = ⊥

-- a band of one channel
unfoldable pub IsChannel : Band → Tree → Type 0
IsChannel b tree = ByTest (nat_eq b.n 1) (IsSign tree) (IsPart tree b.level b.n)

-- mid and side: of two coefficients one vector, of more two
unfoldable pub IsStereo : Band → Tree → Type 0
IsStereo b (Paired t negative cost x) = (b.n ≡ 2) × IsTheta t.theta × IsChannel b x
IsStereo b (Split t second_first x y) = (b.n ≢ 2) × IsTheta t.theta × IsChannel b x × IsChannel b y
IsStereo b tree = ⊥

unfoldable pub IsPair : Band → Tree → Type 0
IsPair b (Both x y) = IsChannel b x × IsChannel b y
IsPair b tree = ⊥

unfoldable pub IsBandTree : Band → Bool → ℕ → Tree → Type 0
IsBandTree b dual channels tree =
    ByTest (is_two b dual channels) (IsPair b tree) (ByTest (nat_eq channels 2) (IsStereo b tree) (IsChannel b tree))

-- The trees of a frame's bands, one after the other.
unfoldable pub AreBandTrees : Kind → BandSettings → ℕ → Bool → ℕ → List Planned → Type 0
AreBandTrees kind settings intensity dual band [] = ⊤
AreBandTrees kind settings intensity dual band (plan ∷ plans) =
    IsBandTree (band_of kind settings intensity band) dual kind.channels plan.tree × AreBandTrees kind settings intensity dual (band + 1) plans

-- The nodes are those of a tree for each band of a frame of this kind.
pub record HasTrees (kind : Kind) (s : BandSymbols) : Type 0 where
  pub plans : List Planned
  pub bands : length plans ≡ kind.end
  pub nodes : s.nodes.items ≡ all_nodes plans
  pub trees : AreBandTrees kind s.settings s.intensity s.dual 0 plans
  pub settings : AreSettings kind s.settings
  pub mono : kind.channels ≡ 1 → s.dual ≡ false
