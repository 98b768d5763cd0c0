-- The bands of a frame: what each may have, and their questions in order (RFC 6716, sections 4.3.4 and 4.4).
use Rattle.std.specs.Prelude.{◌≡◌, ℕ, zero, suc, ◌+◌, ◌-◌, ◌*◌, ◌^◌, ◌<◌, ◌≤◌, min, Bool, false, ◌&&◌, ◌||◌, if◌then◌else◌, nat_eq, nat_lt, List, [], ◌∷◌, ◌++◌, slice_index_or, ℤ, pos, ◌+ℤ◌, ◌-ℤ◌, int_div}
use Rattle.band_plan.specs.declared.channels.Band.{Band}
use Rattle.band_plan.specs.declared.orders.Share.{Share}
use Rattle.band_plan.specs.declared.symbols.BandSettings.{BandSettings}
use Rattle.band_plan.specs.declared.symbols.BandSymbols.{BandSymbols}
use Rattle.band_plan.specs.declared.symbols.Node.{Node}
use Rattle.band_plan.specs.Angles.{lesser, greater}
use Rattle.band_plan.specs.Channels.{two_script, stereo_script, channel_script}
use Rattle.band_plan.specs.Trees.{Tree, nodes_of}
use Rattle.celt_base.specs.declared.kind.Kind.{Kind}
use Rattle.celt_base.specs.declared.state.Allocation.{Allocation}
use Rattle.celt_base.specs.Paces.{tell_frac_of}
use Rattle.celt_base.specs.WalkCalls.{CoderCalls, ChooserCalls}
use Rattle.celt_base.specs.WalkScripts.{Script, Done, Look, and_then, each}
use Rattle.celt_base.specs.Walks.{Walked}
use Rattle.celt_tables.specs.Tables.{width_of, change_of}

-- What a band came to: its amount and the tree of its answers.
pub record Planned : Type 0 where
  pub amount : ℤ
  pub tree : Tree

abbrev pub pulses_of : Allocation → ℕ → ℤ
pulses_of a band = slice_index_or a.pulses band (pos 0)

-- what the bands below this one were to have
unfoldable pub sum_below : Allocation → ℕ → ℤ
sum_below a zero = pos 0
sum_below a (suc band) = sum_below a band +ℤ pulses_of a band

-- The balance before a band: what the bands below were to have, less what was used since the first.
unfoldable pub balance_of : Allocation → ℕ → ℕ → ℕ → ℤ
balance_of a first band now = ((a.balance +ℤ sum_below a band) +ℤ pos first) -ℤ pos now

-- What a band has of a balance; the last bands share it by three.
unfoldable pub amount_of : Allocation → ℕ → ℤ → ℤ → ℤ
amount_of a band left balance =
    if nat_lt band a.coded
    then greater (pos 0) (lesser (pos 16383) (lesser (left +ℤ pos 1) (pulses_of a band +ℤ int_div balance (pos (min 3 (a.coded - band))))))
    else pos 0

-- what remains of the frame at a band
abbrev pub left_of : ℤ → ℕ → ℤ
left_of total now = (total -ℤ pos now) -ℤ pos 1

abbrev pub share_by : Allocation → ℤ → ℤ → ℕ → Share
share_by a left balance band = record { bits = amount_of a band left balance; left = left }

unfoldable pub share_of : Allocation → ℤ → ℕ → ℕ → ℕ → Share
share_of a total first band now = share_by a (left_of total now) (balance_of a first band now) band

unfoldable pub frame_blocks : Kind → Bool → ℕ
frame_blocks kind transient = if transient then 2 ^ kind.lm else 1

-- a band of a frame
unfoldable pub band_of : Kind → BandSettings → ℕ → ℕ → Band
band_of kind settings intensity band = record {
  band = band;
  level = kind.lm + 1;
  n = width_of band * 2 ^ kind.lm;
  blocks = frame_blocks kind settings.transient;
  tf = slice_index_or settings.tf band (pos 0);
  intensity = intensity;
}

-- In dual stereo below the band of intensity, and in stereo of one coefficient, each channel has half the bits.
unfoldable pub is_two : Band → Bool → ℕ → Bool
is_two b dual channels = (dual && nat_lt b.band b.intensity) || (nat_eq channels 2 && nat_eq b.n 1)

abbrev pub half_share : Share → Share
half_share s = record { bits = int_div s.bits (pos 2); left = s.left }

unfoldable pub band_script : Band → Bool → ℕ → Share → Script Tree
band_script b dual channels s =
    if is_two b dual channels
    then two_script b (int_div s.bits (pos 2)) s.left
    else (if nat_eq channels 2 then stereo_script b s else channel_script b 0 s)

unfoldable pub planned_at : Kind → BandSettings → Allocation → ℤ → ℕ → ℕ → ℕ → Script Planned
planned_at kind settings a total first band now =
    and_then (band_script (band_of kind settings a.intensity band) a.dual kind.channels (share_of a total first band now))
    (λ tree. Done (record { amount = (share_of a total first band now).bits; tree = tree }))

-- one band, whose amount depends on the bits that were used before it
unfoldable pub one_band : Kind → BandSettings → Allocation → ℤ → ℕ → ℕ → List Planned → Script Planned
one_band kind settings a total first band before = Look (λ pace. planned_at kind settings a total first band (tell_frac_of pace))

unfoldable pub bands_script : Kind → BandSettings → Allocation → ℤ → Script (List Planned)
bands_script kind settings a total = Look (λ pace. each (one_band kind settings a total (tell_frac_of pace)) kind.end 0 [])

-- the nodes of all bands, and the amount of each
unfoldable pub all_nodes : List Planned → List Node
all_nodes [] = []
all_nodes (plan ∷ plans) = nodes_of plan.tree ++ all_nodes plans

unfoldable pub amount_at : List Planned → ℕ → ℤ
amount_at [] band = pos 0
amount_at (plan ∷ plans) zero = plan.amount
amount_at (plan ∷ plans) (suc band) = amount_at plans band

-- The symbols hold these bands.
pub record Holds (s : BandSymbols) (settings : BandSettings) (a : Allocation) (plans : List Planned) : Type 0 where
  pub settings_are : s.settings ≡ settings
  pub coded : s.coded ≡ a.coded
  pub intensity : s.intensity ≡ a.intensity
  pub dual : s.dual ≡ a.dual
  pub amounts : (band : ℕ) → slice_index_or s.amounts band (pos 0) ≡ amount_at plans band
  pub nodes : s.nodes.items ≡ all_nodes plans

-- A walk of all bands that left them in the symbols.
pub record WalkedBands {C H : Type 0} (coder : CoderCalls C) (chooser : ChooserCalls H) (kind : Kind) (settings : BandSettings) (a : Allocation) (total : ℤ)
    (s : BandSymbols) (c : C) (h : H) (d : C) (k : H) : Type 0 where
  pub plans : List Planned
  pub walked : Walked coder chooser (bands_script kind settings a total) plans c h d k
  pub holds : Holds s settings a plans

-- A time-frequency change that the tables have for this size.
pub record IsChange (lm : ℕ) (transient : Bool) (change : ℤ) : Type 0 where
  pub select : Bool
  pub flag : Bool
  pub value : change ≡ change_of lm transient select flag

-- The settings that a frame of this kind may have: short blocks from 240 samples on, and changes of the tables.
pub record AreSettings (kind : Kind) (settings : BandSettings) : Type 0 where
  pub spread : settings.spread ≤ 3
  pub long : kind.lm ≡ 0 → settings.transient ≡ false
  pub changes : (band : ℕ) → band < kind.end → IsChange kind.lm settings.transient (slice_index_or settings.tf band (pos 0))

-- A walk of one band that came to this amount and added its nodes.
pub record CodedBand {C H : Type 0} (coder : CoderCalls C) (chooser : ChooserCalls H) (script : Script Planned) (amount : ℤ)
    (old new : List Node) (c : C) (h : H) (d : C) (k : H) : Type 0 where
  pub plan : Planned
  pub walked : Walked coder chooser script plan c h d k
  pub amount_is : amount ≡ plan.amount
  pub nodes : new ≡ old ++ nodes_of plan.tree

-- A walk of all bands that left these nodes and amounts.
pub record AreWalked {C H : Type 0} (coder : CoderCalls C) (chooser : ChooserCalls H) (kind : Kind) (settings : BandSettings) (a : Allocation) (total : ℤ)
    (nodes : List Node) (amounts : List ℤ) (c : C) (h : H) (d : C) (k : H) : Type 0 where
  pub plans : List Planned
  pub walked : Walked coder chooser (bands_script kind settings a total) plans c h d k
  pub nodes_are : nodes ≡ all_nodes plans
  pub amounts_are : (band : ℕ) → slice_index_or amounts band (pos 0) ≡ amount_at plans band
