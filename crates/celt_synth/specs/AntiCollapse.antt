-- Anti-collapse over a frame (RFC 6716, 4.3.5): band by band, the channels inside each.
use Rattle.std.specs.Prelude.{◌≡◌, ℕ, zero, suc, ◌+◌, ◌*◌, ◌^◌, ◌<◌, ◌≤ℤ◌, ◌<ℤ◌, nat_eq, Bool, if◌then◌else◌, ℤ, pos, unsigned_abs, List, [], ◌++◌, take, drop, get_or}
use Rattle.celt_base.specs.Energies.{AreEnergies}
use Rattle.celt_tables.specs.Tables.{edge_of, width_of}
use Rattle.celt_synth.specs.Blocks.{blocks_of}
use Rattle.celt_synth.specs.Collapse.{level, rise, uncollapsed, seed_uncollapsed}
use Rattle.celt_synth.specs.Rows.{entry, older_at}
use Rattle.celt_synth.specs.Shapes.{Shapes}
use Rattle.celt_synth.specs.declared.anti_collapse.Grounds.{Grounds}

-- the level of the noise in band b of channel c
unfoldable pub level_at : Grounds → ℕ → ℕ → ℕ
level_at g c b =
    level g.kind.lm (blocks_of g.kind * width_of b) (unsigned_abs (get_or g.pulses b (pos 0)))
    (rise (entry g.energies c b) (older_at g.kind.channels g.older1 c b) (older_at g.kind.channels g.older2 c b))

abbrev pub mask_at : Grounds → ℕ → ℕ → ℕ
mask_at g c b = get_or (get_or g.masks c []) b 0

-- where band b begins in the shapes of a frame
abbrev pub band_start : Grounds → ℕ → ℕ
band_start g b = blocks_of g.kind * edge_of b

-- the shapes of channel c with the empty blocks of band b filled, and the noise's state behind it
unfoldable pub band_uncollapsed : Grounds → ℕ → ℕ → ℕ → List ℤ → List ℤ
band_uncollapsed g c b seed xs =
    take (band_start g b) xs
    ++ (uncollapsed (blocks_of g.kind) (width_of b) (mask_at g c b) (level_at g c b) seed (take (blocks_of g.kind * width_of b) (drop (band_start g b) xs))
    ++ drop (band_start g (b + 1)) xs)

unfoldable pub seed_behind : Grounds → ℕ → ℕ → ℕ → ℕ
seed_behind g c b seed = seed_uncollapsed (blocks_of g.kind) (width_of b) (mask_at g c b) seed

abbrev pub left_uncollapsed : Grounds → ℕ → Shapes → Shapes
left_uncollapsed g b s = record { left = band_uncollapsed g 0 b s.seed s.left; right = s.right; seed = seed_behind g 0 b s.seed }

abbrev pub right_uncollapsed : Grounds → ℕ → Shapes → Shapes
right_uncollapsed g b s = record { left = s.left; right = band_uncollapsed g 1 b s.seed s.right; seed = seed_behind g 1 b s.seed }

-- band b of the frame's channels
unfoldable pub both_uncollapsed : Grounds → ℕ → Shapes → Shapes
both_uncollapsed g b s =
    if nat_eq g.kind.channels 2 then right_uncollapsed g b (left_uncollapsed g b s) else left_uncollapsed g b s

-- the bands below n
unfoldable pub all_uncollapsed : Grounds → ℕ → Shapes → Shapes
all_uncollapsed g zero s = s
all_uncollapsed g (suc n) s = both_uncollapsed g n (all_uncollapsed g n s)

-- the shapes of a frame that asks for it, or does not
unfoldable pub uncollapsed_if : Bool → Grounds → Shapes → Shapes
uncollapsed_if asks g s = if asks then all_uncollapsed g g.kind.end s else s

-- amounts of a frame, and energies in their range
pub record AreGrounds (g : Grounds) : Type 0 where
  pub least : (b : ℕ) → b < g.kind.end → pos 0 ≤ℤ get_or g.pulses b (pos 0)
  pub most : (b : ℕ) → b < g.kind.end → get_or g.pulses b (pos 0) <ℤ pos (2 ^ 20)
  pub energies : AreEnergies g.energies
  pub older1 : AreEnergies g.older1
  pub older2 : AreEnergies g.older2
