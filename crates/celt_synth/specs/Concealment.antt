-- A concealed frame: its energies are lower than those before, and its shapes are noise.
use Rattle.std.specs.Prelude.{◌≡◌, ℕ, zero, suc, ◌+◌, ◌*◌, ◌^◌, ◌<◌, nat_eq, if◌then◌else◌, ℤ, pos, unsigned_abs, List, [], ◌++◌, take, length, All}
use Rattle.celt_base.specs.declared.kind.Kind.{Kind}
use Rattle.celt_tables.specs.Tables.{edge_of, width_of}
use Rattle.fixed_math.specs.Unit.{unit_of}
use Rattle.spread_fold.specs.Noise.{seed_after, noise_items}
use Rattle.celt_synth.specs.Blocks.{blocks_of}
use Rattle.celt_synth.specs.Rows.{greater, lowered}
use Rattle.celt_synth.specs.Shapes.{Shapes, shapes_of}

-- a band of n items is a unit vector of noise
unfoldable pub noise_band : ℕ → ℕ → List ℤ
noise_band n seed = unit_of (pos 32768) (noise_items n seed)

abbrev pub left_noise : ℕ → Shapes → Shapes
left_noise n s = record { left = s.left ++ noise_band n s.seed; right = s.right; seed = seed_after n s.seed }

abbrev pub right_noise : ℕ → Shapes → Shapes
right_noise n s = record { left = s.left; right = s.right ++ noise_band n s.seed; seed = seed_after n s.seed }

-- a band of n items in the frame's channels
unfoldable pub both_noise : Kind → ℕ → Shapes → Shapes
both_noise kind n s = if nat_eq kind.channels 2 then right_noise n (left_noise n s) else left_noise n s

-- the bands below n, one behind the other, channels inside
unfoldable pub noise_shapes : Kind → ℕ → ℕ → Shapes
noise_shapes kind zero seed = shapes_of [] [] seed
noise_shapes kind (suc n) seed = both_noise kind (blocks_of kind * width_of n) (noise_shapes kind n seed)

unfoldable pub concealed_energies : Kind → List (List ℤ) → List (List ℤ)
concealed_energies kind es = lowered kind.channels kind.end (greater kind.channels es)

-- a band of noise stands behind the bands before it
pub record IsNoiseBand (blocks b seed : ℕ) (old new : List ℤ) : Type 0 where
  pub value : take (blocks * edge_of (b + 1)) new ≡ take (blocks * edge_of b) old ++ noise_band (blocks * width_of b) seed
  pub count : length new ≡ length old
  pub sizes : All (λ v. unsigned_abs v < 2 ^ 20) new

-- the bands of noise below n stand in the channels' buffers
pub record AreNoise (kind : Kind) (n seed : ℕ) (left right : List ℤ) (state : ℕ) : Type 0 where
  pub left_is : take (blocks_of kind * edge_of n) left ≡ (noise_shapes kind n seed).left
  pub right_is : kind.channels ≡ 2 → take (blocks_of kind * edge_of n) right ≡ (noise_shapes kind n seed).right
  pub state_is : state ≡ (noise_shapes kind n seed).seed
  pub left_sizes : All (λ v. unsigned_abs v < 2 ^ 20) left
  pub right_sizes : All (λ v. unsigned_abs v < 2 ^ 20) right
