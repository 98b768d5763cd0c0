-- What an encoder and its decoder share after a frame. No sample and no shape stands in it.
use Rattle.std.specs.Prelude.{ℕ, nat_eq, Bool, if◌then◌else◌, ℤ, List}
use Rattle.celt_base.specs.declared.kind.Kind.{Kind}
use Rattle.celt_base.specs.declared.state.Setting.{Setting}
use Rattle.celt_base.specs.declared.state.Shared.{Shared}
use Rattle.celt_synth.specs.Concealment.{noise_shapes, concealed_energies}
use Rattle.celt_synth.specs.Rows.{greater, silenced, energies_after}
use Rattle.celt_synth.specs.States.{State, off}

-- the range of the last frame, its energies, the noise's seed, and the post-filter's settings of the frame before and of
-- the last one
pub record SharedState : Type 0 where
  pub range : ℕ
  pub energies : List (List ℤ)
  pub seed : ℕ
  pub before : Setting
  pub now : Setting

-- of a decoder's state, and as an encoder has it
abbrev pub shared_of : State → SharedState
shared_of s = record { range = s.range; energies = s.energies; seed = s.seed; before = s.before; now = s.now }

abbrev pub shared_in : Shared → SharedState
shared_in s = record { range = s.range; energies = s.energies; seed = s.seed; before = s.before; now = s.now }

-- What was read of a frame, as far as the frame step asks: `changed` is what its answers make of the energies before, and
-- `pulses` the eighths of a bit of each band's shape.
pub record Heard : Type 0 where
  pub silent : Bool
  pub transient : Bool
  pub collapse : Bool
  pub range : ℕ
  pub setting : Setting
  pub changed : List (List ℤ) → List (List ℤ)
  pub pulses : List ℤ

-- the energies of a silent frame: in mono first the greater of both channels, then the least
unfoldable pub silent_energies : Kind → List (List ℤ) → List (List ℤ)
silent_energies kind es = silenced kind.channels (greater kind.channels es)

-- the energies of a frame
unfoldable pub energies_in : Kind → Heard → List (List ℤ) → List (List ℤ)
energies_in kind heard es = if heard.silent then silent_energies kind es else heard.changed (greater kind.channels es)

-- silence sets the post-filter off
unfoldable pub setting_in : Heard → Setting
setting_in heard = if heard.silent then off else heard.setting

-- after a frame of these energies and this setting: a frame of 120 samples has the first fade alone, so its setting is
-- the one that the next frame fades to
abbrev pub shared_after : Kind → List (List ℤ) → ℕ → ℕ → Setting → SharedState → SharedState
shared_after kind es range seed setting s = record {
  range = range;
  energies = energies_after kind.channels kind.end es;
  seed = seed;
  before = if nat_eq kind.lm 0 then s.now else setting;
  now = setting;
}

-- after a frame that was read: the next seed is its range
unfoldable pub share : Kind → Heard → SharedState → SharedState
share kind heard s = shared_after kind (energies_in kind heard s.energies) heard.range heard.range (setting_in heard) s

-- after a concealed frame: the post-filter is off, the range 0, and the seed as the noise left it
unfoldable pub share_concealed : Kind → SharedState → SharedState
share_concealed kind s = shared_after kind (concealed_energies kind s.energies) 0 (noise_shapes kind kind.end s.seed).seed off s
