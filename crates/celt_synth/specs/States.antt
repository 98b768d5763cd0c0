-- What a decoder keeps from frame to frame.
use Rattle.std.specs.Prelude.{ℕ, ℤ, pos, List, replicate}
use Rattle.std.proofs.Common.{arith}
use Rattle.celt_base.specs.declared.state.Setting.{Setting}
use Rattle.celt_synth.specs.Rows.{floor}
use Rattle.celt_synth.specs.Signals.{Channel}

-- The energies of the last frame and of the two frames before, by channels and bands; the noise's seed; the range of the
-- last frame; the post-filter's settings of the frame before and of the last one; and both channels. A stream of one
-- channel has the left one alone.
pub record State : Type 0 where
  pub energies : List (List ℤ)
  pub older1 : List (List ℤ)
  pub older2 : List (List ℤ)
  pub seed : ℕ
  pub range : ℕ
  pub before : Setting
  pub now : Setting
  pub left : Channel
  pub right : Channel

-- the setting that is off
abbrev pub off : Setting
off = record { period = 15; gain = 0; tapset = 0; least_period = omega arith; most_period = omega arith; most_gain = omega arith; most_tapset = omega arith }

abbrev pub quiet : Channel
quiet = record { kept = record { history = replicate 1024 (pos 0); overlap = replicate 120 (pos 0) }; memory = pos 0 }

-- the state before the first frame
unfoldable pub start : State
start = record {
  energies = replicate 2 (replicate 21 (pos 0));
  older1 = replicate 2 (replicate 21 floor);
  older2 = replicate 2 (replicate 21 floor);
  seed = 0;
  range = 0;
  before = off;
  now = off;
  left = quiet;
  right = quiet;
}
