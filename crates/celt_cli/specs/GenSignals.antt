-- The samples that `gen` encodes, as a list, and the windows of them.
use Rattle.std.specs.Prelude.{ℕ, ℤ, ◌-◌, ◌*◌, List, [], ◌∷◌}
use Rattle.std.specs.List.{flat_map, range_with_len}
use Rattle.celt_session.specs.Windows.{window_of}
use Rattle.celt_cli.specs.declared.generator.GenSettings.{GenSettings}
use Rattle.celt_cli.specs.Generator.{left_of, right_of}

-- so many pairs: with the 120 that a decoder drops they fill the frames of 960
abbrev pub pairs_of : GenSettings → ℕ
pairs_of settings = 960 * settings.frames - 120

abbrev pub pair_items : ℕ → ℕ → List ℤ
pair_items seed number = left_of seed number ∷ right_of seed number ∷ []

-- the samples, channels interleaved
unfoldable pub samples_for : GenSettings → List ℤ
samples_for settings = flat_map (pair_items settings.seed) (range_with_len 0 (pairs_of settings))

-- the window of frame t
abbrev pub window_for : GenSettings → ℕ → List ℤ
window_for settings t = window_of 2 960 (samples_for settings) t
