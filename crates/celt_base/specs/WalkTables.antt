-- Walks over bands and channels whose values are written into an array of channels, each with its bands.
use Rattle.std.specs.Prelude.{◌≡◌, ℕ, List, [], length, get_or}
use Rattle.std.specs.List.{All}
use Rattle.celt_base.specs.WalkCalls.{CoderCalls, ChooserCalls}
use Rattle.celt_base.specs.WalkScripts.{Script, table}
use Rattle.celt_base.specs.Walks.{Walked}

-- The array's entry of each channel and band is that of the rows, one row for each band; beyond them it is `blank`.
abbrev pub HoldsRows : {T : Type 0} → T → List (List T) → List (List T) → Type 0
HoldsRows blank array rows =
    (channel band : ℕ) → get_or (get_or array channel []) band blank ≡ get_or (get_or rows band []) channel blank

-- A walk of the table of scripts that left its values in the array.
pub record WalkedTable {C H T : Type 0} (coder : CoderCalls C) (chooser : ChooserCalls H) (script : ℕ → ℕ → Script T)
    (channels bands : ℕ) (blank : T) (array : List (List T)) (c : C) (h : H) (d : C) (k : H) : Type 0 where
  pub rows : List (List T)
  pub walked : Walked coder chooser (table script channels bands) rows c h d k
  pub holds : HoldsRows blank array rows
  pub bands_are : length rows ≡ bands
  pub channels_are : All (λ row. length row ≡ channels) rows
