-- A walk whose values, a row for each band, were left in an array of channels.
use Rattle.std.specs.Prelude.{◌≡◌, ℕ, ◌^◌, ◌<◌, ◌≤◌, List, [], length, get_or, slice_index, ℤ, pos, unsigned_abs, Option, None, IfSome}
use Rattle.std.specs.List.{All}
use Rattle.celt_base.specs.declared.kind.Kind.{Kind}
use Rattle.celt_base.specs.WalkCalls.{CoderCalls, ChooserCalls}
use Rattle.celt_base.specs.WalkScripts.{Script}
use Rattle.celt_base.specs.WalkTables.{HoldsRows}
use Rattle.celt_base.specs.Walks.{Walked}

-- The walk came to rows of an entry for each channel, one row for each band. The array has these entries, and `blank`
-- beyond them.
pub record WalkedRows {C H T : Type 0} (coder : CoderCalls C) (chooser : ChooserCalls H) (script : Script (List (List T)))
    (kind : Kind) (blank : T) (array : List (List T)) (c : C) (h : H) (d : C) (k : H) : Type 0 where
  pub rows : List (List T)
  pub walked : Walked coder chooser script rows c h d k
  pub holds : HoldsRows blank array rows
  pub bands_are : length rows ≡ kind.end
  pub channels_are : All (λ row. length row ≡ kind.channels) rows

-- A coarse energy is at most 2^14 in size, as no answer of a question is greater.
abbrev pub AreCoarse : List (List ℤ) → Type 0
AreCoarse coarse = (channel band : ℕ) → unsigned_abs (get_or (get_or coarse channel []) band (pos 0)) ≤ 2 ^ 14

-- No band of the kind has more than eight bits for its fine energy.
abbrev pub HasFineBits : Kind → List ℕ → Type 0
HasFineBits kind bits = (band : ℕ) → band < kind.end → slice_index bits band ≤ 8

-- Each fine energy fits its band's bits.
abbrev pub FitsFineBits : List ℕ → List (List ℕ) → Type 0
FitsFineBits bits fine = (channel band : ℕ) → get_or (get_or fine channel []) band 0 < 2 ^ slice_index bits band

-- A last bit is 0 or 1, where there is one.
abbrev pub AreBits : List (List (Option ℕ)) → Type 0
AreBits last = (channel band : ℕ) → IfSome (get_or (get_or last channel []) band None) (λ bit. bit < 2)
