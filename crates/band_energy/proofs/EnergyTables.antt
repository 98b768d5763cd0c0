-- Walks over the bands and channels of a kind of frame.
use Rattle.std.proofs.Common.{ℕ, List}
use Rattle.celt_base.specs.declared.kind.Kind.{Kind}
use Rattle.celt_base.specs.WalkCalls.{CoderCalls, ChooserCalls}
use Rattle.celt_base.specs.WalkScripts.{Script, table}
use Rattle.celt_base.specs.WalkTables.{WalkedTable}
use Rattle.band_energy.specs.EnergyRows.{WalkedRows}

-- a table that was walked
pub walked_rows : {C H T : Type 0} {coder : CoderCalls C} {chooser : ChooserCalls H} {script : ℕ → ℕ → Script T} {c d : C} {h k : H} (kind : Kind) {blank : T} {array : List (List T)}
    → WalkedTable coder chooser script kind.channels kind.end blank array c h d k
    → WalkedRows coder chooser (table script kind.channels kind.end) kind blank array c h d k
walked_rows kind w = record { rows = w.rows; walked = w.walked; holds = w.holds; bands_are = w.bands_are; channels_are = w.channels_are }
