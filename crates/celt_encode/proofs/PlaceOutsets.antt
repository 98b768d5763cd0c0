-- The lists of an outset that an analysis comes to.
use Rattle.std.proofs.Common.{◌≡◌, ℕ, zero, suc, ◌-◌, ◌<◌, ◌≤◌, List, [], ◌∷◌, length, replicate, Bool, get_or, refl, arith, length-append}
use Rattle.std.proofs.lemmas.List.{length-replicate}
use Rattle.std.specs.Prelude.{ℤ, pos, not, slice_index_or}
use Rattle.std.proofs.lemmas.List.FromFn.{length-map-range_with_len}
use Rattle.celt_base.specs.declared.kind.Kind.{Kind}
use Rattle.fixed_math.proofs.ItemLemmas.{length-listed}
use Rattle.celt_analysis.specs.Analyses.{Analysis, target_in, height_in}
use Rattle.celt_synth.specs.Rows.{grid, greater_at, greater}
use Rattle.celt_encode.specs.Encoders.{EncoderState, outset_by, outset_for}
use Rattle.celt_encode.specs.Listening.{stands_out, targets_for}
use Rattle.celt_encode.specs.Places.{AreRows, HasRows}
use Rattle.celt_encode.specs.Units.{units_below, filled_up, unit_row, units_for}

filled_long : (xs : List ℤ) → 800 ≤ length (filled_up xs)
filled_long xs = omega (arith, length-append xs (replicate (800 - length xs) (pos 0)), length-replicate {A = ℤ} (800 - length xs) (pos 0))

unit_long : (kind : Kind) (spectrum : List ℤ) → 800 ≤ length (unit_row kind spectrum)
unfolding unit_row
unit_long kind spectrum = filled_long (units_below kind spectrum kind.end)

targets_are : (a : Analysis) → AreRows (targets_for a)
targets_are a = record { channels = refl; bands = by_channel }
  where
    by_channel : (channel : ℕ) → channel < 2 → length (get_or (targets_for a) channel []) ≡ 21
    by_channel zero below = length-listed 21 (target_in a 0)
    by_channel (suc zero) below = length-listed 21 (target_in a 1)
    by_channel (suc (suc n)) below = absurd (omega (arith, below))

pub rows_are : (kind : Kind) (len : ℕ) (first : Bool) (energies : List (List ℤ)) (a : Analysis) → AreRows energies → HasRows (outset_by kind len first energies a)
unfolding outset_by units_for
rows_are kind len first energies a are = record {
  boosts = length-map-range_with_len (stands_out kind.end (height_in a)) 0 21;
  energies = are;
  targets = targets_are a;
  units = by_channel;
}
  where
    by_channel : (channel : ℕ) → channel < 2 → 800 ≤ length (slice_index_or (unit_row kind a.left ∷ unit_row kind a.right ∷ []) channel [])
    by_channel zero below = unit_long kind a.left
    by_channel (suc zero) below = unit_long kind a.right
    by_channel (suc (suc n)) below = absurd (omega (arith, below))

grid_are : (f : ℕ → ℕ → ℤ) → AreRows (grid f)
grid_are f = record { channels = refl; bands = by_channel }
  where
    by_channel : (channel : ℕ) → channel < 2 → length (get_or (grid f) channel []) ≡ 21
    by_channel zero below = length-listed 21 (f 0)
    by_channel (suc zero) below = length-listed 21 (f 1)
    by_channel (suc (suc n)) below = absurd (omega (arith, below))

pub encoder_rows : (e : EncoderState) (a : Analysis) (len : ℕ) → HasRows (outset_for e a len)
encoder_rows e a len = rows_are e.kind len (not e.made) (greater e.kind.channels e.shared.energies) a (grid_are (greater_at e.kind.channels e.shared.energies))
