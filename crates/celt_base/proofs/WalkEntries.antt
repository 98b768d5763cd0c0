-- What a walk over bands and channels keeps of an array of two channels and 21 bands: at its start, and where an entry is
-- written.
use Rattle.std.proofs.Common.{ℕ, zero, suc, ◌<◌, ◌≤◌, IsTrue, List, [], length, get_or, set, replicate, inl, inr, sym, subst, arith}
use Rattle.std.proofs.lemmas.Bool.{cases_eq}
use Rattle.std.proofs.lemmas.List.{get_or-set_same, get_or-set_other}
use Rattle.celt_base.specs.Ends.{is_band_end}
use Rattle.celt_base.specs.WalkCalls.{CoderCalls, ChooserCalls}
use Rattle.celt_base.specs.WalkScripts.{Script}
use Rattle.celt_base.proofs.BandEnds.{band_end_most}
use Rattle.celt_base.proofs.WalkTables.{AtBand, AtEntry, first_band, blank_array, room_array}

-- at the first band of an array of blanks
pub at_start : {C H T : Type 0} {coder : CoderCalls C} {chooser : ChooserCalls H} {script : ℕ → ℕ → Script T} {c : C} {h : H} (blank : T) (channels bands : ℕ)
    → channels ≤ 2
    → IsTrue (is_band_end bands)
    → AtBand coder chooser script channels bands blank (replicate 2 (replicate 21 blank)) c h c h 0
at_start blank channels bands two ended =
    first_band (room_array 2 21 channels bands blank two (band_end_most bands ended)) (blank_array 2 21 blank)

-- what each entry keeps is kept where one is written
pub entry_kept : {T : Type 0} (Keeps : ℕ → T → Type 0) (blank value : T) (array : List (List T)) (channel band : ℕ)
    → channel < length array
    → band < length (get_or array channel [])
    → Keeps band value
    → ((c b : ℕ) → Keeps b (get_or (get_or array c []) b blank))
    → (c b : ℕ)
    → Keeps b (get_or (get_or (set array channel (set (get_or array channel []) band value)) c []) b blank)
entry_kept Keeps blank value array channel band in_array in_band keeps kept c b =
    elim (cases_eq c channel) [
      | inl same ↦
          subst (λ o. Keeps b (get_or (get_or (set array channel (set (get_or array channel []) band value)) o []) b blank)) (sym same)
          (subst (λ row. Keeps b (get_or row b blank)) (sym (get_or-set_same array channel (set (get_or array channel []) band value) [] in_array))
          (elim (cases_eq b band) [
            | inl here ↦
                subst (λ p. Keeps p (get_or (set (get_or array channel []) band value) p blank)) (sym here)
                (subst (Keeps band) (sym (get_or-set_same (get_or array channel []) band value blank in_band)) keeps)
            | inr away ↦ subst (Keeps b) (sym (get_or-set_other (get_or array channel []) band b value blank away)) (kept channel b)
          ]))
      | inr apart ↦
          subst (λ row. Keeps b (get_or row b blank)) (sym (get_or-set_other array channel c (set (get_or array channel []) band value) [] apart)) (kept c b)
    ]

-- the same on a walk
pub entry_at : {C H T : Type 0} {coder : CoderCalls C} {chooser : ChooserCalls H} {script : ℕ → ℕ → Script T} {channels bands : ℕ} {blank : T} {array : List (List T)} {c d : C} {h k : H} {band channel : ℕ} (Keeps : ℕ → T → Type 0) (value : T)
    → AtEntry coder chooser script channels bands blank array c h d k band channel
    → channel < channels
    → Keeps band value
    → ((c b : ℕ) → Keeps b (get_or (get_or array c []) b blank))
    → (c b : ℕ)
    → Keeps b (get_or (get_or (set array channel (set (get_or array channel []) band value)) c []) b blank)
entry_at {blank = blank} {array = array} {band = band} {channel = channel} Keeps value at below keeps kept =
    let fit = at.room.channels_fit in
    let wide = at.room.bands_fit channel below in
    let last = at.bands_left_is in
    entry_kept Keeps blank value array channel band (omega (arith, fit)) (omega (arith, wide, last)) keeps kept

row_kept : {T : Type 0} (Keeps : ℕ → T → Type 0) (blank : T) (n from b : ℕ) → ((b : ℕ) → Keeps b blank) → Keeps from (get_or (replicate n blank) b blank)
row_kept Keeps blank zero from b keeps = keeps from
row_kept Keeps blank (suc n) from zero keeps = keeps from
row_kept Keeps blank (suc n) from (suc b) keeps = row_kept Keeps blank n from b keeps

-- an array of blanks
pub blank_kept : {T : Type 0} (Keeps : ℕ → T → Type 0) (blank : T)
    → ((b : ℕ) → Keeps b blank)
    → (c b : ℕ)
    → Keeps b (get_or (get_or (replicate 2 (replicate 21 blank)) c []) b blank)
blank_kept Keeps blank keeps zero b = row_kept Keeps blank 21 b b keeps
blank_kept Keeps blank keeps (suc zero) b = row_kept Keeps blank 21 b b keeps
blank_kept Keeps blank keeps (suc (suc c)) b = keeps b
