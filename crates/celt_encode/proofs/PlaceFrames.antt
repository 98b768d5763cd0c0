-- The places of a whole frame.
use Rattle.std.proofs.Common.{◌≡◌, ℕ, ◌*◌, List, Bool, true, false, refl, ◌∙◌}
use Rattle.std.specs.Prelude.{ℤ, ◌<◌, ◌≤◌, slice_index}
use Rattle.celt_base.specs.declared.coder.Place.TheVariants.{Silence}
use Rattle.frame_symbols.specs.declared.fields.Amounts.{Amounts}
use Rattle.frame_symbols.specs.declared.fields.Opening.{Opening}
use Rattle.frame_symbols.specs.declared.fields.Shaping.{Shaping}
use Rattle.frame_symbols.specs.Frames.{ending_script, sound_script, unless_silent, frame_script}
use Rattle.celt_encode.specs.Outsets.{Outset}
use Rattle.celt_encode.specs.Places.{HasRows, IsPlace, IsTold, AllPlaces}
use Rattle.celt_encode.specs.Standing.{begun}
use Rattle.celt_encode.proofs.PlaceBands.{bands_keeps}
use Rattle.celt_encode.proofs.PlaceKnown.{none_known}
use Rattle.celt_encode.proofs.PlaceOpenings.{opening_keeps}
use Rattle.celt_encode.proofs.PlaceRules.{all_places, Stands, whatever, Keeps, keep_none, keep_then, keep_bit}
use Rattle.celt_encode.proofs.PlaceSettings.{AreSettled, opening_long, shaping_may, amounts_mono}
use Rattle.celt_encode.proofs.PlaceShares.{amounts_fine}
use Rattle.celt_encode.proofs.PlaceSteps.{coarse_keeps, fine_keeps, last_keeps, shaping_keeps, amounts_keeps, collapse_keeps}

-- ---- the parts joined

module _ {f : Outset} (rows : HasRows f) where
  ending_keeps : (len : ℕ) (o : Opening) (coarse : List (List ℤ)) (s : Shaping) (m : Amounts)
      → (f.kind.lm ≡ 0 → o.transient ≡ false)
      → AreSettled f.kind o.transient s
      → (f.kind.channels ≡ 1 → m.allocation.intensity ≡ 0)
      → ((band : ℕ) → band < f.kind.end → slice_index m.allocation.fine band ≤ 8)
      → Keeps f whatever (ending_script f.kind len o coarse s m)
  unfolding ending_script
  ending_keeps len o coarse s m long settled mono few =
      keep_then (fine_keeps m.allocation few) (λ fine h.
      keep_then (bands_keeps rows s.settings m.allocation _ (λ e. settled.same ∙ long e) settled.changes mono) (λ plans i.
      keep_then (collapse_keeps m.reserve) (λ collapse j.
      keep_then (last_keeps m.allocation (8 * len)) (λ last k. keep_none))))

  sound_keeps : (len : ℕ) → len ≤ 1275 → Keeps f whatever (sound_script f.kind len)
  unfolding sound_script
  sound_keeps len short =
      keep_then (opening_keeps (8 * len)) (λ o h.
      keep_then (coarse_keeps o.intra (8 * len)) (λ coarse i.
      keep_then (shaping_keeps o.transient len) (λ s j.
      let settled = shaping_may f.kind o.transient len s j in
      keep_then (amounts_keeps len s) (λ m k. ending_keeps len o coarse s m (opening_long f.kind (8 * len) o h) settled (amounts_mono f.kind len s m k)
      (amounts_fine f.kind len s m short settled.boosts settled.trim k)))))

  unless_keeps : (len : ℕ) → len ≤ 1275 → (silent : Bool) → Keeps f whatever (unless_silent f.kind len silent)
  unless_keeps len short true = keep_none
  unless_keeps len short false = keep_then (sound_keeps len short) (λ sound m. keep_none)

  frame_keeps : (len : ℕ) → len ≤ 1275 → Keeps f whatever (frame_script f.kind len)
  unfolding frame_script IsPlace IsTold
  frame_keeps len short = keep_then (keep_bit Silence _ (λ s i. tt, λ answer is. tt)) (λ silent m. unless_keeps len short silent)

pub frame_places : (f : Outset) → HasRows f → f.len ≤ 1275 → AllPlaces f.kind (begun f) (frame_script f.kind f.len)
frame_places f rows short = all_places f.kind (λ t value. Stands f whatever t) (frame_script f.kind f.len) (begun f) ((frame_keeps rows f.len short).is (begun f) (record { frame_is = refl; known = none_known; held_is = tt }))
