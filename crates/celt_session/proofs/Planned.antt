-- The plan that the settings and the channels of a file give.
use Rattle.std.proofs.Common.{◌≡◌, ℕ, ◌+◌, ◌-◌, ◌*◌, ◌%◌, ◌^◌, ◌≤◌, ◌⊎◌, inl, inr, refl, sym, ◌∙◌, ap, subst, arith}
use Rattle.std.proofs.lemmas.Nat.{mul-le}
use Rattle.celt_base.specs.Kinds.{config_of_toc, stereo_of_toc}
use Rattle.celt_session.specs.declared.settings.Settings.{Settings}
use Rattle.celt_session.specs.declared.coding.FrameSize.{FrameSize}
use Rattle.celt_session.specs.declared.coding.FrameSize.TheVariants.{Samples120, Samples240, Samples480, Samples960}
use Rattle.celt_session.specs.declared.coding.Bandwidth.{Bandwidth}
use Rattle.celt_session.specs.declared.coding.Bandwidth.TheVariants.{Narrow, Wide, SuperWide, Full}
use Rattle.celt_session.specs.Frames.{kind_of, duration}
use Rattle.celt_session.specs.Encoding.{size_number, band_number, size_of, band_of, coding_of, toc_of}
use Rattle.celt_session.specs.Encodings.{AreSettings}

size_small : (size : FrameSize) → size_number size ≤ 3
size_small Samples120 = omega arith
size_small Samples240 = omega arith
size_small Samples480 = omega arith
size_small Samples960 = omega arith

band_small : (band : Bandwidth) → band_number band ≤ 3
band_small Narrow = omega arith
band_small Wide = omega arith
band_small SuperWide = omega arith
band_small Full = omega arith

frame_samples : (frame : ℕ) → (frame ≡ 120) ⊎ (frame ≡ 240) ⊎ (frame ≡ 480) ⊎ (frame ≡ 960) → 120 * 2 ^ size_number (size_of frame) ≡ frame
frame_samples frame (inl e) = subst (λ n. 120 * 2 ^ size_number (size_of n) ≡ n) (sym e) refl
frame_samples frame (inr (inl e)) = subst (λ n. 120 * 2 ^ size_number (size_of n) ≡ n) (sym e) refl
frame_samples frame (inr (inr (inl e))) = subst (λ n. 120 * 2 ^ size_number (size_of n) ≡ n) (sym e) refl
frame_samples frame (inr (inr (inr e))) = subst (λ n. 120 * 2 ^ size_number (size_of n) ≡ n) (sym e) refl

-- the parts of the first byte of a packet
pub record IsToc (toc size channels : ℕ) : Type 0 where
  pub celt : 16 ≤ config_of_toc toc
  pub code : toc % 4 ≡ 0
  pub lm : config_of_toc toc % 4 ≡ size
  pub channels_are : 1 + stereo_of_toc toc ≡ channels

toc_parts : (size band channels : ℕ) → size ≤ 3 → band ≤ 3 → (channels ≡ 1) ⊎ (channels ≡ 2) → IsToc (8 * (16 + 4 * band + size) + 4 * (channels - 1)) size channels
toc_parts size band channels s b (inl one) = record { celt = omega arith; code = omega arith; lm = omega arith; channels_are = omega arith }
toc_parts size band channels s b (inr two) = record { celt = omega arith; code = omega arith; lm = omega arith; channels_are = omega arith }

pub toc_is : (settings : Settings) (channels : ℕ) → (channels ≡ 1) ⊎ (channels ≡ 2) → IsToc (toc_of (coding_of settings) channels) (size_number (size_of settings.frame)) channels
toc_is settings channels h = toc_parts (size_number (size_of settings.frame)) (band_number (band_of settings.band)) channels (size_small (size_of settings.frame)) (band_small (band_of settings.band)) h

pub kind_lm : (toc : ℕ) → (kind_of toc).lm ≡ config_of_toc toc % 4
unfolding kind_of
kind_lm toc = refl

pub kind_channels : (toc : ℕ) → (kind_of toc).channels ≡ 1 + stereo_of_toc toc
unfolding kind_of
kind_channels toc = refl

-- the samples of a frame are those that were asked for
pub duration_for : (settings : Settings) (channels : ℕ) → AreSettings settings → (channels ≡ 1) ⊎ (channels ≡ 2) → duration (kind_of (toc_of (coding_of settings) channels)) ≡ settings.frame
duration_for settings channels h c =
    ap (λ n. 120 * 2 ^ n) (kind_lm (toc_of (coding_of settings) channels) ∙ (toc_is settings channels c).lm) ∙ frame_samples settings.frame h.frame

least_frame : (frame : ℕ) → (frame ≡ 120) ⊎ (frame ≡ 240) ⊎ (frame ≡ 480) ⊎ (frame ≡ 960) → 120 ≤ frame
least_frame frame (inl e) = omega arith
least_frame frame (inr (inl e)) = omega arith
least_frame frame (inr (inr (inl e))) = omega arith
least_frame frame (inr (inr (inr e))) = omega arith

pub few_frames : (settings : Settings) → AreSettings settings → settings.group ≤ 48
few_frames settings h =
    let m = mul-le settings.group 120 settings.group settings.frame (omega arith) (least_frame settings.frame h.frame) in
    let s = h.short in
    omega arith
