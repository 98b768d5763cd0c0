-- A frame of an input by its window.
use Rattle.std.proofs.Common.{◌≡◌, ℕ, zero, suc, ◌+◌, ◌-◌, ◌*◌, ◌/◌, ◌%◌, ◌^◌, ◌<◌, ◌≤◌, true, false, nat_lt, if◌then◌else◌, refl, sym, inl, inr, arith, ap, ◌∙◌, List, [], length}
use Rattle.std.specs.Prelude.{ℤ, pos, ◌+ℤ◌, ◌-ℤ◌, ◌*ℤ◌}
use Rattle.std.specs.Int.{int_shr}
use Rattle.std.proofs.lemmas.Bool.{cases_lt}
use Rattle.std.proofs.lemmas.Bool.Decides.{nat_tests}
use Rattle.celt_base.specs.declared.kind.Kind.{Kind}
use Rattle.celt_base.specs.declared.state.Setting.{Setting}
use Rattle.fixed_math.specs.Items.{item, listed}
use Rattle.fixed_math.specs.Rounding.{rounded}
use Rattle.fixed_math.proofs.ItemLemmas.{item-listed, length-listed, listed_from}
use Rattle.post_filter.specs.Comb.{echo, part, term, fade}
use Rattle.celt_analysis.specs.Analyses.{analysed, analysis_of, found, spectrum_in, transient_of}
use Rattle.celt_analysis.specs.Inputs.{filtered_at, frame_analysis, middle_at, sample_at, setting_at, settings_of, start_of, values_at, window_of, IsFramePitch}
use Rattle.celt_analysis.specs.Pitch.{downmix, IsPitchOf}
use Rattle.celt_analysis.specs.Signals.{blocks_of, channel_in, channel_values, emphasized, filtered, frame_size, is_stereo, value_at, window_size}
use Rattle.celt_analysis.specs.Spectra.{spectrum}
use Rattle.celt_analysis.specs.Transients.{energies_in, is_transient}
use Rattle.celt_analysis.proofs.ChannelLemmas.{two_channels, transient_heard, spectrum_heard, if_stereo}
use Rattle.celt_analysis.proofs.PitchLaws.{pitch_alike}

-- ---- an echo looks back alone, and so does all that is made of it

pub echo_alike : (c n f period : ℕ) (us vs : List ℤ) (p q : ℕ) → 15 ≤ period → period ≤ 1022 → 1024 ≤ p → 1024 ≤ q
    → ((d : ℕ) → 1 ≤ d → d ≤ 1024 → item us (p - d) ≡ item vs (q - d)) → echo c n f period us p ≡ echo c n f period vs q
unfolding echo
echo_alike c n f period us vs p q low high fp fq h =
    let a : item us (p - period) ≡ item vs (q - period) = h period (omega arith) (omega arith) in
    let b : item us (p - period + 1) ≡ item vs (q - period + 1) = ap (item us) (up p fp) ∙ h (period - 1) (omega arith) (omega arith) ∙ sym (ap (item vs) (up q fq)) in
    let d : item us (p - period - 1) ≡ item vs (q - period - 1) = ap (item us) (down p fp) ∙ h (period + 1) (omega arith) (omega arith) ∙ sym (ap (item vs) (down q fq)) in
    let e : item us (p - period + 2) ≡ item vs (q - period + 2) = ap (item us) (up2 p fp) ∙ h (period - 2) (omega arith) (omega arith) ∙ sym (ap (item vs) (up2 q fq)) in
    let g : item us (p - period - 2) ≡ item vs (q - period - 2) = ap (item us) (down2 p fp) ∙ h (period + 2) (omega arith) (omega arith) ∙ sym (ap (item vs) (down2 q fq)) in
    rw a (rw b (rw d (rw e (rw g refl))))
  where
    up : (p : ℕ) → 1024 ≤ p → p - period + 1 ≡ p - (period - 1)
    up p l = omega (arith, l, low, high)

    down : (p : ℕ) → 1024 ≤ p → p - period - 1 ≡ p - (period + 1)
    down p l = omega (arith, l, low, high)

    up2 : (p : ℕ) → 1024 ≤ p → p - period + 2 ≡ p - (period - 2)
    up2 p l = omega (arith, l, low, high)

    down2 : (p : ℕ) → 1024 ≤ p → p - period - 2 ≡ p - (period + 2)
    down2 p l = omega (arith, l, low, high)

pub term_alike : (from to : Setting) (i : ℕ) (us vs : List ℤ) (p q : ℕ) → 1024 ≤ p → 1024 ≤ q
    → ((d : ℕ) → 1 ≤ d → d ≤ 1024 → item us (p - d) ≡ item vs (q - d)) → term from to i us p ≡ term from to i vs q
unfolding term
term_alike from to i us vs p q fp fq h =
    ap (λ z. rounded (z +ℤ part (fade i) to us p) 15) (echo_alike _ _ _ from.period us vs p q from.least_period from.most_period fp fq h)
    ∙ ap (λ z. rounded (part (2 ^ 15 - fade i) from vs q +ℤ z) 15) (echo_alike _ _ _ to.period us vs p q to.least_period to.most_period fp fq h)

pub filtered_alike : (from to : Setting) (i : ℕ) (x y : ℕ → ℤ) (p q : ℕ) → 1024 ≤ p → 1024 ≤ q
    → ((d : ℕ) → d ≤ 1024 → x (p - d) ≡ y (q - d)) → filtered from to i x p ≡ filtered from to i y q
unfolding filtered
filtered_alike from to i x y p q fp fq h =
    let here : x p ≡ y q = ap x (none p) ∙ h 0 (omega arith) ∙ sym (ap y (none q)) in
    let t : term from to i (listed p x) p ≡ term from to i (listed q y) q = term_alike from to i (listed p x) (listed q y) p q fp fq (λ d some most.
    item-listed p x (p - d) (omega (arith, some, fp)) ∙ h d most ∙ sym (item-listed q y (q - d) (omega (arith, some, fq)))) in
    λ k. here k -ℤ t k
  where
    none : (n : ℕ) → n ≡ n - 0
    none n = omega arith

-- signals that agree from one place before on have one pre-emphasised sample
pub emphasized_alike : (x y : ℕ → ℤ) (p q : ℕ) → 1 ≤ p → 1 ≤ q → x p ≡ y q → x (p - 1) ≡ y (q - 1) → emphasized x p ≡ emphasized y q
unfolding emphasized
emphasized_alike x y zero q lp lq a b = elim lp [ ]
emphasized_alike x y (suc p) zero lp lq a b = elim lq [ ]
emphasized_alike x y (suc p) (suc q) lp lq a b =
    let c : x p ≡ y q = ap x (back p) ∙ b ∙ sym (ap y (back q)) in
    λ k. pos 4096 *ℤ a k -ℤ rounded (pos 27853 *ℤ c k) 3
  where
    back : (n : ℕ) → n ≡ suc n - 1
    back n = omega arith

-- ---- the frame that holds a time

pub record IsHeldIn (n t i : ℕ) : Type 0 where
  pub before : i < 120 → (start_of n t - 120 + i) / n ≡ t + 1920 / n - 1
  pub before_place : i < 120 → (start_of n t - 120 + i) % n ≡ n - 120 + i
  pub within : 120 ≤ i → i < n + 120 → (start_of n t - 120 + i) / n ≡ t + 1920 / n
  pub within_place : 120 ≤ i → i < n + 120 → (start_of n t - 120 + i) % n ≡ i - 120

pub held_in : (lm t i : ℕ) → lm ≤ 3 → IsHeldIn (120 * 2 ^ lm) t i
held_in zero t i l = record { before = λ a. omega (arith, a); before_place = λ a. omega (arith, a); within = λ a b. omega (arith, a, b); within_place = λ a b. omega (arith, a, b) }
held_in (suc zero) t i l = record { before = λ a. omega (arith, a); before_place = λ a. omega (arith, a); within = λ a b. omega (arith, a, b); within_place = λ a b. omega (arith, a, b) }
held_in (suc (suc zero)) t i l = record { before = λ a. omega (arith, a); before_place = λ a. omega (arith, a); within = λ a b. omega (arith, a, b); within_place = λ a b. omega (arith, a, b) }
held_in (suc (suc (suc zero))) t i l = record { before = λ a. omega (arith, a); before_place = λ a. omega (arith, a); within = λ a b. omega (arith, a, b); within_place = λ a b. omega (arith, a, b) }
held_in (suc (suc (suc (suc n)))) t i l = absurd (omega (arith, l))

pub frames_before : (lm : ℕ) → lm ≤ 3 → 2 ≤ 1920 / (120 * 2 ^ lm)
frames_before zero l = omega arith
frames_before (suc zero) l = omega arith
frames_before (suc (suc zero)) l = omega arith
frames_before (suc (suc (suc zero))) l = omega arith
frames_before (suc (suc (suc (suc n)))) l = absurd (omega (arith, l))

-- the frame's own setting
pub setting_own : (n : ℕ) (settings : ℕ → Setting) (t : ℕ) → settings t ≡ setting_at n settings (t + 1920 / n)
unfolding setting_at
setting_own n settings t =
    let not_before : nat_lt (t + 1920 / n) (1920 / n) ≡ false = grind (arith, nat_tests) in
    let same : t ≡ t + 1920 / n - 1920 / n = omega arith in
    rw not_before (ap settings same)

-- ---- the samples of a window are those of the input

pub record IsPlaceOf (m c p n : ℕ) : Type 0 where
  pub rest : (m * p + c) % m ≡ c
  pub whole : (m * p + c) / m ≡ p
  pub inside : p < n → m * p + c < m * n

pub place_of : (m c p n : ℕ) → c < m → m ≤ 2 → IsPlaceOf m c p n
place_of zero c p n l h = absurd (omega (arith, l))
place_of (suc zero) c p n l h = record { rest = omega (arith, l); whole = omega (arith, l); inside = λ a. omega (arith, a, l) }
place_of (suc (suc zero)) c p n l h = record { rest = omega (arith, l); whole = omega (arith, l); inside = λ a. omega (arith, a, l) }
place_of (suc (suc (suc m))) c p n l h = absurd (omega (arith, h))

pub channel_heard : (kind : Kind) (samples : List ℤ) (t c p : ℕ) → c < kind.channels → p < 1145 + frame_size kind
    → channel_in kind.channels (window_of kind samples t) c p ≡ sample_at kind.channels samples c (start_of (frame_size kind) t - 1145 + p)
unfolding window_of
channel_heard kind samples t c p l h =
    let m : ℕ = kind.channels in
    let b : ℕ = start_of (frame_size kind) t - 1145 in
    let o : IsPlaceOf m c p (1145 + frame_size kind) = place_of m c p (1145 + frame_size kind) l kind.two_channels in
    item-listed (window_size kind) (λ q. sample_at m samples (q % m) (b + q / m)) (m * p + c) (o.inside h)
    ∙ (λ k. sample_at m samples (o.rest k) (b + o.whole k))

-- pre-emphasis of both agrees from the second place on
pub heard_alike : (kind : Kind) (samples : List ℤ) (t c p : ℕ) → c < kind.channels → 1 ≤ p → p < 1145 + frame_size kind
    → emphasized (channel_in kind.channels (window_of kind samples t) c) p ≡ emphasized (sample_at kind.channels samples c) (start_of (frame_size kind) t - 1145 + p)
heard_alike kind samples t c p l some h =
    let b : ℕ = start_of (frame_size kind) t - 1145 in
    let low : 775 ≤ b = omega arith in
    let back : b + (p - 1) ≡ b + p - 1 = omega (arith, some) in
    emphasized_alike (channel_in kind.channels (window_of kind samples t) c) (sample_at kind.channels samples c) p (b + p) some (omega (arith, some))
    (channel_heard kind samples t c p l h)
    (channel_heard kind samples t c (p - 1) l (omega (arith, h)) ∙ ap (sample_at kind.channels samples c) back)

pub value_heard : (kind : Kind) (settings : ℕ → Setting) (samples : List ℤ) (t c i : ℕ) → c < kind.channels → i < frame_size kind + 120
    → value_at (frame_size kind) (settings_of kind settings t) (emphasized (channel_in kind.channels (window_of kind samples t) c)) i
    ≡ filtered_at (frame_size kind) settings (sample_at kind.channels samples c) (start_of (frame_size kind) t - 120 + i)
unfolding value_at filtered_at settings_of
value_heard kind settings samples t c i l h =
    let n : ℕ = frame_size kind in
    let x : ℕ → ℤ = channel_in kind.channels (window_of kind samples t) c in
    let y : ℕ → ℤ = sample_at kind.channels samples c in
    let time : ℕ = start_of n t - 120 + i in
    let o : IsHeldIn n t i = held_in kind.lm t i kind.sized in
    let two : 2 ≤ 1920 / n = frames_before kind.lm kind.sized in
    let late : 1800 + i ≤ time = omega arith in
    let alike : (d : ℕ) → d ≤ 1024 → emphasized x (1025 + i - d) ≡ emphasized y (time - d) = λ d most.
    let some : 1 ≤ 1025 + i - d = omega (arith, most) in
    let inside : 1025 + i - d < 1145 + n = omega (arith, h) in
    let same : start_of n t - 1145 + (1025 + i - d) ≡ time - d = omega (arith, most) in
    heard_alike kind samples t c (1025 + i - d) l some inside ∙ ap (emphasized y) same in
    elim (cases_lt i 120) [
      | inl a ↦
          let less : nat_lt i 120 ≡ true = grind (arith, nat_tests, a) in
          let first : t + 1920 / n - 2 ≡ time / n - 1 = omega (arith, o.before a, two) in
          let second : t + 1920 / n - 1 ≡ time / n = sym (o.before a) in
          let place : n - 120 + i ≡ time % n = sym (o.before_place a) in
          rw less (filtered_alike _ _ (n - 120 + i) (emphasized x) (emphasized y) (1025 + i) time (omega arith) (omega (arith, late)) alike
          ∙ (λ k. filtered (setting_at n settings (first k)) (setting_at n settings (second k)) (place k) (emphasized y) time))
      | inr a ↦
          let more : nat_lt i 120 ≡ false = grind (arith, nat_tests, a) in
          let first : t + 1920 / n - 1 ≡ time / n - 1 = omega (arith, o.within a h) in
          let second : settings t ≡ setting_at n settings (time / n) = setting_own n settings t ∙ ap (setting_at n settings) (sym (o.within a h)) in
          let place : 0 + (i - 120) ≡ time % n = omega (arith, o.within_place a h) in
          let at : 1145 + (i - 120) ≡ 1025 + i = omega (arith, a) in
          rw more (ap (filtered _ _ (0 + (i - 120)) (emphasized x)) at
          ∙ filtered_alike _ _ (0 + (i - 120)) (emphasized x) (emphasized y) (1025 + i) time (omega arith) (omega (arith, late)) alike
          ∙ (λ k. filtered (setting_at n settings (first k)) (second k) (place k) (emphasized y) time))
    ]

-- ---- so the values are, and what is found

pub values_heard : (kind : Kind) (settings : ℕ → Setting) (samples : List ℤ) (t c : ℕ) → c < kind.channels
    → values_at kind settings samples t c ≡ channel_values kind (settings_of kind settings t) (window_of kind samples t) c
values_heard kind settings samples t c l =
    let n : ℕ = frame_size kind in
    let f : ℕ → ℤ = λ i. filtered_at n settings (sample_at kind.channels samples c) (start_of n t - 120 + i) in
    listed_from (listed (n + 120) f) (n + 120) (value_at n (settings_of kind settings t) (emphasized (channel_in kind.channels (window_of kind samples t) c))) (length-listed (n + 120) f)
    (λ i h. item-listed (n + 120) f i h ∙ sym (value_heard kind settings samples t c i l h))

pub analysed_same : (kind : Kind) (a b : Setting) (v w : ℕ → List ℤ) → a ≡ b → v 0 ≡ w 0 → (is_stereo kind ≡ true → v 1 ≡ w 1) → analysed kind a v ≡ analysed kind b w
unfolding analysed
analysed_same kind a b v w e f h =
    let tv : transient_of kind v ≡ transient_of kind w = transient_itself v ∙ transient_heard kind w (v 0) (v 1) f h in
    let left : spectrum_in kind v 0 ≡ spectrum_in kind w 0 = spectrum_itself v 0 ∙ spectrum_heard kind w 0 (transient_of kind v) (v 0) tv f in
    let right : (if is_stereo kind then spectrum_in kind v 1 else []) ≡ (if is_stereo kind then spectrum_in kind w 1 else []) =
    if_stereo (is_stereo kind) (spectrum_in kind v 1) (spectrum_in kind w 1) (λ s. spectrum_itself v 1 ∙ spectrum_heard kind w 1 (transient_of kind v) (v 1) tv (h s)) in
    λ k. found kind (e k) (tv k) (left k) (right k)
  where
    transient_itself : (v : ℕ → List ℤ) → transient_of kind v ≡ is_transient kind.lm (energies_in (is_stereo kind) (v 0) (v 1))
    transient_itself v = sym (transient_heard kind v (v 0) (v 1) refl (λ s. refl))

    spectrum_itself : (v : ℕ → List ℤ) (c : ℕ) → spectrum_in kind v c ≡ spectrum (blocks_of kind) (transient_of kind v) (v c)
    spectrum_itself v c = sym (spectrum_heard kind v c (transient_of kind v) (v c) refl refl)

pub frame_heard : (kind : Kind) (settings : ℕ → Setting) (samples : List ℤ) (t : ℕ) → frame_analysis kind settings samples t ≡ analysis_of kind (settings_of kind settings t) (window_of kind samples t)
unfolding frame_analysis analysis_of settings_of
frame_heard kind settings samples t =
    let some = kind.some_channel in
    analysed_same kind (settings t) (settings t) (values_at kind settings samples t) (channel_values kind (settings_of kind settings t) (window_of kind samples t)) refl
    (values_heard kind settings samples t 0 (omega (arith, some)))
    (λ s. values_heard kind settings samples t 1 (omega (arith, two_channels kind s)))

-- ---- and the pitch

pub middle_heard : (m n b : ℕ) (samples w : List ℤ) (i : ℕ) → 1 ≤ m → m ≤ 2 → i < 1022 + n
    → ((c p : ℕ) → c < m → p < 1145 + n → item w (m * p + c) ≡ sample_at m samples c (b + p))
    → middle_at m samples (b + 123 + i) ≡ downmix m (item w) i
unfolding middle_at downmix
middle_heard zero n b samples w i some most l h = absurd (omega (arith, some))
middle_heard (suc zero) n b samples w i some most l h =
    let place : b + (123 + i) ≡ b + 123 + i = omega arith in
    let at : 1 * (123 + i) + 0 ≡ 123 + i = omega arith in
    ap (sample_at 1 samples 0) (sym place) ∙ sym (h 0 (123 + i) (omega arith) (omega (arith, l))) ∙ ap (item w) at
middle_heard (suc (suc zero)) n b samples w i some most l h =
    let place : b + 123 + i ≡ b + (123 + i) = omega arith in
    let at : 2 * (123 + i) + 0 ≡ 2 * (123 + i) = omega arith in
    let left : sample_at 2 samples 0 (b + 123 + i) ≡ item w (2 * (123 + i)) = ap (sample_at 2 samples 0) place ∙ sym (h 0 (123 + i) (omega arith) (omega (arith, l))) ∙ ap (item w) at in
    let right : sample_at 2 samples 1 (b + 123 + i) ≡ item w (2 * (123 + i) + 1) = ap (sample_at 2 samples 1) place ∙ sym (h 1 (123 + i) (omega arith) (omega (arith, l))) in
    λ k. int_shr (left k +ℤ right k) 1
middle_heard (suc (suc (suc m))) n b samples w i some most l h = absurd (omega (arith, most))

pub middle_same : (kind : Kind) (samples : List ℤ) (t i : ℕ) → i < 1022 + frame_size kind
    → middle_at kind.channels samples (start_of (frame_size kind) t - 1022 + i) ≡ downmix kind.channels (item (window_of kind samples t)) (1022 - 1022 + i)
middle_same kind samples t i l =
    let n : ℕ = frame_size kind in
    let b : ℕ = start_of n t - 1145 in
    let place : start_of n t - 1022 + i ≡ b + 123 + i = omega arith in
    let at : i ≡ 1022 - 1022 + i = omega arith in
    ap (middle_at kind.channels samples) place
    ∙ middle_heard kind.channels n b samples (window_of kind samples t) i kind.some_channel kind.two_channels l (λ c p a h. channel_heard kind samples t c p a h)
    ∙ ap (downmix kind.channels (item (window_of kind samples t))) at

pub pitch_heard : (kind : Kind) (samples : List ℤ) (t : ℕ) (r : Setting) → IsFramePitch kind samples t r → IsPitchOf kind.channels kind.lm (item (window_of kind samples t)) r
pitch_heard kind samples t r h =
    pitch_alike (middle_at kind.channels samples) (downmix kind.channels (item (window_of kind samples t))) (start_of (frame_size kind) t) 1022 (frame_size kind) r (omega arith) (omega arith) (λ i l. middle_same kind samples t i l) h

pub pitch_meant : (kind : Kind) (samples : List ℤ) (t : ℕ) (r : Setting) → IsPitchOf kind.channels kind.lm (item (window_of kind samples t)) r → IsFramePitch kind samples t r
pitch_meant kind samples t r h =
    pitch_alike (downmix kind.channels (item (window_of kind samples t))) (middle_at kind.channels samples) 1022 (start_of (frame_size kind) t) (frame_size kind) r (omega arith) (omega arith) (λ i l. sym (middle_same kind samples t i l)) h

pub window_length : (kind : Kind) (samples : List ℤ) (t : ℕ) → length (window_of kind samples t) ≡ window_size kind
unfolding window_of
window_length kind samples t = length-listed (window_size kind) _
