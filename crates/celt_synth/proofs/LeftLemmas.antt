-- The left channel of a stream of two goes without the right one.
use Rattle.std.proofs.Common.{◌≡◌, ℕ, zero, suc, ◌+◌, ◌*◌, ◌/◌, ◌%◌, ◌<◌, ◌≤◌, nat_eq, nat_lt, if◌then◌else◌, Bool, true, false, refl, sym, inl, inr, arith, ap, ◌∙◌, List, length, get_or, []}
use Rattle.std.specs.Prelude.{ℤ, pos}
use Rattle.std.proofs.lemmas.Bool.{cases_lt}
use Rattle.std.proofs.lemmas.Bool.Decides.{nat_tests}
use Rattle.celt_base.specs.declared.kind.Kind.{Kind}
use Rattle.fixed_math.specs.Items.{item, listed}
use Rattle.fixed_math.proofs.ItemLemmas.{item-listed}
use Rattle.celt_synth.specs.AntiCollapse.{band_uncollapsed, seed_behind, both_uncollapsed, all_uncollapsed, uncollapsed_if, left_uncollapsed, right_uncollapsed}
use Rattle.celt_synth.specs.Blocks.{blocks_of}
use Rattle.celt_synth.specs.Concealment.{noise_shapes, concealed_energies}
use Rattle.celt_synth.specs.LeftChannels.{AgreeLeft, AgreeShapes}
use Rattle.celt_synth.specs.Rows.{greater, energies_after, older1_after, older2_after}
use Rattle.celt_synth.specs.Shapes.{Shapes, Shaped, shapes_of}
use Rattle.celt_synth.specs.Shared.{Heard, silent_energies}
use Rattle.celt_synth.specs.Signals.{Channel, channel_after, sample_at, stereo_samples}
use Rattle.celt_synth.specs.States.{State}
use Rattle.celt_synth.specs.Steps.{Made, no_spectrum, spectrum_in, grounds_of, shapes_in, made_silent, made_sounding, made_of, made_concealed, form_of, state_after, samples_of, step, conceal}
use Rattle.celt_synth.specs.Streams.{first_of, second_of}
use Rattle.celt_synth.specs.declared.anti_collapse.Grounds.{Grounds}
use Rattle.celt_synth.specs.declared.signals.Form.{Form}

-- the left shapes and the noise's state after anti-collapse do not depend on the right shapes; in a band of two channels
-- the state behind the right one depends on its mask alone
pub record SameLeft (s t : Shapes) : Type 0 where
  pub left : s.left ≡ t.left
  pub seed : s.seed ≡ t.seed

both_left : (g : Grounds) (b : ℕ) (s t : Shapes) → SameLeft s t → SameLeft (both_uncollapsed g b s) (both_uncollapsed g b t)
unfolding both_uncollapsed
both_left g b s t r = by_test (nat_eq g.kind.channels 2)
  where
    first : left_uncollapsed g b s ≡ left_uncollapsed g b s
    first = refl

    by_test : (two : Bool) → SameLeft (if two then right_uncollapsed g b (left_uncollapsed g b s) else left_uncollapsed g b s) (if two then right_uncollapsed g b (left_uncollapsed g b t) else left_uncollapsed g b t)
    by_test true = record { left = λ k. band_uncollapsed g 0 b (r.seed k) (r.left k); seed = λ k. seed_behind g 1 b (seed_behind g 0 b (r.seed k)) }
    by_test false = record { left = λ k. band_uncollapsed g 0 b (r.seed k) (r.left k); seed = λ k. seed_behind g 0 b (r.seed k) }

all_left : (g : Grounds) (n : ℕ) (s t : Shapes) → SameLeft s t → SameLeft (all_uncollapsed g n s) (all_uncollapsed g n t)
unfolding all_uncollapsed
all_left g zero s t r = r
all_left g (suc n) s t r = both_left g n (all_uncollapsed g n s) (all_uncollapsed g n t) (all_left g n s t r)

pub asked_left : (asks : Bool) (g : Grounds) (s t : Shapes) → SameLeft s t → SameLeft (uncollapsed_if asks g s) (uncollapsed_if asks g t)
unfolding uncollapsed_if
asked_left true g s t r = all_left g g.kind.end s t r
asked_left false g s t r = r

shapes_left : (kind : Kind) (heard : Heard) (x y : Shaped) (es fs : List (List ℤ)) (s t : State) → AgreeShapes x y → es ≡ fs → AgreeLeft s t → (shapes_in kind heard x es s).left ≡ (shapes_in kind heard y fs t).left
unfolding shapes_in
shapes_left kind heard x y es fs s t e f r =
    let grounds : grounds_of kind heard x es s ≡ grounds_of kind heard y fs t =
    λ k. record { kind = kind; pulses = heard.pulses; masks = e.masks_are k; energies = f k; older1 = r.older1_are k; older2 = r.older2_are k } in
    ap (λ g. (uncollapsed_if heard.collapse g x.shapes).left) grounds
    ∙ (asked_left heard.collapse (grounds_of kind heard y fs t) x.shapes y.shapes (record { left = e.left_are; seed = e.seed_is })).left

-- what a frame comes to, but for its right spectrum
record AgreeMade (x y : Made) : Type 0 where
  pub left_are : x.left ≡ y.left
  pub transient_is : x.transient ≡ y.transient
  pub setting_is : x.setting ≡ y.setting
  pub energies_are : x.energies ≡ y.energies
  pub range_is : x.range ≡ y.range
  pub seed_is : x.seed ≡ y.seed

made_agrees : (kind : Kind) (heard : Heard) (x y : Shaped) (s t : State) → AgreeShapes x y → AgreeLeft s t → AgreeMade (made_of kind heard x s) (made_of kind heard y t)
unfolding made_of made_silent made_sounding
made_agrees kind heard x y s t e r = by_test heard.silent
  where
    energies : heard.changed (greater kind.channels s.energies) ≡ heard.changed (greater kind.channels t.energies)
    energies = ap (λ es. heard.changed (greater kind.channels es)) r.energies_are

    by_test : (silent : Bool) → AgreeMade (if silent then made_silent kind heard.range (silent_energies kind s.energies) else made_sounding kind heard x (heard.changed (greater kind.channels s.energies)) s)
        (if silent then made_silent kind heard.range (silent_energies kind t.energies) else made_sounding kind heard y (heard.changed (greater kind.channels t.energies)) t)
    by_test true = record { left_are = refl; transient_is = refl; setting_is = refl; energies_are = ap (silent_energies kind) r.energies_are; range_is = refl; seed_is = refl }
    by_test false = record {
      left_are = λ k. spectrum_in kind (energies k) 0 (shapes_left kind heard x y (heard.changed (greater kind.channels s.energies)) (heard.changed (greater kind.channels t.energies)) s t e energies r k);
      transient_is = refl;
      setting_is = refl;
      energies_are = energies;
      range_is = refl;
      seed_is = refl;
    }

concealed_agrees : (kind : Kind) (s t : State) → AgreeLeft s t → AgreeMade (made_concealed kind s) (made_concealed kind t)
unfolding made_concealed
concealed_agrees kind s t r = record {
  left_are = λ k. spectrum_in kind (concealed_energies kind (r.energies_are k)) 0 (noise_shapes kind kind.end (r.seed_is k)).left;
  transient_is = refl;
  setting_is = refl;
  energies_are = ap (concealed_energies kind) r.energies_are;
  range_is = refl;
  seed_is = λ k. (noise_shapes kind kind.end (r.seed_is k)).seed;
}

-- in a stream of two channels the left one takes the frame's left
first_two : (kind : Kind) (xs ys : List ℤ) → first_of 2 kind.channels xs ys ≡ xs
unfolding first_of
first_two kind xs ys = by_test (nat_lt 2 kind.channels) refl
  where
    by_test : (t : Bool) → nat_lt 2 kind.channels ≡ t → (if t then Rattle.celt_synth.specs.Streams.middle_of xs ys else xs) ≡ xs
    by_test true h = let l = kind.two_channels in absurd (grind (arith, nat_tests))
    by_test false h = refl

form_agrees : (kind : Kind) (x y : Made) (s t : State) → AgreeMade x y → AgreeLeft s t → form_of kind x s ≡ form_of kind y t
form_agrees kind x y s t e r = λ k. record { blocks = blocks_of kind; transient = e.transient_is k; before = r.before_is k; now = r.now_is k; frame = e.setting_is k }

first_agrees : (kind : Kind) (x y : Made) → AgreeMade x y → first_of 2 kind.channels x.left x.right ≡ first_of 2 kind.channels y.left y.right
first_agrees kind x y e = first_two kind x.left x.right ∙ e.left_are ∙ sym (first_two kind y.left y.right)

state_agrees : (kind : Kind) (x y : Made) (s t : State) → AgreeMade x y → AgreeLeft s t → AgreeLeft (state_after 2 kind x s) (state_after 2 kind y t)
unfolding state_after
state_agrees kind x y s t e r = record {
  energies_are = ap (energies_after kind.channels kind.end) e.energies_are;
  older1_are = λ k. older1_after kind.channels kind.end (e.transient_is k) (e.energies_are k) (r.older1_are k);
  older2_are = λ k. older2_after kind.end (e.transient_is k) (r.older1_are k) (r.older2_are k);
  seed_is = e.seed_is;
  range_is = e.range_is;
  before_is = λ k. if nat_eq kind.lm 0 then r.now_is k else e.setting_is k;
  now_is = e.setting_is;
  left_is = λ k. channel_after (form_agrees kind x y s t e r k) (r.left_is k) (first_agrees kind x y e k);
}

even_sample : (gain : ℤ) (f : Form) (a b : Channel) (xs ys : List ℤ) (t : ℕ) → t < 120 * f.blocks → item (stereo_samples gain f a b xs ys) (2 * t) ≡ sample_at gain f a xs t
unfolding stereo_samples
even_sample gain f a b xs ys t l =
    let even : 2 * t % 2 ≡ 0 = omega arith in
    let half : 2 * t / 2 ≡ t = omega arith in
    item-listed (2 * (120 * f.blocks)) (λ p. if nat_eq (p % 2) 0 then sample_at gain f a xs (p / 2) else sample_at gain f b ys (p / 2)) (2 * t) (omega (arith, l))
    ∙ (λ k. if nat_eq (even k) 0 then sample_at gain f a xs (half k) else sample_at gain f b ys (half k))

samples_agree : (kind : Kind) (gain : ℤ) (x y : Made) (s t : State) → AgreeMade x y → AgreeLeft s t → (p : ℕ) → p < 120 * blocks_of kind → item (samples_of 2 kind gain x s) (2 * p) ≡ item (samples_of 2 kind gain y t) (2 * p)
unfolding samples_of
samples_agree kind gain x y s t e r p l =
    even_sample gain (form_of kind x s) s.left s.right (first_of 2 kind.channels x.left x.right) (second_of kind.channels x.left x.right) p l
    ∙ (λ k. sample_at gain (form_agrees kind x y s t e r k) (r.left_is k) (first_agrees kind x y e k) p)
    ∙ sym (even_sample gain (form_of kind y t) t.left t.right (first_of 2 kind.channels y.left y.right) (second_of kind.channels y.left y.right) p l)

pub step_state : (kind : Kind) (heard : Heard) (a b : ℕ → Shaped) (gain : ℤ) (s t : State) → AgreeLeft s t → AgreeShapes (a s.seed) (b t.seed) → AgreeLeft (step 2 kind heard a gain s).state (step 2 kind heard b gain t).state
unfolding step
step_state kind heard a b gain s t r e =
    state_agrees kind (made_of kind heard (a s.seed) s) (made_of kind heard (b t.seed) t) s t (made_agrees kind heard (a s.seed) (b t.seed) s t e r) r

pub step_samples : (kind : Kind) (heard : Heard) (a b : ℕ → Shaped) (gain : ℤ) (s t : State) → AgreeLeft s t → AgreeShapes (a s.seed) (b t.seed) → (p : ℕ) → p < 120 * blocks_of kind
    → item (step 2 kind heard a gain s).samples (2 * p) ≡ item (step 2 kind heard b gain t).samples (2 * p)
unfolding step
step_samples kind heard a b gain s t r e =
    samples_agree kind gain (made_of kind heard (a s.seed) s) (made_of kind heard (b t.seed) t) s t (made_agrees kind heard (a s.seed) (b t.seed) s t e r) r

pub conceal_state : (kind : Kind) (gain : ℤ) (s t : State) → AgreeLeft s t → AgreeLeft (conceal 2 kind gain s).state (conceal 2 kind gain t).state
unfolding conceal
conceal_state kind gain s t r = state_agrees kind (made_concealed kind s) (made_concealed kind t) s t (concealed_agrees kind s t r) r

pub conceal_samples : (kind : Kind) (gain : ℤ) (s t : State) → AgreeLeft s t → (p : ℕ) → p < 120 * blocks_of kind → item (conceal 2 kind gain s).samples (2 * p) ≡ item (conceal 2 kind gain t).samples (2 * p)
unfolding conceal
conceal_samples kind gain s t r = samples_agree kind gain (made_concealed kind s) (made_concealed kind t) s t (concealed_agrees kind s t r) r
