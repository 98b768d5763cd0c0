-- The frame step by the parts of a decoder.
use mathlib.Core.HLevel.{is_prop→PathP}
use native.Mathlib.Bridge.{le_prop}
use Rattle.std.proofs.Common.{◌≡◌, ℕ, zero, suc, ◌+◌, ◌*◌, ◌^◌, ◌<◌, ◌≤◌, nat_eq, nat_lt, if◌then◌else◌, Bool, true, false, refl, sym, subst, inl, inr, arith, ap, ◌∙◌, List, length}
use Rattle.std.specs.Prelude.{ℤ, pos, IsTrue, ◌⊎◌}
use Rattle.celt_base.specs.Ends.{is_band_end}
use Rattle.std.proofs.lemmas.Bool.Decides.{nat_tests}
use Rattle.celt_base.specs.declared.kind.Kind.{Kind}
use Rattle.celt_base.specs.declared.state.Setting.{Setting}
use Rattle.celt_base.specs.States.{IsOff}
use Rattle.mdct_fixed.specs.Mdct.{IsSize}
use Rattle.celt_synth.specs.Blocks.{blocks_of}
use Rattle.celt_synth.specs.AntiCollapse.{all_uncollapsed, uncollapsed_if}
use Rattle.celt_synth.specs.Decoders.{state_sounded, samples_sounded, state_ended, IsMade, Hears}
use Rattle.celt_synth.specs.Concealment.{noise_shapes, concealed_energies}
use Rattle.celt_synth.specs.Rows.{greater, lowered, silenced, energies_after, older1_after, older2_after}
use Rattle.celt_synth.specs.Shapes.{Shapes, Shaped, shapes_of}
use Rattle.celt_synth.specs.Shared.{Heard, shared_of, shared_after, share, silent_energies, energies_in, setting_in}
use Rattle.celt_synth.specs.Signals.{Channel, channel_after, mono_samples, stereo_samples}
use Rattle.celt_synth.specs.States.{State, off}
use Rattle.celt_synth.specs.Steps.{Made, no_spectrum, spectrum_in, grounds_of, shapes_in, form_of, state_after, samples_of, made_concealed, made_silent, made_sounding, made_of, step}
use Rattle.celt_synth.specs.Streams.{middle_of, first_of, second_of}
use Rattle.celt_synth.specs.declared.anti_collapse.Grounds.{Grounds}
use Rattle.celt_synth.specs.declared.decoder.Ending.{Ending}
use Rattle.celt_synth.specs.declared.decoder.Shaping.{Shaping}
use Rattle.celt_synth.specs.declared.signals.Form.{Form}
use Rattle.celt_synth.proofs.LeftLemmas.{SameLeft, asked_left}

pub setting_same : (a b : Setting) → a.period ≡ b.period → a.gain ≡ b.gain → a.tapset ≡ b.tapset → a ≡ b
setting_same a b p g t = λ k. record {
  period = p k;
  gain = g k;
  tapset = t k;
  least_period = is_prop→PathP (λ l. 15 ≤ p l) (λ l. le_prop) a.least_period b.least_period k;
  most_period = is_prop→PathP (λ l. p l ≤ 1022) (λ l. le_prop) a.most_period b.most_period k;
  most_gain = is_prop→PathP (λ l. g l ≤ 24576) (λ l. le_prop) a.most_gain b.most_gain k;
  most_tapset = is_prop→PathP (λ l. t l ≤ 2) (λ l. le_prop) a.most_tapset b.most_tapset k;
}

pub off_is : (s : Setting) → IsOff s → s ≡ off
off_is s o = setting_same s off o.period o.gain o.tapset

-- a frame has 1, 2, 4 or 8 blocks
pub blocks_size : (kind : Kind) → IsSize (120 * blocks_of kind)
blocks_size kind = by_size kind.lm kind.sized
  where
    by_size : (lm : ℕ) → lm ≤ 3 → IsSize (120 * 2 ^ lm)
    by_size zero l = inl refl
    by_size (suc zero) l = inr (inl refl)
    by_size (suc (suc zero)) l = inr (inr (inl refl))
    by_size (suc (suc (suc zero))) l = inr (inr (inr refl))
    by_size (suc (suc (suc (suc n)))) l = absurd (omega arith)

pub end_most : (kind : Kind) → kind.end ≤ 21
end_most kind = ended kind.end kind.ended
  where
    ended : (n : ℕ) → IsTrue (is_band_end n) → n ≤ 21
    ended n e = grind (arith, nat_tests)

-- the second spectrum of a mono frame is not heard
first_alone : (stream frame : ℕ) (xs ys zs : List ℤ) → 1 ≤ stream → frame ≡ 1 → first_of stream frame xs ys ≡ first_of stream frame xs zs
unfolding first_of
first_alone stream frame xs ys zs some e = by_test (nat_lt stream frame) refl
  where
    by_test : (t : Bool) → nat_lt stream frame ≡ t → (if t then middle_of xs ys else xs) ≡ (if t then middle_of xs zs else xs)
    by_test true h = absurd (grind (arith, nat_tests))
    by_test false h = refl

second_alone : (frame : ℕ) (xs ys zs : List ℤ) → frame ≡ 1 → second_of frame xs ys ≡ second_of frame xs zs
unfolding second_of
second_alone frame xs ys zs e = rw e refl

one_or_two : (kind : Kind) → (kind.channels ≡ 1) ⊎ (kind.channels ≡ 2)
one_or_two kind = by_count kind.channels kind.some_channel kind.two_channels
  where
    by_count : (n : ℕ) → 1 ≤ n → n ≤ 2 → (n ≡ 1) ⊎ (n ≡ 2)
    by_count zero l h = absurd (omega arith)
    by_count (suc zero) l h = inl refl
    by_count (suc (suc zero)) l h = inr refl
    by_count (suc (suc (suc n))) l h = absurd (omega arith)

first_same : (stream : ℕ) (kind : Kind) (xs ys us vs : List ℤ) → 1 ≤ stream → xs ≡ us → (kind.channels ≡ 2 → ys ≡ vs) → first_of stream kind.channels xs ys ≡ first_of stream kind.channels us vs
first_same stream kind xs ys us vs some e f = elim (one_or_two kind) [
  | inl one ↦ ap (λ zs. first_of stream kind.channels zs ys) e ∙ first_alone stream kind.channels us ys vs some one
  | inr two ↦ λ k. first_of stream kind.channels (e k) (f two k)
]

second_same : (kind : Kind) (xs ys us vs : List ℤ) → xs ≡ us → (kind.channels ≡ 2 → ys ≡ vs) → second_of kind.channels xs ys ≡ second_of kind.channels us vs
second_same kind xs ys us vs e f = elim (one_or_two kind) [
  | inl one ↦ ap (λ zs. second_of kind.channels zs ys) e ∙ second_alone kind.channels us ys vs one
  | inr two ↦ λ k. second_of kind.channels (e k) (f two k)
]

abbrev pub form_by : Kind → Ending → State → Form
form_by kind e s = record { blocks = blocks_of kind; transient = e.transient; before = s.before; now = s.now; frame = e.setting }

-- a frame that has sounded and ended is the frame step
pub state_finished : (stream : ℕ) (kind : Kind) (e : Ending) (xs ys : List ℤ) (made : Made) (s : State) → 1 ≤ stream → IsMade kind e s.energies xs ys made
    → state_ended kind e (state_sounded stream kind.channels (form_by kind e s) xs ys s) ≡ state_after stream kind made s
unfolding state_ended state_sounded state_after
state_finished stream kind e xs ys made s some r =
    let first = first_same stream kind xs ys made.left made.right some r.left_is r.right_is in
    let second = second_same kind xs ys made.left made.right r.left_is r.right_is in
    let form : form_by kind e s ≡ form_of kind made s = λ k. record { blocks = blocks_of kind; transient = r.transient_is k; before = s.before; now = s.now; frame = r.setting_is k } in
    λ k. record {
      energies = energies_after kind.channels kind.end (r.energies_are k);
      older1 = older1_after kind.channels kind.end (r.transient_is k) (r.energies_are k) s.older1;
      older2 = older2_after kind.end (r.transient_is k) s.older1 s.older2;
      seed = r.seed_is k;
      range = r.range_is k;
      before = if nat_eq kind.lm 0 then s.now else r.setting_is k;
      now = r.setting_is k;
      left = channel_after (form k) s.left (first k);
      right = if nat_eq stream 2 then channel_after (form k) s.right (second k) else s.right;
    }

pub samples_finished : (stream : ℕ) (kind : Kind) (gain : ℤ) (e : Ending) (xs ys : List ℤ) (made : Made) (s : State) → 1 ≤ stream → IsMade kind e s.energies xs ys made
    → samples_sounded stream kind.channels gain (form_by kind e s) xs ys s ≡ samples_of stream kind gain made s
unfolding samples_sounded samples_of
samples_finished stream kind gain e xs ys made s some r =
    let first = first_same stream kind xs ys made.left made.right some r.left_is r.right_is in
    let second = second_same kind xs ys made.left made.right r.left_is r.right_is in
    let form : form_by kind e s ≡ form_of kind made s = λ k. record { blocks = blocks_of kind; transient = r.transient_is k; before = s.before; now = s.now; frame = r.setting_is k } in
    λ k. if nat_eq stream 2 then stereo_samples gain (form k) s.left s.right (first k) (second k) else mono_samples gain (form k) s.left (first k)

-- what sounds in a stream of two channels, and of one
chosen : {A : Type 0} (stream : ℕ) (x y : A) → stream ≡ 2 → x ≡ (if nat_eq stream 2 then x else y)
chosen stream x y e = rw e refl

other : {A : Type 0} (stream : ℕ) (x y : A) → stream ≡ 1 → y ≡ (if nat_eq stream 2 then x else y)
other stream x y e = rw e refl

first_left : (stream frame : ℕ) (xs ys : List ℤ) → stream ≡ 2 → frame ≤ 2 → xs ≡ first_of stream frame xs ys
unfolding first_of
first_left stream frame xs ys e l = by_test (nat_lt stream frame) refl
  where
    by_test : (t : Bool) → nat_lt stream frame ≡ t → xs ≡ (if t then middle_of xs ys else xs)
    by_test true h = absurd (grind (arith, nat_tests))
    by_test false h = refl

abbrev sounded : State → Channel → Channel → State
sounded s l r = record { energies = s.energies; older1 = s.older1; older2 = s.older2; seed = s.seed; range = s.range; before = s.before; now = s.now; left = l; right = r }

pub both_sounded : (stream frame : ℕ) (form : Form) (xs ys zs : List ℤ) (s : State) (l r : Channel) → stream ≡ 2 → frame ≤ 2 → zs ≡ second_of frame xs ys
    → l ≡ channel_after form s.left xs → r ≡ channel_after form s.right zs → sounded s l r ≡ state_sounded stream frame form xs ys s
unfolding state_sounded
both_sounded stream frame form xs ys zs s l r two few z hl hr =
    let first : l ≡ channel_after form s.left (first_of stream frame xs ys) = hl ∙ ap (channel_after form s.left) (first_left stream frame xs ys two few) in
    let second : r ≡ (if nat_eq stream 2 then channel_after form s.right (second_of frame xs ys) else s.right) =
    hr ∙ ap (channel_after form s.right) z ∙ chosen stream (channel_after form s.right (second_of frame xs ys)) s.right two in
    λ k. sounded s (first k) (second k)

pub both_samples : (stream frame : ℕ) (gain : ℤ) (form : Form) (xs ys zs out : List ℤ) (s : State) → stream ≡ 2 → frame ≤ 2 → zs ≡ second_of frame xs ys
    → out ≡ stereo_samples gain form s.left s.right xs zs → out ≡ samples_sounded stream frame gain form xs ys s
unfolding samples_sounded
both_samples stream frame gain form xs ys zs out s two few z e =
    e ∙ (λ k. stereo_samples gain form s.left s.right (first_left stream frame xs ys two few k) (z k))
    ∙ chosen stream (stereo_samples gain form s.left s.right (first_of stream frame xs ys) (second_of frame xs ys)) (mono_samples gain form s.left (first_of stream frame xs ys)) two

pub one_sounded : (stream frame : ℕ) (form : Form) (xs ys zs : List ℤ) (s : State) (l : Channel) → stream ≡ 1 → zs ≡ first_of 1 frame xs ys
    → l ≡ channel_after form s.left zs → sounded s l s.right ≡ state_sounded stream frame form xs ys s
unfolding state_sounded
one_sounded stream frame form xs ys zs s l one z hl =
    let first : l ≡ channel_after form s.left (first_of stream frame xs ys) = hl ∙ ap (channel_after form s.left) (z ∙ ap (λ n. first_of n frame xs ys) (sym one)) in
    λ k. sounded s (first k) (other stream (channel_after form s.right (second_of frame xs ys)) s.right one k)

pub one_samples : (stream frame : ℕ) (gain : ℤ) (form : Form) (xs ys zs out : List ℤ) (s : State) → stream ≡ 1 → zs ≡ first_of 1 frame xs ys
    → out ≡ mono_samples gain form s.left zs → out ≡ samples_sounded stream frame gain form xs ys s
unfolding samples_sounded
one_samples stream frame gain form xs ys zs out s one z e =
    e ∙ ap (mono_samples gain form s.left) (z ∙ ap (λ n. first_of n frame xs ys) (sym one))
    ∙ other stream (stereo_samples gain form s.left s.right (first_of stream frame xs ys) (second_of frame xs ys)) (mono_samples gain form s.left (first_of stream frame xs ys)) one

-- a form by its parts
pub form_is : (kind : Kind) (e : Ending) (s : State) (f : Form) → f.blocks ≡ blocks_of kind → f.transient ≡ e.transient → f.before ≡ s.before → f.now ≡ s.now → f.frame ≡ e.setting → f ≡ form_by kind e s
form_is kind e s f a b c d g = λ k. record { blocks = a k; transient = b k; before = c k; now = d k; frame = g k }

-- what a concealed frame comes to
pub concealed_made : (kind : Kind) (s : State) (e : Ending) (es mid : List (List ℤ)) (xs ys : List ℤ) → mid ≡ greater kind.channels s.energies → es ≡ lowered kind.channels kind.end mid
    → xs ≡ spectrum_in kind es 0 (noise_shapes kind kind.end s.seed).left → (kind.channels ≡ 2 → ys ≡ spectrum_in kind es 1 (noise_shapes kind kind.end s.seed).right)
    → e.transient ≡ false → IsOff e.setting → e.range ≡ 0 → e.seed ≡ (noise_shapes kind kind.end s.seed).seed → IsMade kind e es xs ys (made_concealed kind s)
unfolding made_concealed concealed_energies
concealed_made kind s e es mid xs ys hm he hx hy ht ho hr hs =
    let same : es ≡ lowered kind.channels kind.end (greater kind.channels s.energies) = he ∙ ap (lowered kind.channels kind.end) hm in
    record {
      left_is = hx ∙ ap (λ rows. spectrum_in kind rows 0 (noise_shapes kind kind.end s.seed).left) same;
      right_is = λ two. hy two ∙ ap (λ rows. spectrum_in kind rows 1 (noise_shapes kind kind.end s.seed).right) same;
      transient_is = ht;
      setting_is = off_is e.setting ho;
      energies_are = same;
      range_is = hr;
      seed_is = hs;
    }

-- what is shared after a frame that was read
pub step_shared : (stream : ℕ) (kind : Kind) (heard : Heard) (shaped : ℕ → Shaped) (gain : ℤ) (s : State) → shared_of (step stream kind heard shaped gain s).state ≡ share kind heard (shared_of s)
unfolding step state_after made_of made_silent made_sounding share energies_in setting_in
step_shared stream kind heard shaped gain s = by_test heard.silent
  where
    by_test : (t : Bool) → shared_of (state_after stream kind (if t then made_silent kind heard.range (silent_energies kind s.energies) else made_sounding kind heard (shaped s.seed) (heard.changed (greater kind.channels s.energies)) s) s)
        ≡ shared_after kind (if t then silent_energies kind s.energies else heard.changed (greater kind.channels s.energies)) heard.range heard.range (if t then off else heard.setting) (shared_of s)
    by_test true = refl
    by_test false = refl

-- what a silent frame comes to
pub silent_made : (kind : Kind) (es mid old : List (List ℤ)) (range : ℕ) (e : Ending) (xs ys : List ℤ) → mid ≡ greater kind.channels old → es ≡ silenced kind.channels mid
    → xs ≡ no_spectrum kind → ys ≡ no_spectrum kind → e.transient ≡ false → IsOff e.setting → e.range ≡ range → e.seed ≡ range → IsMade kind e es xs ys (made_silent kind range (silent_energies kind old))
unfolding made_silent silent_energies
silent_made kind es mid old range e xs ys hm he hx hy ht ho hr hs = record {
  left_is = hx;
  right_is = λ two. hy;
  transient_is = ht;
  setting_is = off_is e.setting ho;
  energies_are = he ∙ ap (silenced kind.channels) hm;
  range_is = hr;
  seed_is = hs;
}

-- what a frame comes to whose shapes these are
pub sounding_made : (kind : Kind) (shaping : Shaping) (heard : Heard) (shaped : Shaped) (s : State) (g : Grounds) (e : Ending) (xs ys us vs left right : List ℤ)
    → Hears kind shaping xs ys heard shaped
    → g ≡ record { kind = kind; pulses = shaping.pulses; masks = shaping.masks; energies = s.energies; older1 = s.older1; older2 = s.older2 }
    → us ≡ (uncollapsed_if shaping.collapse g (shapes_of xs ys shaping.seed)).left → vs ≡ (uncollapsed_if shaping.collapse g (shapes_of xs ys shaping.seed)).right
    → left ≡ spectrum_in kind s.energies 0 us → (kind.channels ≡ 2 → right ≡ spectrum_in kind s.energies 1 vs)
    → e.transient ≡ shaping.transient → e.setting ≡ shaping.setting → e.range ≡ shaping.range → e.seed ≡ shaping.range
    → IsMade kind e s.energies left right (made_sounding kind heard shaped s.energies s)
unfolding made_sounding shapes_in
sounding_made kind shaping heard shaped s g e xs ys us vs left right r hg hu hv hl hr t f a b =
    let same : g ≡ grounds_of kind heard shaped s.energies s =
    hg ∙ (λ k. record { kind = kind; pulses = r.pulses_are k; masks = r.masks_are k; energies = s.energies; older1 = s.older1; older2 = s.older2 }) in
    let first : us ≡ (uncollapsed_if heard.collapse (grounds_of kind heard shaped s.energies s) shaped.shapes).left =
    hu ∙ (λ k. (uncollapsed_if (r.collapse_is k) (same k) (shapes_of xs ys shaping.seed)).left)
    ∙ (asked_left heard.collapse (grounds_of kind heard shaped s.energies s) (shapes_of xs ys shaping.seed) shaped.shapes (record { left = r.left_is; seed = r.seed_is })).left in
    record {
      left_is = hl ∙ ap (spectrum_in kind s.energies 0) first;
      right_is = λ two. hr two ∙ ap (spectrum_in kind s.energies 1) (hv ∙ (λ k. (uncollapsed_if (r.collapse_is k) (same k) (shapes_of (r.left_is k) (r.right_is two k) (r.seed_is k))).right));
      transient_is = t ∙ r.transient_is;
      setting_is = f ∙ r.setting_is;
      energies_are = refl;
      range_is = a ∙ r.range_is;
      seed_is = b ∙ r.range_is;
    }

pub asked : (g : Grounds) (s : Shapes) → all_uncollapsed g g.kind.end s ≡ uncollapsed_if true g s
unfolding uncollapsed_if
asked g s = refl

pub not_asked : (g : Grounds) (s : Shapes) → s ≡ uncollapsed_if false g s
unfolding uncollapsed_if
not_asked g s = refl
