-- The step of a frame's bytes: concealed or read, what it shares, and inversion.
use Rattle.std.proofs.Common.{◌≡◌, ℕ, suc, ◌*◌, ◌^◌, ◌<◌, ◌≤◌, nat_lt, if◌then◌else◌, Bool, true, false, refl, sym, arith, ap, ◌∙◌, List, [], ◌∷◌, length}
use Rattle.std.specs.Prelude.{ℤ, Option, None, Some}
use Rattle.std.proofs.lemmas.Bool.Decides.{nat_tests}
use Rattle.band_shapes.specs.Frames.{Symbols, Line, padded, shapes_of}
use Rattle.band_shapes.proofs.InversionLemmas.{bands_alike}
use Rattle.celt_base.specs.declared.kind.Kind.{Kind}
use Rattle.celt_base.specs.Questions.{Answered, interval_of}
use Rattle.celt_base.specs.WalkOrders.{outcome}
use Rattle.fixed_math.specs.Items.{item}
use Rattle.frame_symbols.specs.Frames.{Sound, frame_script, first_pace}
use Rattle.frame_symbols.specs.Readings.{IsReading, reading_of, range_of}
use Rattle.frame_symbols.proofs.ReadingSteps.{computed_list, computed_value}
use Rattle.celt_synth.specs.Blocks.{blocks_of}
use Rattle.celt_synth.specs.LeftChannels.{AgreeLeft, AgreeShapes}
use Rattle.celt_synth.specs.Readings.{heard_of, shaped_by, shaped_of, bands_in, frame_step, value_in, value_of, share_by}
use Rattle.celt_synth.specs.Shared.{SharedState, shared_of, share}
use Rattle.celt_synth.specs.States.{State}
use Rattle.celt_synth.specs.Steps.{Stepped, step, conceal}
use Rattle.celt_synth.proofs.LeftLemmas.{step_state, step_samples, conceal_state, conceal_samples}
use Rattle.celt_synth.proofs.StepLemmas.{step_shared}

pub frame_concealed : (stream : ℕ) (invert : Bool) (kind : Kind) (frame : List ℕ) (gain : ℤ) (s : State) → length frame < 2 → frame_step stream invert kind frame gain s ≡ conceal stream kind gain s
unfolding frame_step
frame_concealed stream invert kind frame gain s few = by_test (nat_lt (length frame) 2) refl
  where
    by_test : (t : Bool) → nat_lt (length frame) 2 ≡ t
        → (if t then conceal stream kind gain s else step stream kind (heard_of kind (range_of kind frame) (reading_of kind frame).value) (shaped_of kind (reading_of kind frame).value invert) gain s) ≡ conceal stream kind gain s
    by_test true h = refl
    by_test false h = absurd (grind (arith, nat_tests))

pub frame_read : (stream : ℕ) (invert : Bool) (kind : Kind) (frame : List ℕ) (gain : ℤ) (s : State) → 2 ≤ length frame
    → frame_step stream invert kind frame gain s ≡ step stream kind (heard_of kind (range_of kind frame) (reading_of kind frame).value) (shaped_of kind (reading_of kind frame).value invert) gain s
unfolding frame_step
frame_read stream invert kind frame gain s some = by_test (nat_lt (length frame) 2) refl
  where
    by_test : (t : Bool) → nat_lt (length frame) 2 ≡ t
        → (if t then conceal stream kind gain s else step stream kind (heard_of kind (range_of kind frame) (reading_of kind frame).value) (shaped_of kind (reading_of kind frame).value invert) gain s)
        ≡ step stream kind (heard_of kind (range_of kind frame) (reading_of kind frame).value) (shaped_of kind (reading_of kind frame).value invert) gain s
    by_test true h = absurd (grind (arith, nat_tests))
    by_test false h = refl

pub step_read : (stream : ℕ) (invert : Bool) (kind : Kind) (frame : List ℕ) (gain : ℤ) (s : State) (range : ℕ) → 2 ≤ length frame → range ≡ range_of kind frame
    → step stream kind (heard_of kind range (reading_of kind frame).value) (shaped_of kind (reading_of kind frame).value invert) gain s ≡ frame_step stream invert kind frame gain s
step_read stream invert kind frame gain s range some e =
    ap (λ r. step stream kind (heard_of kind r (reading_of kind frame).value) (shaped_of kind (reading_of kind frame).value invert) gain s) e ∙ sym (frame_read stream invert kind frame gain s some)

-- what is shared after a frame is a function of its answers
pub frame_shares : (stream : ℕ) (invert : Bool) (kind : Kind) (frame : List ℕ) (list : List Answered) (gain : ℤ) (s : State) → 2 ≤ length frame → IsReading kind frame list
    → shared_of (frame_step stream invert kind frame gain s).state ≡ share_by kind (length frame) list (shared_of s)
unfolding share_by value_of value_in
frame_shares stream invert kind frame list gain s some r =
    let same : (reading_of kind frame).list ≡ list = computed_list kind frame list r in
    let value : value_in (outcome (frame_script kind (length frame)) first_pace list) ≡ (reading_of kind frame).value = ap value_in (computed_value kind frame list r) in
    ap (λ p. shared_of p.state) (frame_read stream invert kind frame gain s some)
    ∙ step_shared stream kind (heard_of kind (range_of kind frame) (reading_of kind frame).value) (shaped_of kind (reading_of kind frame).value invert) gain s
    ∙ (λ k. share kind (heard_of kind (interval_of (same k)).width (sym value k)) (shared_of s))

-- inversion touches the right shapes alone
shapes_agree : (kind : Kind) (symbols : Symbols) (a b : Bool) (seed : ℕ) → AgreeShapes (shaped_by kind symbols a seed) (shaped_by kind symbols b seed)
unfolding shaped_by shapes_of
shapes_agree kind symbols a b seed =
    let alike = bands_alike kind symbols a b seed kind.end in
    record {
      left_are = ap (λ (l : Line). padded (100 * 2 ^ kind.lm) l.vector) alike.left;
      seed_is = alike.seed;
      masks_are = λ k. ap (λ (l : Line). l.masks) alike.left k ∷ alike.masks k ∷ [];
    }

value_agrees : (kind : Kind) (value : Option Sound) (a b : Bool) (m n : ℕ) → m ≡ n → AgreeShapes (shaped_of kind value a m) (shaped_of kind value b n)
unfolding shaped_of
value_agrees kind None a b m n e = record { left_are = refl; seed_is = e; masks_are = refl }
value_agrees kind (Some s) a b m n e =
    let r = shapes_agree kind (bands_in s) a b m in
    record {
      left_are = r.left_are ∙ ap (λ k. (shaped_by kind (bands_in s) b k).shapes.left) e;
      seed_is = r.seed_is ∙ ap (λ k. (shaped_by kind (bands_in s) b k).shapes.seed) e;
      masks_are = r.masks_are ∙ ap (λ k. (shaped_by kind (bands_in s) b k).masks) e;
    }

pub inverted_state : (a b : Bool) (kind : Kind) (frame : List ℕ) (gain : ℤ) (s t : State) → AgreeLeft s t → AgreeLeft (frame_step 2 a kind frame gain s).state (frame_step 2 b kind frame gain t).state
unfolding frame_step
inverted_state a b kind frame gain s t r = by_test (nat_lt (length frame) 2)
  where
    value : Option Sound
    value = (reading_of kind frame).value

    by_test : (c : Bool) → AgreeLeft (if c then conceal 2 kind gain s else step 2 kind (heard_of kind (range_of kind frame) value) (shaped_of kind value a) gain s).state (if c then conceal 2 kind gain t else step 2 kind (heard_of kind (range_of kind frame) value) (shaped_of kind value b) gain t).state
    by_test true = conceal_state kind gain s t r
    by_test false = step_state kind (heard_of kind (range_of kind frame) value) (shaped_of kind value a) (shaped_of kind value b) gain s t r (value_agrees kind value a b s.seed t.seed r.seed_is)

pub inverted_samples : (a b : Bool) (kind : Kind) (frame : List ℕ) (gain : ℤ) (s t : State) → AgreeLeft s t → (p : ℕ) → p < 120 * blocks_of kind
    → item (frame_step 2 a kind frame gain s).samples (2 * p) ≡ item (frame_step 2 b kind frame gain t).samples (2 * p)
unfolding frame_step
inverted_samples a b kind frame gain s t r p l = by_test (nat_lt (length frame) 2)
  where
    value : Option Sound
    value = (reading_of kind frame).value

    by_test : (c : Bool) → item (if c then conceal 2 kind gain s else step 2 kind (heard_of kind (range_of kind frame) value) (shaped_of kind value a) gain s).samples (2 * p)
        ≡ item (if c then conceal 2 kind gain t else step 2 kind (heard_of kind (range_of kind frame) value) (shaped_of kind value b) gain t).samples (2 * p)
    by_test true = conceal_samples kind gain s t r p l
    by_test false = step_samples kind (heard_of kind (range_of kind frame) value) (shaped_of kind value a) (shaped_of kind value b) gain s t r (value_agrees kind value a b s.seed t.seed r.seed_is) p l
