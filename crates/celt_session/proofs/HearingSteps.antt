-- Slots of a batch, one after the other.
use Rattle.std.proofs.Common.{◌≡◌, ℕ, zero, suc, ◌+◌, ◌<◌, ◌≤◌, ℤ, List, [], ◌∷◌, length, slice_set, take, ◌++◌, refl, sym, ap, subst, ◌∙◌, arith, inl, inr}
use Rattle.std.specs.Prelude.{slice_index_or}
use Rattle.std.proofs.lemmas.Bool.{cases_eq}
use Rattle.std.proofs.Math.Seq.{take-append_seam}
use Rattle.std.proofs.lemmas.List.{get_or-set_same, get_or-set_other, length-set}
use Rattle.celt_base.specs.declared.kind.Kind.{Kind}
use Rattle.celt_base.specs.declared.state.Setting.{Setting}
use Rattle.celt_analysis.specs.declared.batch.WindowSlot.{WindowSlot}
use Rattle.celt_analysis.specs.Analyses.{analysis_of}
use Rattle.celt_analysis.specs.Batches.{AreWindows, IsWindow, FindsPitches, AnalysesSlots}
use Rattle.celt_analysis.specs.Signals.{setting_of, window_size}
use Rattle.celt_session.specs.declared.hearing.Trail.{Trail}
use Rattle.celt_session.specs.EncodedFrames.{pitch_of}
use Rattle.celt_session.specs.Hearings.{HoldWindows, HoldOwn, trail_by, settings_at, Passed, pitches_of, HoldHeard}
use Rattle.celt_session.proofs.EncodedSteps.{pitch_is}
use Rattle.celt_session.proofs.SlotSteps.{set_all, set_more}

-- ---- windows

pub record Filled (kind : Kind) (windows : ℕ → List ℤ) (slots : List WindowSlot) (k : ℕ) : Type 0 where
  pub sizes : AreWindows kind slots
  pub filled : (j : ℕ) (d : WindowSlot) → j < k → (slice_index_or slots j d).window.items ≡ windows j

pub filled_none : (kind : Kind) (windows : ℕ → List ℤ) (slots : List WindowSlot) → AreWindows kind slots → Filled kind windows slots 0
filled_none kind windows slots sizes = record { sizes = sizes; filled = λ j d below. absurd (omega arith) }

pub filled_more : (kind : Kind) (windows : ℕ → List ℤ) (slots : List WindowSlot) (k : ℕ) (slot : WindowSlot) → k < length slots
    → slot.window.items ≡ windows k
    → length (windows k) ≡ window_size kind
    → Filled kind windows slots k
    → Filled kind windows (slice_set slots k slot) (k + 1)
filled_more kind windows slots k slot less is size f = record {
  sizes = set_all (λ j s. IsWindow kind s) slots k slot less f.sizes (ap length is ∙ size);
  filled = set_more (λ j s. s.window.items ≡ windows j) slots k slot less f.filled is;
}

-- ---- settings

pub record Passing (own : ℕ → Setting) (t : Trail) (before slots : List WindowSlot) (now : Trail) (k : ℕ) : Type 0 where
  pub trail : now ≡ trail_by own t k
  pub done : (j : ℕ) (d : WindowSlot) → j < k → Passed own t j (slice_index_or before j d) (slice_index_or slots j d)
  pub rest : (j : ℕ) (d : WindowSlot) → k ≤ j → j < length slots → slice_index_or slots j d ≡ slice_index_or before j d

pub passing_none : (own : ℕ → Setting) (t : Trail) (slots : List WindowSlot) → Passing own t slots slots t 0
unfolding trail_by
passing_none own t slots = record { trail = refl; done = λ j d below. absurd (omega arith); rest = λ j d above below. refl }

-- what is done to one slot
pub record PassesOne (now next : Trail) (old new : WindowSlot) : Type 0 where
  pub settings : new.settings ≡ now.earlier ∷ now.last ∷ setting_of old.settings 2 ∷ []
  pub window : new.window ≡ old.window
  pub trail : next ≡ record { earlier = now.last; last = setting_of old.settings 2 }

trail_more : (own : ℕ → Setting) (t : Trail) (k : ℕ) (now next : Trail) (third : Setting) → next ≡ record { earlier = now.last; last = third } → third ≡ own k
    → now ≡ trail_by own t k
    → next ≡ trail_by own t (k + 1)
unfolding trail_by
trail_more own t k now next third a b e =
    a ∙ ap (λ s. record { earlier = now.last; last = s }) b ∙ ap (λ w. record { earlier = w.last; last = own k }) e
    ∙ let n : suc k ≡ k + 1 = omega arith in ap (trail_by own t) n

passed_one : (own : ℕ → Setting) (t : Trail) (k : ℕ) (now next : Trail) (old new : WindowSlot) → PassesOne now next old new
    → setting_of old.settings 2 ≡ own k
    → now ≡ trail_by own t k
    → Passed own t k old new
passed_one own t k now next old new one third e = record {
  settings = one.settings ∙ ap (λ s. now.earlier ∷ now.last ∷ s ∷ []) third ∙ ap (λ w. w.earlier ∷ w.last ∷ own k ∷ []) e;
  window = one.window;
}

any_default : {A : Type 0} (xs : List A) (k : ℕ) (d e : A) → k < length xs → slice_index_or xs k d ≡ slice_index_or xs k e
any_default [] k d e less = absurd (omega arith)
any_default (x ∷ xs) zero d e less = refl
any_default (x ∷ xs) (suc k) d e less = any_default xs k d e (omega arith)

pub passing_more : (own : ℕ → Setting) (t : Trail) (before slots : List WindowSlot) (now next : Trail) (k : ℕ) (d new : WindowSlot) → HoldOwn own before
    → length slots ≡ length before
    → k < length slots
    → PassesOne now next (slice_index_or slots k d) new
    → Passing own t before slots now k
    → Passing own t before (slice_set slots k new) next (k + 1)
passing_more own t before slots now next k d new owns same less one p =
    let old = slice_index_or slots k d in
    let was : old ≡ slice_index_or before k d = p.rest k d (omega arith) less in
    let third : setting_of old.settings 2 ≡ own k = ap (λ s. setting_of s.settings 2) was ∙ owns k d (omega (arith, same, less)) in
    let passed : (e : WindowSlot) → Passed own t k (slice_index_or before k e) new =
    λ e. subst (λ s. Passed own t k s new) (was ∙ any_default before k d e (omega (arith, same, less))) (passed_one own t k now next old new one third p.trail) in
    record {
      trail = trail_more own t k now next (setting_of old.settings 2) one.trail third p.trail;
      done = λ j e below.
          elim (cases_eq j k) [
            | inl here ↦
                subst (λ i. Passed own t i (slice_index_or before i e) (slice_index_or (slice_set slots k new) i e)) (sym here)
                (subst (Passed own t k (slice_index_or before k e)) (sym (get_or-set_same slots k new e less)) (passed e))
            | inr other ↦
                subst (Passed own t j (slice_index_or before j e)) (sym (get_or-set_other slots k j new e other)) (p.done j e (omega (arith, below, other)))
          ];
      rest = λ j e above below.
          get_or-set_other slots k j new e (λ here. absurd (omega (arith, above, here)))
          ∙ p.rest j e (omega arith) (let l = length-set slots k new in omega (arith, l, below));
    }

-- ---- what is heard

pub owns_pitches : (kind : Kind) (windows : ℕ → List ℤ) (before after : List WindowSlot) → length after ≡ length before → HoldWindows windows before → FindsPitches kind before after
    → HoldOwn (pitches_of kind windows) after
owns_pitches kind windows before after same holds finds k d less =
    let f = finds k d (omega (arith, same, less)) in
    let w = holds k d (omega (arith, same, less)) in
    pitch_is kind (slice_index_or before k d).window.items (setting_of (slice_index_or after k d).settings 2) f.pitch ∙ ap (pitch_of kind) w

pub windows_stay : (windows : ℕ → List ℤ) (before after : List WindowSlot) → length after ≡ length before → HoldWindows windows before
    → ((k : ℕ) (d : WindowSlot) → k < length before → (slice_index_or after k d).window ≡ (slice_index_or before k d).window)
    → HoldWindows windows after
windows_stay windows before after same holds stay k d less =
    let below : k < length before = omega (arith, same, less) in
    ap (λ w. w.items) (stay k d below) ∙ holds k d below

pub sizes_stay : (kind : Kind) (before after : List WindowSlot) → length after ≡ length before → AreWindows kind before
    → ((k : ℕ) (d : WindowSlot) → k < length before → (slice_index_or after k d).window ≡ (slice_index_or before k d).window)
    → AreWindows kind after
sizes_stay kind before after same sizes stay k d less =
    let below : k < length before = omega (arith, same, less) in
    ap (λ w. length w.items) (stay k d below) ∙ sizes k d below

pub hears_all : (kind : Kind) (windows : ℕ → List ℤ) (t : Trail) (pitched passed after : List WindowSlot) → length passed ≡ length pitched → length after ≡ length passed
    → HoldWindows windows pitched
    → ((k : ℕ) (d : WindowSlot) → k < length pitched → Passed (pitches_of kind windows) t k (slice_index_or pitched k d) (slice_index_or passed k d))
    → AnalysesSlots kind passed after
    → HoldHeard kind windows t after
hears_all kind windows t pitched passed after one two holds passes finds k d less =
    let below : k < length pitched = omega (arith, one, two, less) in
    let f = finds k d (omega (arith, two, less)) in
    let p = passes k d below in
    f.analysis ∙ ap (λ s. analysis_of kind s (slice_index_or passed k d).window.items) p.settings
    ∙ ap (λ w. analysis_of kind (settings_at (pitches_of kind windows) t k) w.items) p.window
    ∙ ap (λ w. analysis_of kind (settings_at (pitches_of kind windows) t k) w) (holds k d below)

-- the first slots, which were heard
pub heard_in_front : (kind : Kind) (windows : ℕ → List ℤ) (t : Trail) (front back : List WindowSlot) (count : ℕ) → length front ≡ count → HoldHeard kind windows t front
    → HoldHeard kind windows t (take count (front ++ back))
heard_in_front kind windows t front back count len heard =
    subst (HoldHeard kind windows t) (sym (ap (λ n. take n (front ++ back)) (sym len) ∙ take-append_seam front back)) heard
