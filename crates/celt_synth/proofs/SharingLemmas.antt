-- What is shared after a frame: by its symbols, by its answers, and from the start on.
use Rattle.std.proofs.Common.{◌≡◌, ℕ, ◌≤◌, nat_eq, if◌then◌else◌, Bool, true, false, true≢false, refl, sym, ap, ◌∙◌, List, length}
use Rattle.std.specs.Prelude.{ℤ, pos, Option, None, Some, replicate}
use Rattle.band_energy.specs.EnergyValues.{energies_of}
use Rattle.celt_base.specs.declared.kind.Kind.{Kind}
use Rattle.celt_base.specs.declared.state.Setting.{Setting}
use Rattle.celt_base.specs.declared.state.Shared.{Shared}
use Rattle.celt_base.specs.Questions.{Answered}
use Rattle.celt_base.specs.States.{IsOff}
use Rattle.celt_base.specs.WalkOrders.{outcome}
use Rattle.frame_symbols.specs.declared.fields.Fields.{Fields}
use Rattle.frame_symbols.specs.declared.symbols.Symbols.{Symbols}
use Rattle.frame_symbols.specs.Frames.{Sound, frame_script, first_pace}
use Rattle.frame_symbols.specs.Held.{HoldsFrame}
use Rattle.frame_symbols.specs.HeldSymbols.{AreOf, answers_in}
use Rattle.frame_symbols.specs.Readings.{IsReading}
use Rattle.celt_synth.specs.Readings.{heard_of, setting_of, frame_step, value_in, value_of, share_by}
use Rattle.celt_synth.specs.Rows.{greater, energies_after}
use Rattle.celt_synth.specs.Shared.{SharedState, shared_of, shared_in, share, silent_energies, energies_in, setting_in}
use Rattle.celt_synth.specs.States.{State, start}
use Rattle.celt_synth.proofs.FrameLemmas.{frame_shares}
use Rattle.celt_synth.proofs.ReadingLemmas.{changed_held}
use Rattle.celt_synth.proofs.StepLemmas.{off_is}

-- the energies and the setting of a frame that is silent, and of one that is not
pub energies_silent : (kind : Kind) (f : Fields) (range : ℕ) (value : Option Sound) (es : List (List ℤ)) → HoldsFrame kind f value → f.silent ≡ true
    → silent_energies kind es ≡ energies_in kind (heard_of kind range value) es
unfolding energies_in heard_of
energies_silent kind f range None es h e = refl
energies_silent kind f range (Some s) es h e = absurd (true≢false (sym e ∙ h.sounds))

pub changed_in : (kind : Kind) (f : Fields) (range : ℕ) (value : Option Sound) (es : List (List ℤ)) → HoldsFrame kind f value → f.silent ≡ false → (heard_of kind range value).changed (greater kind.channels es) ≡ energies_in kind (heard_of kind range value) es
unfolding energies_in heard_of
changed_in kind f range None es h e = absurd (true≢false (sym h.silent ∙ e))
changed_in kind f range (Some s) es h e = refl

pub energies_sounding : (kind : Kind) (f : Fields) (range : ℕ) (value : Option Sound) (es : List (List ℤ)) → HoldsFrame kind f value → f.silent ≡ false
    → energies_of kind f.opening.intra f.allocation f.energy (greater kind.channels es) ≡ energies_in kind (heard_of kind range value) es
energies_sounding kind f range value es h e = changed_held kind f range value (greater kind.channels es) h e ∙ changed_in kind f range value es h e

pub setting_silent : (kind : Kind) (f : Fields) (range : ℕ) (value : Option Sound) (x : Setting) → HoldsFrame kind f value → f.silent ≡ true → IsOff x → x ≡ setting_in (heard_of kind range value)
unfolding setting_in heard_of
setting_silent kind f range None x h e o = off_is x o
setting_silent kind f range (Some s) x h e o = absurd (true≢false (sym e ∙ h.sounds))

pub setting_sounding : (kind : Kind) (f : Fields) (range : ℕ) (value : Option Sound) (x : Setting) → HoldsFrame kind f value → f.silent ≡ false → x ≡ setting_of f.opening.post_filter → x ≡ setting_in (heard_of kind range value)
unfolding setting_in heard_of
setting_sounding kind f range None x h e s = absurd (true≢false (sym h.silent ∙ e))
setting_sounding kind f range (Some v) x h e s = s ∙ ap (λ o. setting_of o.post_filter) h.opening

-- what is shared, from its parts
pub shared_held : (kind : Kind) (range : ℕ) (value : Option Sound) (before result : SharedState) (es : List (List ℤ)) (setting : Setting)
    → es ≡ energies_in kind (heard_of kind range value) before.energies → setting ≡ setting_in (heard_of kind range value)
    → result.range ≡ range → result.seed ≡ range → result.energies ≡ energies_after kind.channels kind.end es
    → result.before ≡ (if nat_eq kind.lm 0 then before.now else setting) → result.now ≡ setting
    → result ≡ share kind (heard_of kind range value) before
unfolding share heard_of
shared_held kind range None before result es setting e s r d n b w = λ k. record {
  range = r k;
  energies = (n ∙ ap (energies_after kind.channels kind.end) e) k;
  seed = d k;
  before = (b ∙ ap (λ x. if nat_eq kind.lm 0 then before.now else x) s) k;
  now = (w ∙ s) k;
}
shared_held kind range (Some v) before result es setting e s r d n b w = λ k. record {
  range = r k;
  energies = (n ∙ ap (energies_after kind.channels kind.end) e) k;
  seed = d k;
  before = (b ∙ ap (λ x. if nat_eq kind.lm 0 then before.now else x) s) k;
  now = (w ∙ s) k;
}

-- by the answers
pub shared_answers : (kind : Kind) (len : ℕ) (s : Symbols) (x : SharedState) (are : AreOf kind len s) → share kind (heard_of kind s.range are.fields.value) x ≡ share_by kind len (answers_in s) x
unfolding share_by value_of value_in
shared_answers kind len s x are =
    let value : are.fields.value ≡ value_in (outcome (frame_script kind len) first_pace (answers_in s)) = sym (ap value_in are.fields.outcome_is) in
    λ k. share kind (heard_of kind (are.range_is k) (value k)) x

pub begins : (x : Shared) → x.range ≡ 0 → x.energies ≡ replicate 2 (replicate 21 (pos 0)) → x.seed ≡ 0 → IsOff x.before → IsOff x.now → shared_in x ≡ shared_of start
unfolding start
begins x r e s b n = λ k. record { range = r k; energies = e k; seed = s k; before = off_is x.before b k; now = off_is x.now n k }

pub shares : (stream : ℕ) (invert : Bool) (kind : Kind) (frame : List ℕ) (list : List Answered) (gain : ℤ) (s : State) (x : SharedState) → 2 ≤ length frame → IsReading kind frame list → x ≡ shared_of s
    → share_by kind (length frame) list x ≡ shared_of (frame_step stream invert kind frame gain s).state
shares stream invert kind frame list gain s x some r e = ap (share_by kind (length frame) list) e ∙ sym (frame_shares stream invert kind frame list gain s some r)
