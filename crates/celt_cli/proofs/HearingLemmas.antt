-- The frames of `gen`, one after the other.
use Rattle.std.proofs.Common.{◌≡◌, ℕ, ℤ, suc, ◌+◌, ◌*◌, ◌^◌, arith, refl, sym, subst, ap, ap₂, ◌∙◌, List, [], ◌∷◌, ◌++◌, append-nil, append_assoc, map, Bool}
use Rattle.std.specs.Prelude.{if◌then◌else◌, cond}
use Rattle.std.proofs.lemmas.List.FromFn.{sum_by-map-range_with_len_more}
use Rattle.celt_base.specs.declared.kind.Kind.{Kind}
use Rattle.frame_symbols.specs.Readings.{range_of}
use Rattle.celt_synth.specs.Decoders.{Decoder, with_state}
use Rattle.celt_synth.specs.States.{State, start}
use Rattle.celt_session.specs.Frames.{Frame, framed, kind_of}
use Rattle.celt_session.specs.FrameFunctions.{FrameFunction, state_before, frame_at, frames_from}
use Rattle.celt_session.specs.Playing.{decoder_step}
use Rattle.celt_session.specs.Samples.{decoder_after, samples_of}
use Rattle.celt_cli.specs.declared.generator.GenSettings.{GenSettings}
use Rattle.celt_cli.specs.declared.hearing.Heard.{Heard}
use Rattle.celt_cli.specs.declared.tally.Tally.{Tally}
use Rattle.celt_cli.specs.GenLines.{row_for, frames_for, is_replaced_at, replaced_among, gen_target, decoded, last_range}
use Rattle.celt_cli.specs.GenSignals.{window_for}
use Rattle.celt_cli.specs.GenSums.{HasTallied}
use Rattle.celt_cli.specs.Hearings.{HeardFrame, HasHeard, new_decoder, step_from}
use Rattle.celt_cli.specs.Makers.{Makers, gen_kind, gen_bytes}

gen_lm : gen_kind.lm ≡ 3
unfolding kind_of
gen_lm = refl

-- the samples of a frame
pub gen_length : (kind : Kind) (channels : ℕ) → kind ≡ gen_kind → channels ≡ 2 → 1920 ≡ 120 * 2 ^ kind.lm * channels
gen_length kind channels k two = sym (ap₂ (λ l n. 120 * 2 ^ l * n) (ap (λ (x : Kind). x.lm) k ∙ gen_lm) two)

-- ---- ONE FRAME MORE

after_more : (s : State) (xs : List Frame) (y : Frame) → decoder_after decoder_step s gen_target (xs ++ y ∷ []) ≡ decoder_step.after (decoder_after decoder_step s gen_target xs) gen_target y
unfolding decoder_after
after_more s [] y = refl
after_more s (x ∷ xs) y = after_more (decoder_step.after s gen_target x) xs y

samples_more : (s : State) (xs : List Frame) (y : Frame)
    → samples_of decoder_step s gen_target (xs ++ y ∷ []) ≡ samples_of decoder_step s gen_target xs ++ decoder_step.samples (decoder_after decoder_step s gen_target xs) gen_target y
unfolding decoder_after samples_of
samples_more s [] y = append-nil (decoder_step.samples s gen_target y)
samples_more s (x ∷ xs) y =
    ap (λ l. decoder_step.samples s gen_target x ++ l) (samples_more (decoder_step.after s gen_target x) xs y)
    ∙ sym (append_assoc (decoder_step.samples s gen_target x) (samples_of decoder_step (decoder_step.after s gen_target x) gen_target xs)
    (decoder_step.samples (decoder_after decoder_step (decoder_step.after s gen_target x) gen_target xs) gen_target y))

map_more : (xs : List (List ℕ)) (y : List ℕ) → map (framed gen_kind) (xs ++ y ∷ []) ≡ map (framed gen_kind) xs ++ framed gen_kind y ∷ []
map_more [] y = refl
map_more (x ∷ xs) y = ap (λ l. framed gen_kind x ∷ l) (map_more xs y)

frames_more : (f : FrameFunction) (settings : GenSettings) (t : ℕ) → frames_for f settings (suc t) ≡ frames_for f settings t ++ framed gen_kind (frame_at f (row_for f settings) t) ∷ []
unfolding frames_from
frames_more f settings t =
    let e : 0 + t ≡ t = omega arith in
    map_more (frames_from (frame_at f (row_for f settings)) 0 t) (frame_at f (row_for f settings) (0 + t))
    ∙ ap (λ n. frames_for f settings t ++ framed gen_kind (frame_at f (row_for f settings) n) ∷ []) e

decoded_more : (f : FrameFunction) (settings : GenSettings) (t : ℕ)
    → decoded f settings (suc t) ≡ decoded f settings t ++ decoder_step.samples (decoder_after decoder_step start gen_target (frames_for f settings t)) gen_target (framed gen_kind (frame_at f (row_for f settings) t))
unfolding decoded
decoded_more f settings t =
    ap (samples_of decoder_step start gen_target) (frames_more f settings t) ∙ samples_more start (frames_for f settings t) (framed gen_kind (frame_at f (row_for f settings) t))

heard_more : (f : FrameFunction) (settings : GenSettings) (t : ℕ)
    → decoder_after decoder_step start gen_target (frames_for f settings (suc t))
    ≡ decoder_step.after (decoder_after decoder_step start gen_target (frames_for f settings t)) gen_target (framed gen_kind (frame_at f (row_for f settings) t))
heard_more f settings t =
    ap (decoder_after decoder_step start gen_target) (frames_more f settings t) ∙ after_more start (frames_for f settings t) (framed gen_kind (frame_at f (row_for f settings) t))

replaced_more : {M : Type 0} (m : Makers M) (settings : GenSettings) (t : ℕ) → replaced_among m settings (t + 1) ≡ replaced_among m settings t + (if is_replaced_at m settings t then 1 else 0)
unfolding replaced_among
replaced_more m settings t = let e : 0 + t ≡ t = omega arith in sum_by-map-range_with_len_more (λ (b : Bool). cond b 1 0) (is_replaced_at m settings) 0 t t e

-- ---- THE LOOP

-- so many frames were heard, and the next one can be
pub record Hearing {M : Type 0} (m : Makers M) (settings : GenSettings) (count : ℕ) (maker : M) (decoder : Decoder) (heard : Heard) : Type 0 where
  pub has : HasHeard m settings count heard
  pub shows : m.Shows maker (state_before m.function (row_for m.function settings) count)
  pub decoder_is : decoder ≡ with_state new_decoder (decoder_after decoder_step start gen_target (frames_for m.function settings count))

pub none_heard : {M : Type 0} (m : Makers M) (settings : GenSettings) (maker : M) (decoder : Decoder) (tally : Tally) → decoder ≡ new_decoder → HasTallied [] tally
    → m.Shows maker m.function.start → Hearing m settings 0 maker decoder (record { tally = tally; silent = 0; range = 0 })
unfolding decoded last_range replaced_among frames_from samples_of decoder_after state_before
none_heard m settings maker decoder tally d t s = record {
  has = record { tallied = t; silent_is = refl; range_is = refl };
  shows = s;
  decoder_is = d;
}

state_more : {M : Type 0} (m : Makers M) (settings : GenSettings) (t : ℕ)
    → m.function.next (state_before m.function (row_for m.function settings) t) gen_kind gen_bytes (window_for settings t) ≡ state_before m.function (row_for m.function settings) (suc t)
unfolding state_before
state_more m settings t = refl

last_more : (f : FrameFunction) (settings : GenSettings) (t : ℕ) → last_range f settings (suc t) ≡ range_of gen_kind (frame_at f (row_for f settings) t)
unfolding last_range
last_more f settings t = refl

-- frame t was heard, of the window that is its
one_heard : {M : Type 0} (m : Makers M) (settings : GenSettings) (t : ℕ) (maker now : M) (decoder after : Decoder) (heard next : Heard) → Hearing m settings t maker decoder heard
    → HeardFrame m (state_before m.function (row_for m.function settings) t) (decoded m.function settings t) (window_for settings t) decoder heard now after next → Hearing m settings (suc t) now after next
one_heard m settings t maker now decoder after heard next h one =
    let f = m.function in
    let s = state_before f (row_for f settings) t in
    let w = window_for settings t in
    let e : suc t ≡ t + 1 = omega arith in
    record {
      has = record {
        tallied = subst (λ l. HasTallied l next.tally) (ap (λ d. decoded f settings t ++ (step_from m s w d).samples) h.decoder_is ∙ sym (decoded_more f settings t)) one.tallied;
        silent_is = one.silent_is ∙ ap (λ n. n + (if is_replaced_at m settings t then 1 else 0)) h.has.silent_is ∙ sym (ap (replaced_among m settings) e ∙ replaced_more m settings t);
        range_is = one.range_is ∙ sym (last_more f settings t);
      };
      shows = subst (m.Shows now) (state_more m settings t) one.shows;
      decoder_is = one.decoder_is ∙ ap (λ d. with_state d (step_from m s w d).state) h.decoder_is ∙ ap (with_state new_decoder) (sym (heard_more f settings t));
    }

pub next_heard : {M : Type 0} (m : Makers M) (settings : GenSettings) (t : ℕ) (maker now : M) (decoder after : Decoder) (heard next : Heard) (window : List ℤ)
    → Hearing m settings t maker decoder heard → window ≡ window_for settings t
    → ((s : m.function.State) (before : List ℤ) → m.Shows maker s → HasTallied before heard.tally → HeardFrame m s before window decoder heard now after next)
    → Hearing m settings (t + 1) now after next
next_heard m settings t maker now decoder after heard next window h w frame =
    let s = state_before m.function (row_for m.function settings) t in
    let e : suc t ≡ t + 1 = omega arith in
    let one = frame s (decoded m.function settings t) h.shows h.has.tallied in
    subst (λ n. Hearing m settings n now after next) e
    (one_heard m settings t maker now decoder after heard next h (subst (λ v. HeardFrame m s (decoded m.function settings t) v decoder heard now after next) w one))
