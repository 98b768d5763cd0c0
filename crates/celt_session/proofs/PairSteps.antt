-- A pair of encoders before its first frame.
use Rattle.std.proofs.Common.{◌≡◌, ℕ, ◌+◌, ◌-◌, ◌*◌, ◌/◌, ◌<◌, ◌≤◌, refl, inl, inr, sym, ap, ◌∙◌, arith}
use Rattle.std.proofs.lemmas.Nat.{mul-le, div_below}
use Rattle.std.specs.Prelude.{Option, None, Some, Bool, true, not}
use Rattle.std.specs.Option.{is_some}
use Rattle.std.proofs.lemmas.Bool.{false≢true}
use Rattle.std.proofs.lemmas.Option.{none-some}
use Rattle.celt_base.specs.declared.kind.Kind.{Kind}
use Rattle.celt_analysis.specs.Signals.{window_size}
use Rattle.celt_encode.specs.Encoders.{EncoderState}
use Rattle.celt_session.specs.declared.encoder_pair.EncoderPair.{EncoderPair}
use Rattle.celt_session.specs.declared.encoder_work.EncoderWork.{EncoderWork}
use Rattle.celt_session.specs.EncodedFrames.{Footing}
use Rattle.celt_session.specs.EncoderPairs.{MakesEither, ShowsEither}
use Rattle.celt_session.specs.EncoderWorks.{CanTurn, IsOn, Makes}
use Rattle.celt_session.specs.Frames.{duration}

pub makes_mono : (p : EncoderPair) (kind : Kind) → p.begun ≡ None → kind.channels ≡ 1 → CanTurn p.work p.mono kind → MakesEither p kind
makes_mono p kind new one can = inl (record { begun = new; stereo = λ two. absurd (omega (arith, one, two)); mono = λ e. can })

pub makes_stereo : (p : EncoderPair) (kind : Kind) → p.begun ≡ None → kind.channels ≡ 2 → Makes p.work kind → MakesEither p kind
makes_stereo p kind new two makes = inl (record { begun = new; stereo = λ e. makes; mono = λ one. absurd (omega (arith, one, two)) })

-- the windows of two channels have room for those of one
pub can_turn : (w : EncoderWork) (e : EncoderState) (mono stereo : Kind) → e.kind ≡ mono → mono.channels ≡ 1 → stereo.channels ≡ 2 → duration mono ≡ duration stereo
    → Makes w stereo → CanTurn w e mono
can_turn w e mono stereo is one two same makes = record {
  encoder = is;
  slots = makes.slots;
  windows =
      λ k d less.
      let few : window_size mono ≡ 1 * (1145 + duration mono) = ap (λ n. n * (1145 + duration mono)) one in
      let many : window_size stereo ≡ 2 * (1145 + duration stereo) = ap (λ n. n * (1145 + duration stereo)) two in
      let kind : window_size w.kind ≡ window_size stereo = ap window_size makes.kind_is in
      let room = makes.windows k d less in
      omega (arith, few, many, kind, room, same);
}

-- ---- before and at the first frame

no_some : {A : Type 0} (x : Option A) (b : Bool) → is_some x ≡ not b → b ≡ true → x ≡ None
no_some None b e t = refl
no_some (Some a) b e t = absurd (false≢true (sym (e ∙ ap not t)))

on_mono : (p : EncoderPair) (kind : Kind) (s : Footing) → p.begun ≡ None → p.mono.kind ≡ kind → ShowsEither p s → IsOn kind p.mono s
on_mono p kind s new is shown = let other = shown.other new in record { kind_is = is; shared = other.shared; made = other.made }

pub turns : (p : EncoderPair) (kind : Kind) → p.begun ≡ None → kind.channels ≡ 1 → MakesEither p kind → CanTurn p.work p.mono kind
turns p kind new one (inl fresh) = fresh.mono one
turns p kind new one (inr begun) = absurd (none-some kind.channels (sym new ∙ begun.begun))

pub shown_mono : (p : EncoderPair) (kind : Kind) (s : Footing) (b : Bool) → is_some p.begun ≡ not b → b ≡ true → kind.channels ≡ 1 → MakesEither p kind → ShowsEither p s
    → IsOn kind p.mono s
shown_mono p kind s b e t one makes shown =
    let new : p.begun ≡ None = no_some p.begun b e t in on_mono p kind s new (turns p kind new one makes).encoder shown

-- ---- what is held of samples

-- the bytes of the samples of so many frames are among those of their windows
pub used_within : (channels count samples len : ℕ) → 2 * (channels * (1145 + count * samples)) ≤ len → 2 * (channels * (count * samples)) ≤ len
used_within channels count samples len held =
    let e : 2 * (channels * (1145 + count * samples)) ≡ 2 * (channels * 1145) + 2 * (channels * (count * samples)) = omega arith in
    omega (arith, held, e)

-- what is held, where there is room for more, makes at most 16 frames
pub few_held : (channels samples len : ℕ) → 1 ≤ channels → 1 ≤ samples → len < 2 * (channels * (1145 + 16 * samples))
    → (len - 2 * (channels * 1145)) / (2 * channels) / samples ≤ 16
few_held channels samples len some more less =
    let rest : ℕ = len - 2 * (channels * 1145) in
    let e : 2 * (channels * (1145 + 16 * samples)) ≡ 2 * (channels * 1145) + 16 * samples * (2 * channels) = omega arith in
    let whole : 1 ≤ 16 * samples * (2 * channels) =
    let m = mul-le 1 1 (16 * samples) (2 * channels) (omega arith) (omega arith) in omega (arith, m) in
    let first = div_below rest (2 * channels) (16 * samples) (omega arith) (omega (arith, less, e, whole)) in
    let second = div_below (rest / (2 * channels)) samples 16 (omega arith) first in
    omega (arith, second)
