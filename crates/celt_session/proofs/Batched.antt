-- Frames of a page that are played or listed batch by batch.
use Rattle.std.proofs.Common.{◌≡◌, ℕ, ◌+◌, ◌*◌, List, [], ◌++◌, length, sym, ◌∙◌, ap, subst, arith, append_assoc, append-nil, length-append, Option}
use Rattle.std.specs.Io.KnownBytes.{Appends}
use Rattle.std.proofs.KnownBytes.{Appends-trans}
use Rattle.celt_base.specs.Outside.{AppendsFront}
use Rattle.celt_base.proofs.Causes.{then_front, longer_front}
use Rattle.opus_stream.specs.declared.answers.Span.{Span}
use Rattle.celt_synth.specs.Decoders.{Decoder, with_state}
use Rattle.celt_synth.specs.States.{State}
use Rattle.frame_symbols.specs.Readings.{range_of}
use Rattle.celt_session.specs.declared.frame_batch.Place.{Place}
use Rattle.celt_session.specs.declared.playing.Playing.{Playing}
use Rattle.celt_session.specs.Frames.{Frame, page_frames}
use Rattle.celt_session.specs.FrameBatches.{left_from}
use Rattle.celt_session.specs.Lines.{lines_from}
use Rattle.celt_session.specs.Samples.{Sounds, text_of}
use Rattle.celt_session.specs.Playing.{decoder_step, target_for, IsPlaying}
use Rattle.celt_session.proofs.Gathering.{left_begin}
use Rattle.celt_session.proofs.Lining.{lines-append, lines_start}
use Rattle.celt_session.proofs.Played.{target_by, gain_held, goes_on, fails_on}
use Rattle.celt_session.proofs.Sounding.{sounds_none, front_longer}

abbrev pub first_place : Place
first_place = record { packet = 0; frame = 0 }

-- ---- what was done before a place

done_none : (packets : List (List ℕ)) → page_frames packets ≡ [] ++ left_from first_place packets
done_none packets = sym (left_begin 0 packets)

done_more : (packets : List (List ℕ)) (place next : Place) (done frames : List Frame) → page_frames packets ≡ done ++ left_from place packets → left_from place packets ≡ frames ++ left_from next packets
    → page_frames packets ≡ (done ++ frames) ++ left_from next packets
done_more packets place next done frames all e = all ∙ ap (λ l. done ++ l) e ∙ sym (append_assoc done frames (left_from next packets))

done_all : (packets : List (List ℕ)) (place next : Place) (done frames : List Frame) → page_frames packets ≡ done ++ left_from place packets → left_from place packets ≡ frames ++ left_from next packets
    → frames ≡ [] → left_from next packets ≡ [] → page_frames packets ≡ done
done_all packets place next done frames all e none past =
    all ∙ ap (λ l. done ++ l) (e ∙ ap (λ l. l ++ left_from next packets) none ∙ past) ∙ append-nil done

-- ---- played

module _ (d : Decoder) (p : Playing) (packets : List (List ℕ)) where
  abbrev SoundsTo : List Frame → State → Span → Option (List ℕ) → Option (List ℕ) → Type 0
  SoundsTo frames now next old new =
      Sounds decoder_step d.state (target_for d p) frames (p.channels * p.span.from) (p.channels * p.span.to) now (p.channels * next.from) (p.channels * next.to) old new

  pub record PlayedTo (place : Place) (now : State) (next : Span) (old new : Option (List ℕ)) : Type 0 where
    pub done : List Frame
    pub all : page_frames packets ≡ done ++ left_from place packets
    pub sounds : SoundsTo done now next old new

  pub played_none : (held : Option (List ℕ)) → PlayedTo first_place d.state p.span held held
  played_none held = record {
    done = [];
    all = done_none packets;
    sounds = sounds_none decoder_step d.state (target_for d p) (p.channels * p.span.from) (p.channels * p.span.to) held;
  }

  pub played_more : (mid : Decoder) (now : State) (place behind : Place) (span next : Span) (frames : List Frame) (old between new : Option (List ℕ)) → IsPlaying d p → mid ≡ with_state d mid.state
      → PlayedTo place mid.state span old between → left_from place packets ≡ frames ++ left_from behind packets
      → Sounds decoder_step mid.state (target_by p (gain_held p) mid.invert) frames (p.channels * span.from) (p.channels * span.to) now (p.channels * next.from) (p.channels * next.to) between new
      → PlayedTo behind now next old new
  played_more mid now place behind span next frames old between new is same before e sounds = record {
    done = before.done ++ frames;
    all = done_more packets place behind before.done frames before.all e;
    sounds = goes_on d mid now p span next before.done frames old between new is same before.sounds sounds;
  }

  pub played_failed : (mid : Decoder) (place behind : Place) (span : Span) (frames : List Frame) (old between new : Option (List ℕ)) → IsPlaying d p → mid ≡ with_state d mid.state
      → PlayedTo place mid.state span old between → left_from place packets ≡ frames ++ left_from behind packets
      → AppendsFront between new (text_of decoder_step mid.state (target_by p (gain_held p) mid.invert) frames (p.channels * span.from) (p.channels * span.to))
      → AppendsFront old new (text_of decoder_step d.state (target_for d p) (page_frames packets) (p.channels * p.span.from) (p.channels * p.span.to))
  played_failed mid place behind span frames old between new is same before e fails =
      let from = p.channels * p.span.from in
      let to = p.channels * p.span.to in
      subst (λ l. AppendsFront old new (text_of decoder_step d.state (target_for d p) l from to)) (sym (done_more packets place behind before.done frames before.all e))
      (front_longer decoder_step d.state (target_for d p) (before.done ++ frames) (left_from behind packets) from to old new
      (fails_on d mid p span before.done frames old between new is same before.sounds fails))

  pub played_all : (now : State) (place behind : Place) (span : Span) (frames : List Frame) (old new : Option (List ℕ)) → PlayedTo place now span old new → left_from place packets ≡ frames ++ left_from behind packets
      → frames ≡ [] → left_from behind packets ≡ []
      → SoundsTo (page_frames packets) now span old new
  played_all now place behind span frames old new before e none past =
      subst (λ l. SoundsTo l now span old new) (sym (done_all packets place behind before.done frames before.all e none past)) before.sounds

-- ---- listed

module _ (first : ℕ) (packets : List (List ℕ)) where
  pub record LinedTo (place : Place) (number : ℕ) (old new : Option (List ℕ)) : Type 0 where
    pub done : List Frame
    pub all : page_frames packets ≡ done ++ left_from place packets
    pub number_is : number ≡ first + length done
    pub goes : Appends old new (lines_from range_of first done)

  pub lined_none : (held : Option (List ℕ)) → LinedTo first_place first held held
  lined_none held = record { done = []; all = done_none packets; number_is = omega arith; goes = lines_start range_of first held }

  lines_behind : (done frames : List Frame) (number : ℕ) → number ≡ first + length done → lines_from range_of first (done ++ frames) ≡ lines_from range_of first done ++ lines_from range_of number frames
  lines_behind done frames number e = lines-append range_of first done frames ∙ ap (λ n. lines_from range_of first done ++ lines_from range_of n frames) (sym e)

  pub lined_more : (place behind : Place) (number next : ℕ) (frames : List Frame) (old between new : Option (List ℕ)) → LinedTo place number old between → left_from place packets ≡ frames ++ left_from behind packets
      → next ≡ number + length frames → Appends between new (lines_from range_of number frames)
      → LinedTo behind next old new
  lined_more place behind number next frames old between new before e count goes =
      let joined = length-append before.done frames in
      let at = before.number_is in
      record {
        done = before.done ++ frames;
        all = done_more packets place behind before.done frames before.all e;
        number_is = omega (arith, joined, at, count);
        goes = subst (Appends old new) (sym (lines_behind before.done frames number before.number_is))
            (Appends-trans old between new (lines_from range_of first before.done) (lines_from range_of number frames) before.goes goes);
      }

  pub lined_failed : (place behind : Place) (number : ℕ) (frames : List Frame) (old between new : Option (List ℕ)) → LinedTo place number old between → left_from place packets ≡ frames ++ left_from behind packets
      → AppendsFront between new (lines_from range_of number frames)
      → AppendsFront old new (lines_from range_of first (page_frames packets))
  lined_failed place behind number frames old between new before e fails =
      let text = lines_from range_of first before.done in
      let more = lines_from range_of number frames in
      let rest = left_from behind packets in
      let whole : lines_from range_of first (page_frames packets) ≡ (text ++ more) ++ lines_from range_of (first + length (before.done ++ frames)) rest =
      ap (lines_from range_of first) (done_more packets place behind before.done frames before.all e) ∙ lines-append range_of first (before.done ++ frames) rest
      ∙ ap (λ l. l ++ lines_from range_of (first + length (before.done ++ frames)) rest) (lines_behind before.done frames number before.number_is) in
      subst (AppendsFront old new) (sym whole) (longer_front old new (text ++ more) (lines_from range_of (first + length (before.done ++ frames)) rest) (then_front old between new text more before.goes fails))

  pub lined_all : (place behind : Place) (number : ℕ) (frames : List Frame) (old new : Option (List ℕ)) → LinedTo place number old new → left_from place packets ≡ frames ++ left_from behind packets
      → frames ≡ [] → left_from behind packets ≡ []
      → (number ≡ first + length (page_frames packets)) × Appends old new (lines_from range_of first (page_frames packets))
  lined_all place behind number frames old new before e none past =
      let all = done_all packets place behind before.done frames before.all e none past in (
        before.number_is ∙ ap (λ l. first + length l) (sym all),
        subst (λ l. Appends old new (lines_from range_of first l)) (sym all) before.goes,
      )
