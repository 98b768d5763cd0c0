-- What the work on samples adds for a page.
use Rattle.std.proofs.Common.{◌≡◌, ℕ, ◌*◌, Bool, true, false, List, [], refl, sym, ◌∙◌, ap, subst, Option, Ok, Err}
use Rattle.std.specs.Prelude.{if◌then◌else◌, nat_eq}
use Rattle.std.specs.Io.KnownBytes.{Appends}
use Rattle.std.proofs.KnownBytes.{Appends-trans}
use Rattle.std.specs.List.{slice_range}
use Rattle.celt_base.specs.Outside.{AppendsFront}
use Rattle.celt_base.specs.declared.outside.Failed.{Failed}
use Rattle.celt_base.proofs.Causes.{then_front, longer_front}
use Rattle.wav_edge.specs.Samples.{bytes_of}
use Rattle.wav_edge.specs.Spellings.{header}
use Rattle.opus_stream.specs.declared.answers.Span.{Span}
use Rattle.celt_synth.specs.Decoders.{Decoder, with_state}
use Rattle.celt_synth.specs.States.{State}
use Rattle.celt_session.specs.declared.playing.Playing.{Playing}
use Rattle.celt_session.specs.declared.samples.Samples.{Samples}
use Rattle.celt_session.specs.Pages.{Heard}
use Rattle.celt_session.specs.Frames.{page_frames}
use Rattle.celt_session.specs.Players.{Players, players_step}
use Rattle.celt_session.specs.Samples.{channels_in, gain_in, target_of, opening, decoder_after, text_of}
use Rattle.celt_session.specs.Playing.{decoder_step, Plays, target_for}
use Rattle.celt_session.specs.PageWorks.{ShowsSamples, PlaysChosen}
use Rattle.celt_session.specs.Decoding.{samples}
use Rattle.celt_session.proofs.Sounding.{mono-frames, stereo-frames, mono-samples, stereo-samples}

abbrev pub head_text : Bool → ℕ → List ℕ
head_text awaits channels = if awaits then header channels else []

abbrev playing_for : Heard → Playing
playing_for heard = record { channels = channels_in heard.head; gain = gain_in heard.head; span = heard.span }

-- a decoder that is played
abbrev of_channels : ℕ → Bool → State → Decoder
of_channels channels invert s = record { channels = channels; invert = invert; state = s }

abbrev text : samples.State → Heard → List ℕ
text s heard = text_of (players_step decoder_step) s.decoder (target_of s heard) (page_frames heard.packets) (channels_in heard.head * heard.span.from) (channels_in heard.head * heard.span.to)

abbrev decoders_after : samples.State → Heard → Players decoder_step
decoders_after s heard = decoder_after (players_step decoder_step) s.decoder (target_of s heard) (page_frames heard.packets)

-- both decoders behind a page, and its text
pub record IsPlayed (s : samples.State) (heard : Heard) (now : Samples) (old new : Option (List ℕ)) : Type 0 where
  pub mono : now.mono ≡ of_channels 1 s.invert (decoders_after s heard).mono
  pub stereo : now.stereo ≡ of_channels 2 s.invert (decoders_after s heard).stereo
  pub goes : Appends old new (text s heard)

module _ (w : Samples) (s : samples.State) (heard : Heard) (shows : ShowsSamples w s) where
  abbrev played_text : State → List ℕ
  played_text d = text_of decoder_step d (target_of s heard) (page_frames heard.packets) (channels_in heard.head * heard.span.from) (channels_in heard.head * heard.span.to)

  stereo_text : nat_eq (channels_in heard.head) 2 ≡ true → played_text s.decoder.stereo ≡ text s heard
  stereo_text h = ap (λ l. bytes_of (slice_range l (channels_in heard.head * heard.span.from) (channels_in heard.head * heard.span.to))) (sym (stereo-samples decoder_step s.decoder (target_of s heard) (page_frames heard.packets) h))

  mono_text : nat_eq (channels_in heard.head) 2 ≡ false → played_text s.decoder.mono ≡ text s heard
  mono_text h = ap (λ l. bytes_of (slice_range l (channels_in heard.head * heard.span.from) (channels_in heard.head * heard.span.to))) (sym (mono-samples decoder_step s.decoder (target_of s heard) (page_frames heard.packets) h))

  played-by : (b : Bool) → nat_eq (channels_in heard.head) 2 ≡ b → (now : Samples) (next : Span) (old new : Option (List ℕ)) → PlaysChosen w (playing_for heard) (page_frames heard.packets) now old new (Ok next) → IsPlayed s heard now old new
  played-by true h now next old new p =
      let chosen = p.stereo h in
      let sounds = subst (λ (d : Decoder). Plays d (target_for d (playing_for heard)) (page_frames heard.packets) heard.span now.stereo old new (Ok next)) shows.stereo chosen.2 in
      let after = stereo-frames decoder_step s.decoder (target_of s heard) (page_frames heard.packets) h in
      record {
        mono = chosen.0 ∙ shows.mono ∙ ap (λ (q : Players decoder_step). of_channels 1 s.invert q.mono) (sym after);
        stereo = chosen.1 ∙ ap (λ (d : Decoder). with_state d now.stereo.state) shows.stereo
            ∙ ap (of_channels 2 s.invert) (sounds.state_is ∙ ap (λ (q : Players decoder_step). q.stereo) (sym after));
        goes = subst (Appends old new) (stereo_text h) sounds.goes;
      }
  played-by false h now next old new p =
      let chosen = p.mono h in
      let sounds = subst (λ (d : Decoder). Plays d (target_for d (playing_for heard)) (page_frames heard.packets) heard.span now.mono old new (Ok next)) shows.mono chosen.2 in
      let after = mono-frames decoder_step s.decoder (target_of s heard) (page_frames heard.packets) h in
      record {
        mono = chosen.1 ∙ ap (λ (d : Decoder). with_state d now.mono.state) shows.mono
            ∙ ap (of_channels 1 s.invert) (sounds.state_is ∙ ap (λ (q : Players decoder_step). q.mono) (sym after));
        stereo = chosen.0 ∙ shows.stereo ∙ ap (λ (q : Players decoder_step). of_channels 2 s.invert q.stereo) (sym after);
        goes = subst (Appends old new) (mono_text h) sounds.goes;
      }

  pub played : (q : Playing) (now : Samples) (next : Span) (old new : Option (List ℕ)) → q ≡ playing_for heard → PlaysChosen w q (page_frames heard.packets) now old new (Ok next) → IsPlayed s heard now old new
  played q now next old new e p =
      played-by (nat_eq (channels_in heard.head) 2) refl now next old new (subst (λ (q : Playing). PlaysChosen w q (page_frames heard.packets) now old new (Ok next)) e p)

  failed-by : (b : Bool) → nat_eq (channels_in heard.head) 2 ≡ b → (now : Samples) (e : Failed) (old new : Option (List ℕ)) → PlaysChosen w (playing_for heard) (page_frames heard.packets) now old new (Err e) → AppendsFront old new (text s heard)
  failed-by true h now e old new p =
      subst (AppendsFront old new) (stereo_text h) (subst (λ (d : Decoder). Plays d (target_for d (playing_for heard)) (page_frames heard.packets) heard.span now.stereo old new (Err e)) shows.stereo (p.stereo h).2)
  failed-by false h now e old new p =
      subst (AppendsFront old new) (mono_text h) (subst (λ (d : Decoder). Plays d (target_for d (playing_for heard)) (page_frames heard.packets) heard.span now.mono old new (Err e)) shows.mono (p.mono h).2)

  pub failed : (q : Playing) (now : Samples) (e : Failed) (old new : Option (List ℕ)) → q ≡ playing_for heard → PlaysChosen w q (page_frames heard.packets) now old new (Err e) → AppendsFront old new (text s heard)
  failed q now e old new is p =
      failed-by (nat_eq (channels_in heard.head) 2) refl now e old new (subst (λ (q : Playing). PlaysChosen w q (page_frames heard.packets) now old new (Err e)) is p)

  -- behind the header where it is awaited
  opened : (q : Playing) → q ≡ playing_for heard → head_text w.awaits_header q.channels ≡ opening s.awaits_header heard
  opened q e = ap (λ (q : Playing). head_text w.awaits_header q.channels) e ∙ ap (λ b. head_text b (channels_in heard.head)) shows.awaits_header

  pub said : (q : Playing) (old mid new : Option (List ℕ)) → q ≡ playing_for heard → Appends old mid (head_text w.awaits_header q.channels) → Appends mid new (text s heard) → Appends old new (samples.says s heard)
  said q old mid new e a b = Appends-trans old mid new (opening s.awaits_header heard) (text s heard) (subst (Appends old mid) (opened q e) a) b

  pub text_failed : (q : Playing) (old mid new : Option (List ℕ)) → q ≡ playing_for heard → Appends old mid (head_text w.awaits_header q.channels) → AppendsFront mid new (text s heard) → AppendsFront old new (samples.says s heard)
  text_failed q old mid new e a b = then_front old mid new (opening s.awaits_header heard) (text s heard) (subst (Appends old mid) (opened q e) a) b

  pub head_failed : (q : Playing) (old new : Option (List ℕ)) → q ≡ playing_for heard → AppendsFront old new (head_text w.awaits_header q.channels) → AppendsFront old new (samples.says s heard)
  head_failed q old new e a = longer_front old new (opening s.awaits_header heard) (text s heard) (subst (AppendsFront old new) (opened q e) a)
