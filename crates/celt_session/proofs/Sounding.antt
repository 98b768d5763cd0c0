-- The samples of frames that are written part by part, of which those between two places are heard.
use Rattle.std.proofs.Common.{◌≡◌, ℕ, ℤ, ◌-◌, List, [], ◌∷◌, ◌++◌, length, refl, sym, ◌∙◌, ap, subst, arith, append-nil, append_assoc, length-append, Option, Bool, true, false}
use Rattle.std.specs.Prelude.{nat_eq, if◌then◌else◌}
use Rattle.std.specs.List.{slice_range}
use Rattle.std.specs.Io.KnownBytes.{Appends}
use Rattle.std.proofs.KnownBytes.{Appends-trans, Appends-nil}
use Rattle.celt_base.specs.Outside.{AppendsFront}
use Rattle.celt_base.proofs.Causes.{then_front, longer_front}
use Rattle.wav_edge.specs.Samples.{bytes_of}
use Rattle.celt_session.specs.Frames.{Frame}
use Rattle.celt_session.specs.Players.{Players, players_step}
use Rattle.celt_session.specs.Samples.{Target, FrameStep, decoder_after, samples_of, text_of, Sounds}
use Rattle.celt_session.proofs.Cutting.{slice-parts, slice-none, bytes-append}

module _ (step : FrameStep) where
  pub after-append : (s : step.State) (t : Target) (xs ys : List Frame) → decoder_after step s t (xs ++ ys) ≡ decoder_after step (decoder_after step s t xs) t ys
  unfolding decoder_after
  after-append s t [] ys = refl
  after-append s t (x ∷ xs) ys = after-append (step.after s t x) t xs ys

  samples-append : (s : step.State) (t : Target) (xs ys : List Frame) → samples_of step s t (xs ++ ys) ≡ samples_of step s t xs ++ samples_of step (decoder_after step s t xs) t ys
  unfolding decoder_after samples_of
  samples-append s t [] ys = refl
  samples-append s t (x ∷ xs) ys =
      ap (λ l. step.samples s t x ++ l) (samples-append (step.after s t x) t xs ys)
      ∙ sym (append_assoc (step.samples s t x) (samples_of step (step.after s t x) t xs) (samples_of step (decoder_after step (step.after s t x) t xs) t ys))

  text-append : (s : step.State) (t : Target) (xs ys : List Frame) (from to : ℕ)
      → text_of step s t (xs ++ ys) from to
      ≡ text_of step s t xs from to ++ text_of step (decoder_after step s t xs) t ys (from - length (samples_of step s t xs)) (to - length (samples_of step s t xs))
  text-append s t xs ys from to =
      let u = samples_of step s t xs in
      let v = samples_of step (decoder_after step s t xs) t ys in
      ap (λ l. bytes_of (slice_range l from to)) (samples-append s t xs ys) ∙ ap bytes_of (slice-parts from to u v)
      ∙ bytes-append (slice_range u from to) (slice_range v (from - length u) (to - length u))

  -- before the first frame
  pub sounds_none : (s : step.State) (t : Target) (from to : ℕ) (held : Option (List ℕ)) → Sounds step s t [] from to s from to held held
  unfolding decoder_after samples_of bytes_of
  sounds_none s t from to held = record {
    state_is = refl;
    from_is = omega arith;
    to_is = omega arith;
    goes = subst (λ l. Appends held held (bytes_of l)) (sym (slice-none from to)) (Appends-nil held);
  }

  -- one frame
  pub sounds_one : (s : step.State) (t : Target) (frame : Frame) (from to : ℕ) (now : step.State) (behind until : ℕ) (old new : Option (List ℕ))
      → now ≡ step.after s t frame → behind ≡ from - length (step.samples s t frame) → until ≡ to - length (step.samples s t frame)
      → Appends old new (bytes_of (slice_range (step.samples s t frame) from to)) → Sounds step s t (frame ∷ []) from to now behind until old new
  unfolding decoder_after samples_of
  sounds_one s t frame from to now behind until old new e b u a =
      let all : step.samples s t frame ++ [] ≡ step.samples s t frame = append-nil (step.samples s t frame) in
      record {
        state_is = e;
        from_is = b ∙ ap (λ l. from - length l) (sym all);
        to_is = u ∙ ap (λ l. to - length l) (sym all);
        goes = subst (λ l. Appends old new (bytes_of (slice_range l from to))) (sym all) a;
      }

  pub front_one : (s : step.State) (t : Target) (frame : Frame) (from to : ℕ) (old new : Option (List ℕ))
      → AppendsFront old new (bytes_of (slice_range (step.samples s t frame) from to)) → AppendsFront old new (text_of step s t (frame ∷ []) from to)
  unfolding samples_of
  front_one s t frame from to old new a = subst (λ l. AppendsFront old new (bytes_of (slice_range l from to))) (sym (append-nil (step.samples s t frame))) a

  -- frames behind frames
  pub sounds_more : (s : step.State) (t : Target) (xs ys : List Frame) (from to : ℕ) (mid : step.State) (behind until : ℕ) (now : step.State) (last end : ℕ) (old between new : Option (List ℕ))
      → Sounds step s t xs from to mid behind until old between → Sounds step mid t ys behind until now last end between new → Sounds step s t (xs ++ ys) from to now last end old new
  sounds_more s t xs ys from to mid behind until now last end old between new a b =
      let u = samples_of step s t xs in
      let v = samples_of step (decoder_after step s t xs) t ys in
      let state : mid ≡ decoder_after step s t xs = a.state_is in
      let len = ap length (samples-append s t xs ys) ∙ length-append u v in
      let from_is : last ≡ behind - length v = b.from_is ∙ ap (λ m. behind - length (samples_of step m t ys)) state in
      let to_is : end ≡ until - length v = b.to_is ∙ ap (λ m. until - length (samples_of step m t ys)) state in
      let from_before : behind ≡ from - length u = a.from_is in
      let to_before : until ≡ to - length u = a.to_is in
      let same : text_of step mid t ys behind until ≡ text_of step (decoder_after step s t xs) t ys (from - length u) (to - length u) =
      ap (λ m. text_of step m t ys behind until) state ∙ ap (λ n. text_of step (decoder_after step s t xs) t ys n until) from_before
      ∙ ap (λ n. text_of step (decoder_after step s t xs) t ys (from - length u) n) to_before in
      record {
        state_is = b.state_is ∙ ap (λ m. decoder_after step m t ys) state ∙ sym (after-append s t xs ys);
        from_is = omega arith;
        to_is = omega arith;
        goes = subst (Appends old new) (sym (text-append s t xs ys from to ∙ ap (λ l. text_of step s t xs from to ++ l) (sym same)))
            (Appends-trans old between new (text_of step s t xs from to) (text_of step mid t ys behind until) a.goes b.goes);
      }

  pub front_more : (s : step.State) (t : Target) (xs ys : List Frame) (from to : ℕ) (mid : step.State) (behind until : ℕ) (old between new : Option (List ℕ))
      → Sounds step s t xs from to mid behind until old between → AppendsFront between new (text_of step mid t ys behind until) → AppendsFront old new (text_of step s t (xs ++ ys) from to)
  front_more s t xs ys from to mid behind until old between new a b =
      let u = samples_of step s t xs in
      let state : mid ≡ decoder_after step s t xs = a.state_is in
      let same : text_of step mid t ys behind until ≡ text_of step (decoder_after step s t xs) t ys (from - length u) (to - length u) =
      ap (λ m. text_of step m t ys behind until) state ∙ ap (λ n. text_of step (decoder_after step s t xs) t ys n until) a.from_is
      ∙ ap (λ n. text_of step (decoder_after step s t xs) t ys (from - length u) n) a.to_is in
      subst (AppendsFront old new) (sym (text-append s t xs ys from to ∙ ap (λ l. text_of step s t xs from to ++ l) (sym same)))
      (then_front old between new (text_of step s t xs from to) (text_of step mid t ys behind until) a.goes b)

  -- a front of what some frames give is one of what they and others give
  pub front_longer : (s : step.State) (t : Target) (xs ys : List Frame) (from to : ℕ) (old new : Option (List ℕ))
      → AppendsFront old new (text_of step s t xs from to) → AppendsFront old new (text_of step s t (xs ++ ys) from to)
  front_longer s t xs ys from to old new a =
      let u = samples_of step s t xs in
      subst (AppendsFront old new) (sym (text-append s t xs ys from to))
      (longer_front old new (text_of step s t xs from to) (text_of step (decoder_after step s t xs) t ys (from - length u) (to - length u)) a)

  -- ---- the decoder that is chosen

  abbrev both : FrameStep
  both = players_step step

  -- the state and the samples by which one is chosen
  abbrev after_by : Bool → Players step → Target → Frame → Players step
  after_by b p t frame =
      if b then (record { mono = p.mono; stereo = step.after (if b then p.stereo else p.mono) t frame })
      else (record { mono = step.after (if b then p.stereo else p.mono) t frame; stereo = p.stereo })

  abbrev samples_by : Bool → Players step → Target → Frame → List ℤ
  samples_by b p t frame = step.samples (if b then p.stereo else p.mono) t frame

  mono-after : (p : Players step) (t : Target) (frame : Frame) → nat_eq t.channels 2 ≡ false → both.after p t frame ≡ record { mono = step.after p.mono t frame; stereo = p.stereo }
  mono-after p t frame h = ap (λ b. after_by b p t frame) h

  stereo-after : (p : Players step) (t : Target) (frame : Frame) → nat_eq t.channels 2 ≡ true → both.after p t frame ≡ record { mono = p.mono; stereo = step.after p.stereo t frame }
  stereo-after p t frame h = ap (λ b. after_by b p t frame) h

  pub mono-frames : (p : Players step) (t : Target) (frames : List Frame) → nat_eq t.channels 2 ≡ false
      → decoder_after both p t frames ≡ record { mono = decoder_after step p.mono t frames; stereo = p.stereo }
  unfolding decoder_after
  mono-frames p t [] h = refl
  mono-frames p t (frame ∷ frames) h =
      ap (λ (q : Players step). decoder_after both q t frames) (mono-after p t frame h) ∙ mono-frames (record { mono = step.after p.mono t frame; stereo = p.stereo }) t frames h

  pub stereo-frames : (p : Players step) (t : Target) (frames : List Frame) → nat_eq t.channels 2 ≡ true
      → decoder_after both p t frames ≡ record { mono = p.mono; stereo = decoder_after step p.stereo t frames }
  unfolding decoder_after
  stereo-frames p t [] h = refl
  stereo-frames p t (frame ∷ frames) h =
      ap (λ (q : Players step). decoder_after both q t frames) (stereo-after p t frame h) ∙ stereo-frames (record { mono = p.mono; stereo = step.after p.stereo t frame }) t frames h

  pub mono-samples : (p : Players step) (t : Target) (frames : List Frame) → nat_eq t.channels 2 ≡ false → samples_of both p t frames ≡ samples_of step p.mono t frames
  unfolding samples_of
  mono-samples p t [] h = refl
  mono-samples p t (frame ∷ frames) h =
      ap (λ b. samples_by b p t frame ++ samples_of both (both.after p t frame) t frames) h
      ∙ ap (λ (q : Players step). step.samples p.mono t frame ++ samples_of both q t frames) (mono-after p t frame h)
      ∙ ap (λ l. step.samples p.mono t frame ++ l) (mono-samples (record { mono = step.after p.mono t frame; stereo = p.stereo }) t frames h)

  pub stereo-samples : (p : Players step) (t : Target) (frames : List Frame) → nat_eq t.channels 2 ≡ true → samples_of both p t frames ≡ samples_of step p.stereo t frames
  unfolding samples_of
  stereo-samples p t [] h = refl
  stereo-samples p t (frame ∷ frames) h =
      ap (λ b. samples_by b p t frame ++ samples_of both (both.after p t frame) t frames) h
      ∙ ap (λ (q : Players step). step.samples p.stereo t frame ++ samples_of both q t frames) (stereo-after p t frame h)
      ∙ ap (λ l. step.samples p.stereo t frame ++ l) (stereo-samples (record { mono = p.mono; stereo = step.after p.stereo t frame }) t frames h)
