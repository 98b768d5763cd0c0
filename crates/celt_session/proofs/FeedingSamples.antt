-- A piece of a file, before its samples and among them.
use Rattle.std.proofs.Common.{◌≡◌, ℕ, ◌+◌, ◌-◌, ◌*◌, ◌≤◌, ◌<◌, ◌⊎◌, inl, inr, Bool, true, false, List, [], ◌++◌, length, take, drop, Option, Some, None, refl, sym, ◌∙◌, ap, subst, arith, append_assoc, append-nil, length-append, length-drop}
use Rattle.std.specs.Prelude.{if◌then◌else◌}
use Rattle.std.specs.Io.KnownBytes.{Appends}
use Rattle.std.proofs.KnownBytes.{Appends-trans, Appends-nil}
use Rattle.std.proofs.Math.Seq.{drop-append-add, take-append-add}
use Rattle.std.proofs.lemmas.Bool.{cases_lt}
use Rattle.std.proofs.lemmas.List.{drop-append-le, take-append-le, take_all}
use Rattle.celt_base.specs.declared.status.Fault.{Fault}
use Rattle.celt_base.specs.declared.status.FaultName.{FaultName}
use Rattle.celt_base.specs.declared.status.FaultName.TheVariants as names
use Rattle.celt_base.specs.Outside.{AppendsFront}
use Rattle.celt_base.proofs.Causes.{longer_front, then_front}
use Rattle.ogg_pages.specs.Spelling.{spelling}
use Rattle.wav_edge.specs.Reading.{Outcome, outcome, read, within_size, samples, sample_bytes, is_whole, IsHeaderFault}
use Rattle.wav_edge.specs.Reading.Outcome.{Unfinished, Faulty, Started}
use Rattle.wav_edge.specs.Samples.{samples_of}
use Rattle.std.specs.List.{flat_map}
use Rattle.wav_edge.specs.declared.reader.Header.TheVariants.{Need}
use Rattle.wav_edge.specs.Readers.{answered}
use Rattle.wav_edge.proofs.LawLemmas.{is_decided, outcome_stays, IsSound, outcome_sound}
use Rattle.wav_edge.proofs.ReaderLemmas.{readable_cases}
use Rattle.celt_session.specs.declared.plan.Plan.{Plan}
use Rattle.celt_session.specs.declared.maker.Maker.{Maker}
use Rattle.celt_session.specs.declared.recording.Recording.{Recording}
use Rattle.celt_session.specs.declared.settings.Settings.{Settings}
use Rattle.celt_session.specs.Encoding.{head_page, tags_page, coding_of, toc_of}
use Rattle.celt_session.specs.Encodings.{fault_by, fault_of, audio_of, coded, sample_count}
use Rattle.celt_session.specs.Outcomes.{is_early_end}
use Rattle.celt_session.specs.FrameFunctions.{FrameFunction}
use Rattle.celt_session.specs.FrameWorks.{FrameWorks}
use Rattle.celt_session.specs.Packers.{pages_text}
use Rattle.celt_session.specs.Makers.{group_bytes, plan_frame, HasMade, TakesAll, TakesSome, GoesOn}
use Rattle.celt_session.specs.declared.frame_session.FrameSession.{FrameSession}
use Rattle.celt_session.specs.Frames.{kind_of}
use Rattle.celt_session.specs.AudioPages.{packets_from}
use Rattle.celt_session.specs.FrameSessions.{given_packets, given_by, given, given_more, lasting, fault_now, left_of, AmongSamples, BeforeSamples, StandsBy, StandsFor, IsBegun}
use Rattle.celt_session.proofs.Planned.{toc_is, kind_channels}
use Rattle.celt_session.proofs.PacketLemmas.{text-between, text_from, text-same}
use Rattle.celt_session.proofs.MakerLemmas.{frame_longer}
use Rattle.celt_session.proofs.GivenPages.{IsPlanOf, headers_for, packets_for, given_text, packets_made, packets_least, more_is}

-- ---- faults

-- what is cut short is mended by more bytes
sound_by : (b : Bool) (n : ℕ) → lasting (if b then None else Some (record { name = names.DataTruncated; at = n })) ≡ None
sound_by true n = refl
sound_by false n = refl

pub fault_is : (bytes : List ℕ) (o : Outcome) → outcome bytes ≡ o → fault_of bytes ≡ fault_by o (length bytes)
unfolding fault_of
fault_is bytes o e = ap (λ (o : Outcome). fault_by o (length bytes)) e

pub sound_among : (bytes : List ℕ) (channels rate place : ℕ) (size : Option ℕ) → outcome bytes ≡ Started channels rate size place → fault_now bytes ≡ None
sound_among bytes channels rate place size e = ap lasting (fault_is bytes (Started channels rate size place) e) ∙ sound_by (is_whole channels size (length bytes - place)) (length bytes)

pub sound_before : (bytes : List ℕ) (between : Bool) → outcome bytes ≡ Unfinished between → fault_now bytes ≡ None
sound_before bytes true e = ap lasting (fault_is bytes (Unfinished true) e)
sound_before bytes false e = ap lasting (fault_is bytes (Unfinished false) e)

lasts : (fault : Fault) → IsHeaderFault fault.name → lasting (Some fault) ≡ Some fault
lasts fault h = by fault.name h refl where
  by : (name : FaultName) → IsHeaderFault name → fault.name ≡ name → lasting (Some fault) ≡ Some fault
  by names.BadRiff h e = ap (λ n. if is_early_end n then None else Some fault) e
  by (names.UnsupportedFormat codec bits channels rate) h e = ap (λ n. if is_early_end n then None else Some fault) e
  by names.BadCapture h e = absurd h
  by names.BadPageVersion h e = absurd h
  by names.BadChecksum h e = absurd h
  by names.OtherStream h e = absurd h
  by names.PageGap h e = absurd h
  by names.BadContinuation h e = absurd h
  by names.BadHead h e = absurd h
  by names.UnsupportedFamily h e = absurd h
  by names.BadTags h e = absurd h
  by names.PacketTooLong h e = absurd h
  by (names.BadPacket _) h e = absurd h
  by (names.NotCelt _) h e = absurd h
  by names.BadGranule h e = absurd h
  by names.AfterEnd h e = absurd h
  by names.Truncated h e = absurd h
  by names.NoData h e = absurd h
  by names.DataTruncated h e = absurd h
  by names.ChannelChange h e = absurd h
  by names.NoLink h e = absurd h
  by names.BadText h e = absurd h
  by names.TextOverrun h e = absurd h
  by names.TextTruncated h e = absurd h

pub faulty_now : (bytes : List ℕ) (fault : Fault) → outcome bytes ≡ Faulty fault → fault_now bytes ≡ Some fault
faulty_now bytes fault e =
    let sound : IsSound (length bytes) (Faulty fault) = subst (IsSound (length bytes)) e (outcome_sound bytes) in
    ap lasting (fault_is bytes (Faulty fault) e) ∙ lasts fault sound

-- a fault that more bytes do not mend is one of the header
pub faulty_by : (bytes : List ℕ) (fault : Fault) → fault_now bytes ≡ Some fault → outcome bytes ≡ Faulty fault
faulty_by bytes fault h = by (outcome bytes) refl where
  by : (o : Outcome) → outcome bytes ≡ o → outcome bytes ≡ Faulty fault
  by (Unfinished between) e = let never : None ≡ Some fault = sym (sound_before bytes between e) ∙ h in let no : ⊥ = cc in absurd no
  by (Started channels rate size place) e = let never : None ≡ Some fault = sym (sound_among bytes channels rate place size e) ∙ h in let no : ⊥ = cc in absurd no
  by (Faulty other) e = let same : Some other ≡ Some fault = sym (faulty_now bytes other e) ∙ h in let is : other ≡ fault = cc in e ∙ ap Faulty is

-- ---- what is given before the samples

pub given_is : (f : FrameFunction) (settings : Settings) (bytes : List ℕ) (o : Outcome) → outcome bytes ≡ o → given f settings bytes ≡ given_by f settings o bytes
unfolding given
given_is f settings bytes o e = ap (λ (o : Outcome). given_by f settings o bytes) e

pub given_none : (f : FrameFunction) (settings : Settings) (bytes : List ℕ) (between : Bool) → outcome bytes ≡ Unfinished between → given f settings bytes ≡ []
given_none f settings bytes between e = given_is f settings bytes (Unfinished between) e

-- behind bytes that give nothing all is given
pub more_first : (f : FrameFunction) (settings : Settings) (bytes now added : List ℕ) → given f settings bytes ≡ [] → given f settings now ≡ added → given_more f settings bytes now ≡ added
more_first f settings bytes now added none e = more_is f settings bytes now added (e ∙ ap (λ l. l ++ added) (sym none))

pub adds_nothing : (f : FrameFunction) (settings : Settings) (bytes now : List ℕ) (held : Option (List ℕ)) → given f settings bytes ≡ [] → given f settings now ≡ [] → Appends held held (given_more f settings bytes now)
adds_nothing f settings bytes now held none e = subst (Appends held held) (sym (more_first f settings bytes now [] none e)) (Appends-nil held)

pub given_faulty : (f : FrameFunction) (settings : Settings) (bytes : List ℕ) (fault : Fault) → outcome bytes ≡ Faulty fault → given f settings bytes ≡ []
given_faulty f settings bytes fault e = given_is f settings bytes (Faulty fault) e

-- ---- the bytes of samples

take_seam : (size n : ℕ) (rest piece : List ℕ) → length rest ≡ n → take size (rest ++ piece) ≡ take size rest ++ take (size - n) piece
take_seam size n rest piece len = by_len (cases_lt size n) where
  by_len : (size < n) ⊎ (n ≤ size) → take size (rest ++ piece) ≡ take size rest ++ take (size - n) piece
  by_len (inl short) =
      let none : size - n ≡ 0 = omega arith in
      take-append-le size rest piece (omega arith) ∙ sym (append-nil (take size rest)) ∙ ap (λ k. take size rest ++ take k piece) (sym none)
  by_len (inr long) =
      let e : size ≡ length rest + (size - n) = omega arith in
      let all : length rest ≤ size = omega arith in
      ap (λ k. take k (rest ++ piece)) e ∙ take-append-add rest piece (size - n) ∙ ap (λ l. l ++ take (size - n) piece) (sym (take_all size rest all))

pub taken_bytes : (size : Option ℕ) (place : ℕ) (bytes piece : List ℕ) → place ≤ length bytes
    → within_size size (drop place (bytes ++ piece)) ≡ within_size size (drop place bytes) ++ within_size (left_of size (length bytes - place)) piece
taken_bytes None place bytes piece h = drop-append-le place bytes piece h
taken_bytes (Some size) place bytes piece h =
    ap (take size) (drop-append-le place bytes piece h) ∙ take_seam size (length bytes - place) (drop place bytes) piece (length-drop place bytes)

pub left_more : (size : Option ℕ) (place : ℕ) (bytes piece : List ℕ) → place ≤ length bytes → left_of (left_of size (length bytes - place)) (length piece) ≡ left_of size (length (bytes ++ piece) - place)
left_more None place bytes piece h = refl
left_more (Some size) place bytes piece h =
    let n = length-append bytes piece in
    let e : size - (length bytes - place) - length piece ≡ size - (length (bytes ++ piece) - place) = omega arith in
    ap Some e

pub samples_are : (bytes : List ℕ) (channels rate place : ℕ) (size : Option ℕ) → outcome bytes ≡ Started channels rate size place → samples bytes ≡ samples_of (within_size size (drop place bytes))
unfolding samples
samples_are bytes channels rate place size e = ap (λ (o : Outcome). samples_of (sample_bytes o bytes)) e

-- where the samples have begun
pub record HasBegun (bytes : List ℕ) (channels : ℕ) (place : ℕ) : Type 0 where
  pub channels_are : (channels ≡ 1) ⊎ (channels ≡ 2)
  pub there : place ≤ length bytes

pub has_begun : (bytes : List ℕ) (channels rate place : ℕ) (size : Option ℕ) → outcome bytes ≡ Started channels rate size place → HasBegun bytes channels place
has_begun bytes channels rate place size e =
    let sound : IsSound (length bytes) (Started channels rate size place) = subst (IsSound (length bytes)) e (outcome_sound bytes) in
    record { channels_are = readable_cases channels rate sound.0; there = sound.1 }

-- ---- the text of more bytes

-- the first pages stay
pub text_stays : (f : FrameFunction) (plan : Plan) (heard more : List ℕ) (done p : ℕ) → group_bytes plan.kind.channels (done * plan.samples) ≤ length heard → p * plan.group ≤ done
    → pages_text plan (plan_frame f plan (heard ++ more)) 0 p ≡ pages_text plan (plan_frame f plan heard) 0 p
text_stays f plan heard more done p within some =
    let none : p - 0 ≡ p = omega arith in
    sym (ap (pages_text plan (plan_frame f plan (heard ++ more)) 0) none)
    ∙ text-same plan (plan_frame f plan heard) (plan_frame f plan (heard ++ more)) done (frame_longer f plan heard more done within) 0 p (omega arith) some
    ∙ ap (pages_text plan (plan_frame f plan heard) 0) none

-- bytes and more of them, among the samples
pub record GoOn (plan : Plan) (settings : Settings) (channels : ℕ) (size : Option ℕ) (place : ℕ) (heard more bytes now : List ℕ) : Type 0 where
  pub before : IsPlanOf plan settings channels heard bytes
  pub after : IsPlanOf plan settings channels (heard ++ more) now
  pub begun : outcome bytes ≡ Started channels 48000 size place
  pub going : outcome now ≡ Started channels 48000 size place

module _ {W : Type 0} (w : FrameWorks W) (settings : Settings) (plan : Plan) (channels place : ℕ) (size : Option ℕ) (heard more bytes now : List ℕ) (goes : GoOn plan settings channels size place heard more bytes now) where
  -- what more bytes give, where so many frames were made before
  pub given_split : (batches packets : ℕ) → group_bytes plan.kind.channels (16 * batches * plan.samples) ≤ length heard → packets * plan.group ≤ 16 * batches → packets_for plan heard ≡ packets → packets ≤ packets_for plan (heard ++ more)
      → given w.function settings now ≡ given w.function settings bytes ++ pages_text plan (plan_frame w.function plan (heard ++ more)) packets (packets_for plan (heard ++ more) - packets)
  given_split batches packets within some is ahead =
      let frame = plan_frame w.function plan (heard ++ more) in
      let all = packets_for plan (heard ++ more) in
      let first = given_text w.function plan settings channels heard bytes goes.before size place goes.begun ∙ ap (λ n. headers_for channels ++ pages_text plan (plan_frame w.function plan heard) 0 n) is in
      given_text w.function plan settings channels (heard ++ more) now goes.after size place goes.going
      ∙ ap (λ l. headers_for channels ++ l) (text_from plan frame packets all ahead ∙ ap (λ l. l ++ pages_text plan frame packets (all - packets)) (text_stays w.function plan heard more (16 * batches) packets within some))
      ∙ sym (append_assoc (headers_for channels) (pages_text plan (plan_frame w.function plan heard) 0 packets) (pages_text plan frame packets (all - packets)))
      ∙ ap (λ l. l ++ pages_text plan frame packets (all - packets)) (sym first)

  given_on : (batches packets : ℕ) → group_bytes plan.kind.channels (16 * batches * plan.samples) ≤ length heard → packets * plan.group ≤ 16 * batches → packets_for plan heard ≡ packets → packets ≤ packets_for plan (heard ++ more)
      → given_more w.function settings bytes now ≡ pages_text plan (plan_frame w.function plan (heard ++ more)) packets (packets_for plan (heard ++ more) - packets)
  given_on batches packets within some is ahead =
      more_is w.function settings bytes now (pages_text plan (plan_frame w.function plan (heard ++ more)) packets (packets_for plan (heard ++ more) - packets)) (given_split batches packets within some is ahead)

  -- all samples were taken in
  pub adds_taken : (batches : ℕ) (m after : Maker W) (old new : Option (List ℕ)) → HasMade w plan heard (16 * batches) m → GoesOn plan m → TakesAll w plan (heard ++ more) m.packer.packets after old new → GoesOn plan after
      → Appends old new (given_more w.function settings bytes now)
  adds_taken batches m after old new h less t going =
      let all = packets_made w plan (heard ++ more) t.batches after t.makes.made going in
      let was = packets_made w plan heard batches m h less in
      let place = h.packs.place in
      let ahead = t.makes.wrote.ahead in
      subst (Appends old new) (sym (given_on batches m.packer.packets h.within (omega arith) was (omega arith) ∙ ap (λ n. pages_text plan (plan_frame w.function plan (heard ++ more)) m.packer.packets (n - m.packer.packets)) all)) t.makes.wrote.text

  -- a write failed
  pub adds_front : (batches : ℕ) (m : Maker W) (old new : Option (List ℕ)) → HasMade w plan heard (16 * batches) m → GoesOn plan m → TakesSome w.function plan (heard ++ more) m.packer.packets old new
      → AppendsFront old new (given_more w.function settings bytes now)
  adds_front batches m old new h less t =
      let all = packets_for plan (heard ++ more) in
      let frame = plan_frame w.function plan (heard ++ more) in
      let was = packets_made w plan heard batches m h less in
      let place = h.packs.place in
      let most = packets_least w plan (heard ++ more) t.batches t.wrote.until t.within t.wrote.within in
      let ahead = t.wrote.ahead in
      subst (AppendsFront old new) (sym (given_on batches m.packer.packets h.within (omega arith) was (omega arith) ∙ text-between plan frame m.packer.packets t.wrote.until all ahead most))
      (longer_front old new (pages_text plan frame m.packer.packets (t.wrote.until - m.packer.packets)) (pages_text plan frame t.wrote.until (all - t.wrote.until)) t.wrote.text)

-- ---- the first samples

module _ {W : Type 0} (w : FrameWorks W) (settings : Settings) (plan : Plan) (channels place : ℕ) (size : Option ℕ) (heard bytes now : List ℕ) (none : given w.function settings bytes ≡ []) (is : IsPlanOf plan settings channels heard now)
    (begun : outcome now ≡ Started channels 48000 size place) where
  first_text : given_more w.function settings bytes now ≡ headers_for channels ++ pages_text plan (plan_frame w.function plan heard) 0 (packets_for plan heard)
  first_text = more_first w.function settings bytes now (headers_for channels ++ pages_text plan (plan_frame w.function plan heard) 0 (packets_for plan heard)) none (given_text w.function plan settings channels heard now is size place begun)

  pub first_taken : (packets : ℕ) (after : Maker W) (old mid new : Option (List ℕ)) → packets ≡ 0 → Appends old mid (headers_for channels) → TakesAll w plan heard packets after mid new → GoesOn plan after → Appends old new (given_more w.function settings bytes now)
  first_taken packets after old mid new empty a t going =
      let frame = plan_frame w.function plan heard in
      let all = packets_made w plan heard t.batches after t.makes.made going in
      let same : after.packer.packets - packets ≡ packets_for plan heard = omega arith in
      let text : Appends mid new (pages_text plan frame 0 (packets_for plan heard)) = subst (λ n. Appends mid new (pages_text plan frame 0 n)) same (subst (λ n. Appends mid new (pages_text plan frame n (after.packer.packets - packets))) empty t.makes.wrote.text) in
      subst (Appends old new) (sym first_text) (Appends-trans old mid new (headers_for channels) (pages_text plan frame 0 (packets_for plan heard)) a text)

  pub first_failed : (packets : ℕ) (old mid new : Option (List ℕ)) → packets ≡ 0 → Appends old mid (headers_for channels) → TakesSome w.function plan heard packets mid new → AppendsFront old new (given_more w.function settings bytes now)
  first_failed packets old mid new empty a t =
      let frame = plan_frame w.function plan heard in
      let all = packets_for plan heard in
      let most = packets_least w plan heard t.batches t.wrote.until t.within t.wrote.within in
      let same : t.wrote.until - packets ≡ t.wrote.until = omega arith in
      let text : AppendsFront mid new (pages_text plan frame 0 t.wrote.until) = subst (λ n. AppendsFront mid new (pages_text plan frame 0 n)) same (subst (λ n. AppendsFront mid new (pages_text plan frame n (t.wrote.until - packets))) empty t.wrote.text) in
      subst (AppendsFront old new) (sym first_text)
      (then_front old mid new (headers_for channels) (pages_text plan frame 0 all) a
      (subst (AppendsFront mid new) (sym (text_from plan frame t.wrote.until all most))
      (longer_front mid new (pages_text plan frame 0 t.wrote.until) (pages_text plan frame t.wrote.until (all - t.wrote.until)) text)))

-- ---- what a session stands for

pub plan_of : {W : Type 0} (w : FrameWorks W) (settings : Settings) (r : Recording) (m : Maker W) (bytes : List ℕ) (fed : ℕ) (h : AmongSamples w settings r m fed bytes) → IsPlanOf r.plan settings h.channels (within_size h.size (drop h.place bytes)) bytes
plan_of w settings r m bytes fed h = record {
  toc = h.toc;
  bytes_are = h.bytes_are;
  group = h.group;
  channels_are = (has_begun bytes h.channels 48000 h.place h.size h.begun).channels_are;
  samples_are = samples_are bytes h.channels 48000 h.place h.size h.begun;
}

module _ {W : Type 0} (w : FrameWorks W) (settings : Settings) (r : Recording) (m : Maker W) (bytes piece : List ℕ) (fed : ℕ) (h : AmongSamples w settings r m fed bytes) where
  abbrev heard_in : List ℕ
  heard_in = within_size h.size (drop h.place bytes)

  abbrev more_in : List ℕ
  more_in = within_size r.left piece

  still : outcome (bytes ++ piece) ≡ Started h.channels 48000 h.size h.place
  still = outcome_stays bytes piece (ap is_decided h.begun) ∙ h.begun

  there : h.place ≤ length bytes
  there = (has_begun bytes h.channels 48000 h.place h.size h.begun).there

  pub heard_now : within_size h.size (drop h.place (bytes ++ piece)) ≡ heard_in ++ more_in
  heard_now = taken_bytes h.size h.place bytes piece there ∙ ap (λ l. heard_in ++ within_size l piece) (sym h.left)

  pub go_on : GoOn r.plan settings h.channels h.size h.place heard_in more_in bytes (bytes ++ piece)
  go_on = record {
    before = plan_of w settings r m bytes fed h;
    after = record {
      toc = h.toc;
      bytes_are = h.bytes_are;
      group = h.group;
      channels_are = (has_begun bytes h.channels 48000 h.place h.size h.begun).channels_are;
      samples_are = samples_are (bytes ++ piece) h.channels 48000 h.place h.size still ∙ ap samples_of heard_now;
    };
    begun = h.begun;
    going = still;
  }

  pub stands_now : (after : Recording) (now : Maker W) (packets : ℕ) (old new : Option (List ℕ)) → after.plan ≡ r.plan → after.left ≡ left_of r.left (length piece) → TakesAll w r.plan (heard_in ++ more_in) packets now old new
      → AmongSamples w settings after now (fed + length piece) (bytes ++ piece)
  stands_now after now packets old new plan left t = record {
    count = let n = length-append bytes piece in let c = h.count in omega arith;
    channels = h.channels;
    size = h.size;
    place = h.place;
    begun = still;
    toc = ap (λ (p : Plan). p.toc) plan ∙ h.toc;
    bytes_are = ap (λ (p : Plan). p.bytes) plan ∙ h.bytes_are;
    group = ap (λ (p : Plan). p.group) plan ∙ h.group;
    left = left ∙ ap (λ l. left_of l (length piece)) h.left ∙ left_more h.size h.place bytes piece there;
    batches = t.batches;
    made = subst (λ l. HasMade w after.plan l (16 * t.batches) now) (sym heard_now) (subst (λ p. HasMade w p (heard_in ++ more_in) (16 * t.batches) now) (sym plan) t.makes.made);
  }

-- the first samples, behind the header
module _ {W : Type 0} (w : FrameWorks W) (settings : Settings) (r : Recording) (before m : Maker W) (bytes piece rest : List ℕ) (channels used : ℕ) (size : Option ℕ) (begun : outcome (bytes ++ piece) ≡ Started channels 48000 size (length bytes + used))
    (is : IsBegun w settings channels size before r m) (behind : rest ≡ drop used piece) where
  heard_first : within_size size (drop (length bytes + used) (bytes ++ piece)) ≡ [] ++ within_size r.left rest
  heard_first = ap (within_size size) (drop-append-add bytes piece used ∙ sym behind) ∙ ap (λ l. within_size l rest) (sym is.left)

  pub plan_first : IsPlanOf r.plan settings channels ([] ++ within_size r.left rest) (bytes ++ piece)
  plan_first = record {
    toc = is.toc;
    bytes_are = is.bytes_are;
    group = is.group;
    channels_are = (has_begun (bytes ++ piece) channels 48000 (length bytes + used) size begun).channels_are;
    samples_are = samples_are (bytes ++ piece) channels 48000 (length bytes + used) size begun ∙ ap samples_of heard_first;
  }

  pub stands_first : (after : Recording) (now : Maker W) (packets : ℕ) (old new : Option (List ℕ)) → after.plan ≡ r.plan → after.left ≡ left_of r.left (length rest) → used ≤ length piece → TakesAll w r.plan ([] ++ within_size r.left rest) packets now old new
      → (fed : ℕ) → fed ≡ length bytes → AmongSamples w settings after now (fed + length piece) (bytes ++ piece)
  stands_first after now packets old new plan left within t fed count = record {
    count = let n = length-append bytes piece in omega arith;
    channels = channels;
    size = size;
    place = length bytes + used;
    begun = begun;
    toc = ap (λ (p : Plan). p.toc) plan ∙ is.toc;
    bytes_are = ap (λ (p : Plan). p.bytes) plan ∙ is.bytes_are;
    group = ap (λ (p : Plan). p.group) plan ∙ is.group;
    left =
        let n = length-append bytes piece in
        let d : length rest ≡ length piece - used = ap length behind ∙ length-drop used piece in
        let e : length rest ≡ length (bytes ++ piece) - (length bytes + used) = omega arith in
        left ∙ ap (λ l. left_of l (length rest)) is.left ∙ ap (left_of size) e;
    batches = t.batches;
    made = subst (λ l. HasMade w after.plan l (16 * t.batches) now) (sym heard_first) (subst (λ p. HasMade w p ([] ++ within_size r.left rest) (16 * t.batches) now) (sym plan) t.makes.made);
  }

-- ---- the header

-- no answer yet
pub unfinished_by : (n : ℕ) (o : Outcome) → Need ≡ answered n o → (between : Bool) × (o ≡ Unfinished between)
unfinished_by n (Unfinished between) e = (between, refl)
unfinished_by n (Faulty fault) e = let never : ⊥ = cc in absurd never
unfinished_by n (Started channels rate size place) e = let never : ⊥ = cc in absurd never

-- the pages of the headers are the first that are given
pub given_begins : (f : FrameFunction) (settings : Settings) (bytes : List ℕ) (channels place : ℕ) (size : Option ℕ) → outcome bytes ≡ Started channels 48000 size place
    → (rest : List ℕ) × (given f settings bytes ≡ headers_for channels ++ rest)
given_begins f settings bytes channels place size e =
    let a = audio_of settings channels bytes in
    let c = coded f a in
    let pages = flat_map spelling (packets_from c 0 (given_packets c (sample_count a))) in
    let one_or_two = (has_begun bytes channels 48000 place size e).channels_are in
    let same : (kind_of (toc_of (coding_of settings) channels)).channels ≡ channels = kind_channels (toc_of (coding_of settings) channels) ∙ (toc_is settings channels one_or_two).channels_are in
    (pages, given_is f settings bytes (Started channels 48000 size place) e ∙ ap (λ n. spelling (head_page n) ++ (spelling tags_page ++ pages)) same ∙ sym (append_assoc (spelling (head_page channels)) (spelling tags_page) pages))

pub headers_failed : (f : FrameFunction) (settings : Settings) (bytes now : List ℕ) (channels place : ℕ) (size : Option ℕ) (old new : Option (List ℕ)) → given f settings bytes ≡ [] → outcome now ≡ Started channels 48000 size place
    → AppendsFront old new (headers_for channels) → AppendsFront old new (given_more f settings bytes now)
headers_failed f settings bytes now channels place size old new none e a =
    let all = given_begins f settings now channels place size e in
    subst (AppendsFront old new) (sym (more_first f settings bytes now (headers_for channels ++ all.0) none all.1)) (longer_front old new (headers_for channels) all.0 a)

-- the samples begin at 48 kHz
pub begins_at : (bytes : List ℕ) (channels rate place : ℕ) (size : Option ℕ) → outcome bytes ≡ Started channels rate size place → rate ≡ 48000 → outcome bytes ≡ Started channels 48000 size place
begins_at bytes channels rate place size e same = e ∙ ap (λ n. Started channels n size place) same

-- a session stands for these bytes, before the samples and among them
pub stands_before : {W : Type 0} (w : FrameWorks W) (s : FrameSession W) (bytes : List ℕ) → s.recording ≡ None → BeforeSamples w s bytes → StandsFor w s bytes
stands_before w s bytes e h = subst (StandsBy w s bytes) (sym e) h

-- no bytes

nothing : outcome [] ≡ Unfinished false
unfolding outcome read
nothing = refl

pub before_nothing : (bytes : List ℕ) → bytes ≡ [] → outcome bytes ≡ Unfinished false
before_nothing bytes e = ap outcome e ∙ nothing

pub given_start : (f : FrameFunction) (settings : Settings) (held : Option (List ℕ)) → Appends held held (given f settings [])
given_start f settings held = subst (Appends held held) (sym (given_none f settings [] false nothing)) (Appends-nil held)
