-- What a session gives is a front of all that is written, and more bytes only add to it.
use Rattle.std.proofs.Common.{◌≡◌, ℕ, ◌+◌, ◌-◌, ◌*◌, ◌/◌, ◌≤◌, ◌<◌, ◌⊎◌, Bool, true, false, List, [], ◌++◌, length, drop, Option, refl, sym, ◌∙◌, ap, subst, arith, append_assoc, append-nil, length-append}
use Rattle.std.specs.Prelude.{is_none}
use Rattle.std.specs.List.{flat_map}
use Rattle.std.proofs.Math.Nat.{mul_comm, mul_assoc, div-div-eq-div-mul, div-mul-le_self}
use Rattle.std.proofs.Math.Seq.{drop-append_seam}
use Rattle.std.proofs.lemmas.Nat.{le-div, mul-le}
use Rattle.celt_base.specs.declared.status.Fault.{Fault}
use Rattle.ogg_pages.specs.Spelling.{spelling}
use Rattle.wav_edge.specs.Reading.{Outcome, outcome, within_size}
use Rattle.wav_edge.specs.Reading.Outcome.{Unfinished, Faulty, Started}
use Rattle.wav_edge.specs.Samples.{samples_of}
use Rattle.wav_edge.proofs.LawLemmas.{is_decided, outcome_stays, IsSound, outcome_sound}
use Rattle.wav_edge.proofs.ReaderLemmas.{readable_bounds}
use Rattle.celt_session.specs.declared.plan.Plan.{Plan}
use Rattle.celt_session.specs.declared.settings.Settings.{Settings}
use Rattle.celt_session.specs.Encoding.{coding_of, toc_of}
use Rattle.celt_session.specs.Encodings.{AreSettings, pages_by, fault_of, full, running}
use Rattle.celt_session.specs.Frames.{kind_of, duration}
use Rattle.celt_session.specs.FrameWorks.{FrameWorks}
use Rattle.celt_session.specs.Packers.{pages_text}
use Rattle.celt_session.specs.Makers.{group_bytes, plan_frame, settled_for, frames_for, last_for}
use Rattle.celt_session.specs.FrameSessions.{given, given_more, full_more, running_more, left_of}
use Rattle.celt_session.proofs.Planned.{toc_is, duration_for, few_frames}
use Rattle.celt_session.proofs.MakerLemmas.{plan_sizes}
use Rattle.celt_session.proofs.PacketLemmas.{text_from}
use Rattle.celt_session.proofs.LastFrames.{settled_is}
use Rattle.celt_session.proofs.GivenPages.{IsPlanOf, headers_for, packets_for, given_begins, all_ended, all_settled, least_packets, frames_within}
use Rattle.celt_session.proofs.FeedingSamples.{GoOn, given_split, given_none, given_faulty, taken_bytes, samples_are, has_begun, text_stays}

-- the plan of the settings
plan_for : (settings : Settings) (channels : ℕ) → AreSettings settings → (channels ≡ 1) ⊎ (channels ≡ 2) → Plan
plan_for settings channels h c = record {
  toc = toc_of (coding_of settings) channels;
  kind = kind_of (toc_of (coding_of settings) channels);
  samples = duration (kind_of (toc_of (coding_of settings) channels));
  bytes = settings.bytes;
  group = settings.group;
  celt = (toc_is settings channels c).celt;
  code = (toc_is settings channels c).code;
  kind_is = refl;
  samples_is = refl;
  least = h.least;
  most = h.most;
  some = h.some;
  few = few_frames settings h;
  short = subst (λ n. settings.group * n ≤ 5760) (sym (duration_for settings channels h c)) h.short;
}

-- the samples have begun, at 48 kHz
pub record Begun (bytes : List ℕ) : Type 0 where
  pub channels : ℕ
  pub size : Option ℕ
  pub place : ℕ
  pub is : outcome bytes ≡ Started channels 48000 size place

abbrev begun_at : (bytes : List ℕ) (channels rate place : ℕ) (size : Option ℕ) → outcome bytes ≡ Started channels rate size place → Begun bytes
begun_at bytes channels rate place size e =
    let sound : IsSound (length bytes) (Started channels rate size place) = subst (IsSound (length bytes)) e (outcome_sound bytes) in
    let bounds = readable_bounds channels rate sound.0 in
    record { channels = channels; size = size; place = place; is = e ∙ ap (λ n. Started channels n size place) bounds.2 }

module _ {W : Type 0} (w : FrameWorks W) (settings : Settings) (ok : AreSettings settings) where
  plan_at : (bytes : List ℕ) → Begun bytes → Plan
  plan_at bytes b = plan_for settings b.channels ok (has_begun bytes b.channels 48000 b.place b.size b.is).channels_are

  plan_at_is : (bytes : List ℕ) (b : Begun bytes) → IsPlanOf (plan_at bytes b) settings b.channels (within_size b.size (drop b.place bytes)) bytes
  unfolding plan_at plan_for
  plan_at_is bytes b = record {
    toc = refl;
    bytes_are = refl;
    group = refl;
    channels_are = (has_begun bytes b.channels 48000 b.place b.size b.is).channels_are;
    samples_are = samples_are bytes b.channels 48000 b.place b.size b.is;
  }

  module _ (plan : Plan) (bytes : List ℕ) (b : Begun bytes) (plan_is : IsPlanOf plan settings b.channels (within_size b.size (drop b.place bytes)) bytes) where
    abbrev heard : List ℕ
    heard = within_size b.size (drop b.place bytes)

    abbrev frame : ℕ → List ℕ
    frame = plan_frame w.function plan heard

    -- the packets that are given are among all
    abbrev whole : ℕ
    whole = length heard / 2 / plan.kind.channels / plan.samples

    made_first : packets_for plan heard * plan.group ≤ whole
    made_first =
        let n = length heard / 2 / plan.kind.channels in
        let a = div-mul-le_self (16 * (n / (16 * plan.samples))) plan.group in
        let b : n / (16 * plan.samples) ≡ n / plan.samples / 16 = ap (λ k. n / k) (mul_comm 16 plan.samples) ∙ sym (div-div-eq-div-mul n plan.samples 16) in
        omega arith

    settled_first : packets_for plan heard ≤ settled_for plan heard
    settled_first =
        let some = plan.some in
        subst (λ n. packets_for plan heard ≤ n) (sym (settled_is plan heard whole refl)) (le-div (packets_for plan heard) whole plan.group (omega arith) made_first)

    last_first : packets_for plan heard ≤ (frames_for plan heard - 1) / plan.group
    last_first =
        let some = plan.some in
        let s = plan_sizes plan in
        let t = s.0 in
        let n = length heard / 2 / plan.kind.channels in
        let below : (whole + 1) * plan.samples ≤ 120 + n + plan.samples - 1 = let c = div-mul-le_self n plan.samples in let d = Rattle.std.proofs.Math.Nat.add-mul whole 1 plan.samples in let e = Rattle.std.proofs.Math.Nat.one-mul plan.samples in omega arith in
        let more = le-div (whole + 1) (120 + n + plan.samples - 1) plan.samples (omega arith) below in
        let first = made_first in
        le-div (packets_for plan heard) (frames_for plan heard - 1) plan.group (omega arith) (omega arith)

    -- so all begins with what is given
    running_text : flat_map spelling (pages_by w.function settings (Started b.channels 48000 b.size b.place) bytes false) ≡ headers_for b.channels ++ pages_text plan frame 0 (settled_for plan heard)
    running_text = all_settled w.function plan settings b.channels heard bytes plan_is b.size b.place

    ended_all : flat_map spelling (pages_by w.function settings (Started b.channels 48000 b.size b.place) bytes true) ≡ headers_for b.channels ++ (pages_text plan frame 0 ((frames_for plan heard - 1) / plan.group) ++ spelling (last_for frame plan heard))
    ended_all = all_ended w.function plan settings b.channels heard bytes plan_is b.size b.place

    either_split : (ends : Bool) → (rest : List ℕ) × (flat_map spelling (pages_by w.function settings (Started b.channels 48000 b.size b.place) bytes ends) ≡ given w.function settings bytes ++ rest)
    either_split true =
        (_, given_begins w.function plan settings b.channels heard bytes plan_is b.size b.place b.is _ (spelling (last_for frame plan heard)) ((frames_for plan heard - 1) / plan.group) ended_all last_first)
    either_split false = (
      _,
      given_begins w.function plan settings b.channels heard bytes plan_is b.size b.place b.is _ [] (settled_for plan heard)
          (running_text ∙ ap (λ l. headers_for b.channels ++ l) (sym (append-nil (pages_text plan frame 0 (settled_for plan heard))))) settled_first,
    )

    -- ---- pages that no later byte changes

    -- the frames whose samples are all there
    whole_within : group_bytes plan.kind.channels (whole * plan.samples) ≤ length heard
    whole_within =
        let n = length heard / 2 / plan.kind.channels in
        let a = div-mul-le_self n plan.samples in
        let b = div-mul-le_self (length heard / 2) plan.kind.channels in
        let c = mul-le plan.kind.channels (whole * plan.samples) plan.kind.channels n (omega arith) a in
        let d = mul_comm n plan.kind.channels in
        omega arith

    settled_whole : settled_for plan heard * plan.group ≤ whole
    settled_whole = subst (λ n. n * plan.group ≤ whole) (sym (settled_is plan heard whole refl)) (div-mul-le_self whole plan.group)

    least_settled : (p : ℕ) → p * plan.group ≤ whole → p ≤ settled_for plan heard
    least_settled p h = let some = plan.some in subst (λ n. p ≤ n) (sym (settled_is plan heard whole refl)) (le-div p whole plan.group (omega arith) h)

    least_ended : (p : ℕ) → p * plan.group ≤ whole → p ≤ (frames_for plan heard - 1) / plan.group
    least_ended p h =
        let some = plan.some in
        let s = plan_sizes plan in
        let t = s.0 in
        let n = length heard / 2 / plan.kind.channels in
        let below : (whole + 1) * plan.samples ≤ 120 + n + plan.samples - 1 = let c = div-mul-le_self n plan.samples in let d = Rattle.std.proofs.Math.Nat.add-mul whole 1 plan.samples in let e = Rattle.std.proofs.Math.Nat.one-mul plan.samples in omega arith in
        let more = le-div (whole + 1) (120 + n + plan.samples - 1) plan.samples (omega arith) below in
        le-div p (frames_for plan heard - 1) plan.group (omega arith) (omega arith)

    abbrev extra : List ℕ → List ℕ
    extra more = within_size (left_of b.size (length bytes - b.place)) more

    abbrev later : (more : List ℕ) → Begun (bytes ++ more)
    later more = record { channels = b.channels; size = b.size; place = b.place; is = outcome_stays bytes more (ap is_decided b.is) ∙ b.is }

    heard_later : (more : List ℕ) → within_size b.size (drop b.place (bytes ++ more)) ≡ heard ++ extra more
    heard_later more = taken_bytes b.size b.place bytes more (has_begun bytes b.channels 48000 b.place b.size b.is).there

    goes_on : (more : List ℕ) → GoOn plan settings b.channels b.size b.place heard (extra more) bytes (bytes ++ more)
    goes_on more = record {
      before = plan_is;
      after = record {
        toc = plan_is.toc;
        bytes_are = plan_is.bytes_are;
        group = plan_is.group;
        channels_are = plan_is.channels_are;
        samples_are = samples_are (bytes ++ more) b.channels 48000 b.place b.size (later more).is ∙ ap samples_of (heard_later more);
      };
      begun = b.is;
      going = (later more).is;
    }

    -- and more bytes only add to it
    more_split : (more : List ℕ) → (rest : List ℕ) × (given w.function settings (bytes ++ more) ≡ given w.function settings bytes ++ rest)
    more_split more =
        let batches = length heard / 2 / plan.kind.channels / (16 * plan.samples) in
        let within = frames_within plan heard in
        let some = div-mul-le_self (16 * batches) plan.group in
        let longer = length-append heard (extra more) in
        let ahead = least_packets plan (heard ++ extra more) batches (packets_for plan heard) (omega arith) some in
        (_, given_split w settings plan b.channels b.place b.size heard (extra more) bytes (bytes ++ more) (goes_on more) batches (packets_for plan heard) within some refl ahead)

  -- the pages that no later byte changes begin all that is written of more bytes
  whole_least : (plan : Plan) (heard : List ℕ) (t : ℕ) → group_bytes plan.kind.channels (t * plan.samples) ≤ length heard → t ≤ length heard / 2 / plan.kind.channels / plan.samples
  whole_least plan heard t h =
      let c = plan.kind.channels in
      let n = plan.samples in
      let s = plan_sizes plan in
      let u = s.0 in
      let some = plan.kind.some_channel in
      let size : t * (2 * c * n) ≡ group_bytes c (t * n) = let a = mul_comm t (2 * c * n) in let d = mul_assoc (2 * c) n t in let e = mul_comm n t in let f = ap (λ k. 2 * c * k) e in let g = mul_assoc 2 c (t * n) in omega arith in
      let positive : 0 < 2 * c * n = let a = mul-le 2 120 (2 * c) n (omega arith) (omega arith) in omega arith in
      let least = le-div t (length heard) (2 * c * n) positive (omega arith) in
      subst (λ k. t ≤ k) (sym (ap (λ k. k / n) (div-div-eq-div-mul (length heard) 2 c) ∙ div-div-eq-div-mul (length heard) (2 * c) n)) least

  module _ (plan : Plan) (bytes more : List ℕ) (b : Begun bytes) (is : IsPlanOf plan settings b.channels (within_size b.size (drop b.place bytes)) bytes) where
    abbrev b' : Begun (bytes ++ more)
    b' = later plan bytes b is more

    same : within_size b.size (drop b.place (bytes ++ more)) ≡ heard plan bytes b is ++ extra plan bytes b is more
    same = heard_later plan bytes b is more

    is' : IsPlanOf plan settings b.channels (within_size b.size (drop b.place (bytes ++ more))) (bytes ++ more)
    is' = subst (λ l. IsPlanOf plan settings b.channels l (bytes ++ more)) (sym same) (goes_on plan bytes b is more).after

    abbrev settled : ℕ
    settled = settled_for plan (heard plan bytes b is)

    abbrev frame' : ℕ → List ℕ
    frame' = plan_frame w.function plan (within_size b.size (drop b.place (bytes ++ more)))

    pages_same : pages_text plan frame' 0 settled ≡ pages_text plan (plan_frame w.function plan (heard plan bytes b is)) 0 settled
    pages_same =
        ap (λ l. pages_text plan (plan_frame w.function plan l) 0 (settled_for plan (heard plan bytes b is))) same
        ∙ text_stays w.function plan (heard plan bytes b is) (extra plan bytes b is more) (whole plan bytes b is) (settled_for plan (heard plan bytes b is)) (whole_within plan bytes b is) (settled_whole plan bytes b is)

    more_whole : settled * plan.group ≤ whole plan (bytes ++ more) b' is'
    more_whole =
        let len = ap length same ∙ length-append (heard plan bytes b is) (extra plan bytes b is more) in
        let within = whole_within plan bytes b is in
        let least = whole_least plan (within_size b.size (drop b.place (bytes ++ more))) (whole plan bytes b is) (omega arith) in
        let s = settled_whole plan bytes b is in
        omega arith

    join : (all text : List ℕ) (packets : ℕ) → all ≡ headers_for b.channels ++ (pages_text plan frame' 0 packets ++ text) → settled ≤ packets
        → all ≡ flat_map spelling (pages_by w.function settings (Started b.channels 48000 b.size b.place) bytes false) ++ (pages_text plan frame' settled (packets - settled) ++ text)
    join all text packets e ahead =
        let rest = pages_text plan frame' settled (packets - settled) in
        e ∙ ap (λ l. headers_for b.channels ++ (l ++ text)) (text_from plan frame' settled packets ahead ∙ ap (λ l. l ++ rest) pages_same)
        ∙ ap (λ l. headers_for b.channels ++ l) (append_assoc (pages_text plan (plan_frame w.function plan (heard plan bytes b is)) 0 settled) rest text)
        ∙ sym (append_assoc (headers_for b.channels) (pages_text plan (plan_frame w.function plan (heard plan bytes b is)) 0 settled) (rest ++ text))
        ∙ ap (λ l. l ++ (rest ++ text)) (sym (running_text plan bytes b is))

    running_split : (ends : Bool) → (rest : List ℕ) × (flat_map spelling (pages_by w.function settings (Started b.channels 48000 b.size b.place) (bytes ++ more) ends)
        ≡ flat_map spelling (pages_by w.function settings (Started b.channels 48000 b.size b.place) bytes false) ++ rest)
    running_split true = (
      _,
      join _ (spelling (last_for frame' plan (within_size b.size (drop b.place (bytes ++ more))))) ((frames_for plan (within_size b.size (drop b.place (bytes ++ more))) - 1) / plan.group)
          (ended_all plan (bytes ++ more) b' is') (least_ended plan (bytes ++ more) b' is' settled more_whole),
    )
    running_split false = (
      _,
      join _ [] (settled_for plan (within_size b.size (drop b.place (bytes ++ more))))
          (running_text plan (bytes ++ more) b' is' ∙ ap (λ l. headers_for b.channels ++ l) (sym (append-nil (pages_text plan frame' 0 (settled_for plan (within_size b.size (drop b.place (bytes ++ more))))))))
          (least_settled plan (bytes ++ more) b' is' settled more_whole),
    )

  -- ---- for all bytes

  all_split : (bytes : List ℕ) (ends : Bool) (o : Outcome) → outcome bytes ≡ o → (rest : List ℕ) × (flat_map spelling (pages_by w.function settings o bytes ends) ≡ given w.function settings bytes ++ rest)
  all_split bytes ends (Unfinished between) e = ([], sym (append-nil (given w.function settings bytes) ∙ given_none w.function settings bytes between e))
  all_split bytes ends (Faulty fault) e = ([], sym (append-nil (given w.function settings bytes) ∙ given_faulty w.function settings bytes fault e))
  all_split bytes ends (Started channels rate size place) e =
      let b = begun_at bytes channels rate place size e in
      let s = either_split (plan_at bytes b) bytes b (plan_at_is bytes b) ends in
      let same : Started channels rate size place ≡ Started channels 48000 size place = sym e ∙ b.is in
      (s.0, ap (λ (o : Outcome). flat_map spelling (pages_by w.function settings o bytes ends)) same ∙ s.1)

  pub full_joins : (bytes : List ℕ) → full w.function settings bytes ≡ given w.function settings bytes ++ full_more w.function settings bytes
  unfolding full_more full
  full_joins bytes =
      let s = all_split bytes (is_none (fault_of bytes)) (outcome bytes) refl in
      s.1 ∙ ap (λ l. given w.function settings bytes ++ l) (sym (ap (drop (length (given w.function settings bytes))) s.1 ∙ drop-append_seam (given w.function settings bytes) s.0))

  pub running_joins : (bytes : List ℕ) → running w.function settings bytes ≡ given w.function settings bytes ++ running_more w.function settings bytes
  unfolding running_more running
  running_joins bytes =
      let s = all_split bytes false (outcome bytes) refl in
      s.1 ∙ ap (λ l. given w.function settings bytes ++ l) (sym (ap (drop (length (given w.function settings bytes))) s.1 ∙ drop-append_seam (given w.function settings bytes) s.0))

  more_by : (bytes more : List ℕ) (o : Outcome) → outcome bytes ≡ o → (rest : List ℕ) × (given w.function settings (bytes ++ more) ≡ given w.function settings bytes ++ rest)
  more_by bytes more (Unfinished between) e = (given w.function settings (bytes ++ more), ap (λ l. l ++ given w.function settings (bytes ++ more)) (sym (given_none w.function settings bytes between e)))
  more_by bytes more (Faulty fault) e = (given w.function settings (bytes ++ more), ap (λ l. l ++ given w.function settings (bytes ++ more)) (sym (given_faulty w.function settings bytes fault e)))
  more_by bytes more (Started channels rate size place) e = let b = begun_at bytes channels rate place size e in more_split (plan_at bytes b) bytes b (plan_at_is bytes b) more

  pub given_joins : (bytes more : List ℕ) → given w.function settings (bytes ++ more) ≡ given w.function settings bytes ++ given_more w.function settings bytes (bytes ++ more)
  unfolding given_more
  given_joins bytes more =
      let s = more_by bytes more (outcome bytes) refl in
      s.1 ∙ ap (λ l. given w.function settings bytes ++ l) (sym (ap (drop (length (given w.function settings bytes))) s.1 ∙ drop-append_seam (given w.function settings bytes) s.0))

  -- ---- a fault that more bytes do not mend

  -- its stream is empty, whatever follows
  pub full_faulty : (bytes : List ℕ) (fault : Fault) → outcome bytes ≡ Faulty fault → full w.function settings bytes ≡ []
  unfolding full
  full_faulty bytes fault e = ap (λ (o : Outcome). flat_map spelling (pages_by w.function settings o bytes (is_none (fault_of bytes)))) e

  -- ---- more bytes only add pages

  pages_by_front : (bytes more : List ℕ) (ends : Bool) (o : Outcome) → outcome bytes ≡ o
      → (rest : List ℕ) × (flat_map spelling (pages_by w.function settings (outcome (bytes ++ more)) (bytes ++ more) ends) ≡ flat_map spelling (pages_by w.function settings o bytes false) ++ rest)
  pages_by_front bytes more ends (Unfinished between) e = (_, refl)
  pages_by_front bytes more ends (Faulty fault) e = (_, refl)
  pages_by_front bytes more ends (Started channels rate size place) e =
      let b = begun_at bytes channels rate place size e in
      let s = running_split (plan_at bytes b) bytes more b (plan_at_is bytes b) ends in
      let still = outcome_stays bytes more (ap is_decided b.is) ∙ b.is in (
        s.0,
        ap (λ (o : Outcome). flat_map spelling (pages_by w.function settings o (bytes ++ more) ends)) still ∙ s.1
            ∙ ap (λ (o : Outcome). flat_map spelling (pages_by w.function settings o bytes false) ++ s.0) (sym b.is ∙ e),
      )

  pub full_front : (bytes more : List ℕ) → (rest : List ℕ) × (full w.function settings (bytes ++ more) ≡ running w.function settings bytes ++ rest)
  unfolding full running
  full_front bytes more = pages_by_front bytes more (is_none (fault_of (bytes ++ more))) (outcome bytes) refl

  pub running_front : (bytes more : List ℕ) → (rest : List ℕ) × (running w.function settings (bytes ++ more) ≡ running w.function settings bytes ++ rest)
  unfolding running
  running_front bytes more = pages_by_front bytes more false (outcome bytes) refl
